use Rattle.std.proofs.Common.{◌≡◌, map, take}
use Rattle.cal_context.specs.Tree.{attribute_at}
use Rattle.cal_engine.specs.Learning.{learned, plain_names}
use Rattle.cal_engine.specs.Visiting.{KnowsNames}
use Rattle.cal_engine.proofs.shown_names.ShownNames.learn_trail.Given as goal

abbrev pub invariant-loop-attribute : goal.invariant-loop-attribute
invariant-loop-attribute l = record {
  knows : KnowsNames l.context l.self;
  names : l.self.names.keys ≡ learned l.initial.self.names.keys (plain_names (map (attribute_at l.context) (take l.attribute-index l.trail)));
}

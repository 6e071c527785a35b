use Rattle.std.proofs.Common.{◌≡◌, false, map, take}
use Rattle.cal_context.specs.Snapshots.{entry_of}
use Rattle.cal_engine.specs.Learning.{learned, names_beside}
use Rattle.cal_engine.specs.Visiting.{KnowsNames}
use Rattle.cal_engine.proofs.shown_names.ShownNames.learn_immediates.Given as goal

abbrev pub invariant-loop-imm : goal.invariant-loop-imm
invariant-loop-imm l = record {
  knows : KnowsNames l.context l.self;
  names : l.self.names.keys ≡ learned l.initial.self.names.keys (names_beside false (map (entry_of l.context) (take l.imm-index l.imms)));
}

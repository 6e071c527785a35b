use Rattle.std.proofs.Common.{take}
use Rattle.std.specs.List.{All, AllZip}
use Rattle.cal_context.specs.Tree.{Grows}
use Rattle.cal_filter.specs.Latest.{AreNamed}
use Rattle.cal_filter.specs.Ready.{IsDefinition}
use Rattle.cal_filter.proofs.filter.definitions_of.Given as goal

-- the definitions before this one are made
abbrev pub invariant-loop-definition : goal.invariant-loop-definition
invariant-loop-definition l = record {
  grows : Grows l.fn.context l.context;
  ready : AllZip (IsDefinition l.context) (take l.definition-index l.lets) l.definitions.items;
  named : All (AreNamed l.names.keys) l.definitions.items;
}

use Rattle.std.proofs.Common.{take}
use Rattle.std.specs.List.{AllZip}
use Rattle.cal_context.specs.Tree.{Grows}
use Rattle.cal_groups.specs.Columns.{IsColumn}
use Rattle.cal_groups.proofs.columns.columns_of.Given as goal

-- the columns of the attributes so far
abbrev pub invariant-loop-value : goal.invariant-loop-value
invariant-loop-value l = record {
  columns : AllZip (IsColumn l.context) (take l.value-index l.values) l.columns.items;
  grows : Grows l.fn.context l.context;
}

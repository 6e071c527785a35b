use Rattle.std.proofs.Common.{◌≡◌, ◌++◌, take}
use Rattle.std.specs.List.{All, flat_map}
use Rattle.cal_journal.specs.Printing.{op_text}
use Rattle.cal_journal.specs.ReadBack.{HoldsOp}
use Rattle.cal_journal.proofs.printing.push_ops.Given as goal

-- the operations so far are printed
abbrev pub invariant-loop-op : goal.invariant-loop-op
invariant-loop-op l = record {
  text : l.out ≡ l.fn.out ++ flat_map op_text (take l.op-index l.ops);
  held : All HoldsOp (take l.op-index l.ops);
}

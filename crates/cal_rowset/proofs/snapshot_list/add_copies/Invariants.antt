use Rattle.std.proofs.Common.{◌≡◌, ◌++◌, take}
use Rattle.cal_rowset.proofs.snapshot_list.add_copies.Given as goal

abbrev pub invariant-loop-imm : goal.invariant-loop-imm
invariant-loop-imm l = l.imms.items ≡ l.fn.imms.items ++ take l.imm-index l.others

use Rattle.std.proofs.Common.{take}
use Rattle.cal_context.specs.Tree.{Tree}
use Rattle.cal_keys.specs.Moves.{AreMovedAttributes, AreMovedImms}
use Rattle.cal_keys.proofs.appending.moved_imms.Given as goal

abbrev pub invariant-loop-imm : goal.invariant-loop-imm
invariant-loop-imm l = (t u : Tree) → AreMovedAttributes t u l.attributes → AreMovedImms t u (take l.imm-index l.imms) l.moved.items

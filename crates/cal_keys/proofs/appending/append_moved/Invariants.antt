use Rattle.std.proofs.Common.{◌++◌, List, take}
use Rattle.cal_context.specs.Tree.{IsContext, Tree}
use Rattle.cal_value.specs.declared.record.Rec.{Rec}
use Rattle.cal_keys.specs.Moves.{AreMovedAttributes, AreMovedNodes}
use Rattle.cal_keys.specs.SnapshotRows.{AreRows}
use Rattle.cal_keys.proofs.appending.append_moved.Given as goal

-- the rows so far are appended
abbrev pub invariant-loop-place : goal.invariant-loop-place
invariant-loop-place l = (t u : Tree) (ks ls : List Rec) → IsContext t → IsContext u → AreMovedAttributes t u l.attributes → AreMovedNodes t u l.nodes
    → AreRows u l.fn.rows ks → AreRows t l.others ls → AreRows u l.rows (ks ++ take l.place ls)

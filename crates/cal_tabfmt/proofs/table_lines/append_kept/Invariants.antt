use Rattle.std.proofs.Common.{◌≡◌, ℕ, List, ◌++◌, drop, length}
use Rattle.cal_tabfmt.specs.Ends.{HasLine, front_of_line}
use Rattle.cal_tabfmt.specs.Kept.{AreLeft}
use Rattle.cal_tabfmt.proofs.table_lines.append_kept.Given as goal

abbrev pub invariant-loop-place : goal.invariant-loop-place
invariant-loop-place l = (line more : List (List ℕ)) → length line ≡ l.count → AreLeft l.texts l.fn.from (line ++ more)
    → HasLine l.fn.out l.out l.pending (front_of_line l.shapes line l.place) × AreLeft l.texts l.mark (drop l.place line ++ more)

use Rattle.std.proofs.Common.{◌≡◌, ◌+◌, ◌≤◌, ℕ, Bool, length}
use Rattle.std.specs.Prelude.{sum_by}
use Rattle.std.specs.List.{All}
use Rattle.std.specs.Vec.{vec_capacity, vec_len}
use Rattle.indexmap.specs.IndexSet.{spare}
use Rattle.cal_table.specs.declared.key.TableKey.{TableKey}
use Rattle.cal_table.specs.Held.{IsHeld, size}
use Rattle.cal_table.specs.Rows.{both_held, rows_of, tally}
use Rattle.cal_table.proofs.putting.pour_back.Given as goal

-- what was put and what is left come to what both lists came to, and there is room for what is left
abbrev pub invariant-loop-row : goal.invariant-loop-row
invariant-loop-row l = record {
  long : length l.keys.keys ≡ length l.rows.items;
  more_long : length l.more_keys ≡ length l.more_rows.items;
  key_room : length l.more_rows.items ≤ spare l.keys;
  row_room : vec_len l.rows + length l.more_rows.items ≤ vec_capacity l.rows;
  each : (cells : ℕ) → All (IsHeld cells) l.initial.rows.items → All (IsHeld cells) l.initial.more_rows.items
      → All (IsHeld cells) l.rows.items × All (IsHeld cells) l.more_rows.items;
  total : sum_by size l.rows.items + sum_by size l.more_rows.items
      ≡ sum_by size l.initial.rows.items + sum_by size l.initial.more_rows.items;
  tally : (asked : TableKey → Bool)
      → both_held (tally asked (rows_of l.keys.keys l.rows.items)) (tally asked (rows_of l.more_keys l.more_rows.items))
      ≡ both_held (tally asked (rows_of l.initial.keys.keys l.initial.rows.items)) (tally asked (rows_of l.initial.more_keys l.initial.more_rows.items));
}

abbrev pub decreases-loop-row : goal.decreases-loop-row
decreases-loop-row l = goal.left-loop-row l

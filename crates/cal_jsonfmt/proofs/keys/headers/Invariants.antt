use Rattle.std.proofs.Common.{◌≡◌, ℕ, ◌<◌, true}
use Rattle.std.specs.BTreeSet.{contains}
use Rattle.cal_value.specs.Texts.{text_cmp}
use Rattle.cal_rowset.specs.Showing.{nth_column}
use Rattle.cal_jsonfmt.proofs.keys.headers.Given as goal

-- the headers so far are there
abbrev pub invariant-loop-column : goal.invariant-loop-column
invariant-loop-column l = (k : ℕ) → k < l.column-index
    → contains text_cmp l.names (nth_column l.columns k).header ≡ true

-- What the limits count (private).
use Rattle.std.specs.Prelude.{ℕ, ◌+◌, ◌≤◌, max}
use Rattle.cal_declarations.specs.declared.counts.Counts.{Counts}

-- where the next thread begins
abbrev pub next_thread : Counts → Counts
next_thread counts = record counts { own = 0; most = max counts.most counts.own }

-- one declaration more, whose record has so many words
abbrev pub counted : ℕ → Counts → Counts
counted words counts = record counts { lines = counts.lines + 1; own = counts.own + words }

-- the words of the largest thread
abbrev pub arena : Counts → ℕ
arena counts = max counts.most counts.own

-- the counts are small enough to be counted on
pub record IsFew (counts : Counts) : Type 0 where
  pub lines : counts.lines ≤ 1048577
  pub own : counts.own ≤ 134217728 + 29
  pub most : counts.most ≤ 134217728 + 29

use Rattle.std.specs.Prelude.{ℕ, Bool, ◌+◌, if◌then◌else◌}

-- the number of openings after one that did well or failed
abbrev pub openings_after : Bool → ℕ → ℕ
openings_after well openings = if well then openings + 1 else openings

-- What an opener over std's files counts: reads and openings that failed, and openings that did
-- well.
pub record Counts : Type 0 where
  pub read_faults : ℕ
  pub open_faults : ℕ
  pub openings : ℕ

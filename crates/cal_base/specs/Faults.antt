use Rattle.std.specs.Prelude.{ℕ, Bool, ◌+◌, ◌-◌, ◌^◌, ◌<◌, ◌≤◌, min, OnErr, Result, if◌then◌else◌}

-- the number after this one in a counter of 64 bits, which stays at its last value (ours)
abbrev pub counted_on : ℕ → ℕ
counted_on count = min (count + 1) (2 ^ 64 - 1)

-- a count of faults after a call that did well or failed
abbrev pub faults_after : Bool → ℕ → ℕ
faults_after well faults = if well then faults else counted_on faults

-- A count of faults rose: now it is greater than before, or stands at its last value (ours).
abbrev pub Rose : ℕ → ℕ → Type 0
Rose before now = counted_on before ≤ now

-- What each call does to the count of faults: it never falls, it stays within 64 bits, and where
-- the call fails it rose (ours).
pub record HasCause {T E : Type 0} (before now : ℕ) (result : Result T E) : Type 0 where
  pub later : before ≤ now
  pub within : now < 2 ^ 64
  pub failed : OnErr result (Rose before now)

-- What a function does that answers a probe.
use Rattle.std.specs.Prelude.{◌≡◌, ℕ, ◌<◌, ◌^◌, List}
use denote.Ref.{Bor}
use Rattle.cal_run.specs.Snapshots.{CanBeAsked, probe_value}
use Rattle.cal_script.specs.declared.script.ProbeKind.{ProbeKind}

-- The function may be called wherever a probe may be asked, whatever the reading is, and then
-- answers the probe of the kind: `pre` are the arguments at which it may be called, and `post` says
-- which results a call may give.
pub record IsProbeOf (kind : ProbeKind) (pre : Bor (List ℕ) → ℕ → Type 0)
    (post : Bor (List ℕ) → ℕ → ℕ → Type 0) : Type 0 where
  pub callable : (depths : Bor (List ℕ)) (reading : ℕ) → CanBeAsked depths.now
      → reading < 2 ^ 64 → pre depths reading
  pub answers : (depths : Bor (List ℕ)) (reading result : ℕ) → CanBeAsked depths.now
      → reading < 2 ^ 64 → post depths reading result → result ≡ probe_value kind depths.now

-- Runners with their clocks, before and behind their lines.
use Rattle.std.specs.Prelude.{◌≡◌, ℕ, ◌<◌, true, List, length, map, Option, slice_index_or}
use Rattle.cal_crew.specs.Ran.{HasRun}
use Rattle.cal_crew.specs.declared.shift.Shift.{Shift}
use Rattle.cal_keeping.specs.Hands.{AccountOf}
use Rattle.cal_keeping.specs.declared.runner.Runner.{Runner}
use Rattle.cal_replay.specs.declared.shared.Shared.{Shared}
use Rattle.cal_table.specs.declared.shape.TableShape.{TableShape}

module _ {P H K : Type 0} where
  -- the runners and the clocks of shifts
  abbrev pub runners_of : List (Shift P H K) → List (Runner P H)
  runners_of shifts = map (λ (s : Shift P H K). s.runner) shifts

  abbrev pub clocks_of : List (Shift P H K) → List K
  clocks_of shifts = map (λ (s : Shift P H K). s.clock) shifts

  module _ (account : H → ℕ → AccountOf) (takes : H → ℕ → List TableShape → Type 0)
      (stays : H → H → Type 0) (shared : Shared) (given : K → Option (List ℕ)) where
    -- A shift that says so has run all its lines.
    pub record HasShifted (old new : Shift P H K) : Type 0 where
      pub whole : new.ran ≡ true → HasRun account takes stays shared given old.runner new.runner
          old.clock new.clock

    -- and so has each of these
    abbrev pub HaveShifted : (old new : List (Shift P H K)) → Type 0
    HaveShifted old new = (place : ℕ) (d : Shift P H K) → place < length old
        → HasShifted (slice_index_or old place d) (slice_index_or new place d)

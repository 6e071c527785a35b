-- What the clocks of a run were asked.
use Rattle.std.specs.Prelude.{◌≡◌, ℕ, Bool, List, drop, length, Option, Some, slice_get}
use Rattle.cal_crew.specs.Ran.{HasToldAll}
use Rattle.cal_script.specs.declared.journal.Journal.{Journal}
use Rattle.cal_script.specs.declared.journal.ThreadNote.{ThreadNote}

module _ {K : Type 0} (given : K → Option (List ℕ)) where
  -- Each thread's clock, at the thread's place, was asked for the readings that are noted of the
  -- thread, and for no other: none, where the run goes by the script's clock. Further clocks are as
  -- before.
  pub record AreToldAll (real : Bool) (notes : List ThreadNote) (was is : List K) : Type 0 where
    pub many : length is ≡ length was
    pub each : (thread : ℕ) (note : ThreadNote) (before behind : K)
        → slice_get notes thread ≡ Some note → slice_get was thread ≡ Some before
        → slice_get is thread ≡ Some behind → HasToldAll given real before behind note
    pub others : drop (length notes) is ≡ drop (length notes) was

  -- so it is by a journal
  abbrev pub HaveToldAll : Journal → (was is : List K) → Type 0
  HaveToldAll journal was is = AreToldAll journal.real journal.threads was is

-- Where readings come from: off a clock of the thread's own where a run goes by real clocks, and
-- else off the script's.
use Rattle.std.specs.Prelude.{◌≡◌, ℕ, Bool, true, false, List, [], ◌∷◌, Option, Some, None}
use Rattle.std.specs.Prelude.{filter_map}
use Rattle.cal_base.specs.Told.{Gives}
use Rattle.cal_script.specs.declared.journal.LineNote.{LineNote}

-- A clock was asked for this reading, which it tells; where there is none, it wasn't asked.
abbrev pub Asked : {K : Type 0} → (given : K → Option (List ℕ)) → (old new : K) → Option ℕ → Type 0
Asked given old new (Some reading) = Gives (given old) (given new) (reading ∷ [])
Asked given old new None = new ≡ old

-- what a clock is asked for a reading: nothing where the clock is the script's
abbrev pub off_clock : (real : Bool) → Option ℕ → Option ℕ
off_clock true reading = reading
off_clock false reading = None

-- A clock was asked for these readings, one after another, where the run goes by real clocks; else
-- it wasn't asked.
abbrev pub AskedFor : {K : Type 0} → (given : K → Option (List ℕ)) → (real : Bool) → (old new : K)
    → List ℕ → Type 0
AskedFor given true old new readings = Gives (given old) (given new) readings
AskedFor given false old new readings = new ≡ old

-- the readings of lines, in order
abbrev pub readings_of : List LineNote → List ℕ
readings_of notes = filter_map (λ (n : LineNote). n.reading) notes

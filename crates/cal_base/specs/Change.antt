-- What a call did to a stream that it was lent.
use Rattle.std.specs.Prelude.{ℕ, List, Option}
use Rattle.cal_base.specs.Faults.{Rose}

-- The bytes that a stream tells, left in a source or written to a sink, and its count of faults:
-- before the call and after it (ours).
pub record Change : Type 0 where
  pub old : Option (List ℕ)
  pub new : Option (List ℕ)
  pub faults_before : ℕ
  pub faults_now : ℕ

-- the change of a stream, of what it tells and of how it counts
abbrev pub change_of : {Stream : Type 0} → (Stream → Option (List ℕ)) → (Stream → ℕ)
    → Stream → Stream → Change
change_of told faults old new = record {
  old = told old;
  new = told new;
  faults_before = faults old;
  faults_now = faults new;
}

-- the stream failed in the call
abbrev pub HasFailed : Change → Type 0
HasFailed stream = Rose stream.faults_before stream.faults_now

-- What a call did to an opener that it was lent.
use Rattle.std.specs.Prelude.{ℕ, List, Option}
use Rattle.cal_base.specs.Faults.{Rose}

-- What an opener tells of names, its number of openings, and its counts of openings and of reads
-- that failed: before the call and after it (ours).
pub record OpenerChange : Type 0 where
  pub content : List ℕ → Option (List ℕ)
  pub openings_before : ℕ
  pub openings_now : ℕ
  pub open_faults_before : ℕ
  pub open_faults_now : ℕ
  pub read_faults_before : ℕ
  pub read_faults_now : ℕ

-- the change of an opener, of what it tells and of how it counts
abbrev pub opener_change : {Opener : Type 0} → (Opener → List ℕ → Option (List ℕ))
    → (Opener → ℕ) → (Opener → ℕ) → (Opener → ℕ) → Opener → Opener → OpenerChange
opener_change content openings open_faults read_faults old new = record {
  content = content old;
  openings_before = openings old;
  openings_now = openings new;
  open_faults_before = open_faults old;
  open_faults_now = open_faults new;
  read_faults_before = read_faults old;
  read_faults_now = read_faults new;
}

-- an opening failed in the call
abbrev pub HasFailedToOpen : OpenerChange → Type 0
HasFailedToOpen opener = Rose opener.open_faults_before opener.open_faults_now

-- a read failed in the call
abbrev pub HasFailedToRead : OpenerChange → Type 0
HasFailedToRead opener = Rose opener.read_faults_before opener.read_faults_now

-- What the first seat knows once it took in a worker's.
use Rattle.std.proofs.Common.{◌≡◌, ◌≢◌, ℕ, suc, zero, ◌+◌, ◌-◌, ◌<◌, List, [], ◌∷◌}
use Rattle.std.proofs.Common.{length, refl, sym, ap, ◌∙◌, ⊎_elim, arith}
use Rattle.std.specs.Prelude.{IsTrue, Option, Some, None, slice_get}
use Rattle.std.proofs.lemmas.Bool.{cases_lt}
use Rattle.cal_naming.specs.Workers.{HasJoined}
use Rattle.cal_naming.specs.declared.worker.Worker.{Worker}
use Rattle.cal_names.specs.declared.record.NameSort.{NameSort}
use Rattle.cal_once.proofs.Seen.{Saw_left, Saw_right, length-joined, times-append}
use Rattle.cal_once.specs.Layout.{times}
use Rattle.cal_once.specs.Seats.{view}
use Rattle.cal_once.specs.Views.{KnowsMore, Learns, gathered, joined, joined_with, none_away}
use Rattle.cal_once.specs.declared.seat.RowSeat.{RowSeat}
use Rattle.cal_once.specs.declared.view.View.{View}

-- ---- lists of published places

-- a list that was joined, and those that stay
was-here : (os : List (Option (List ℕ))) (k : ℕ) (places : List ℕ) → k < length os
    → slice_get (joined_with os k places) k ≡ Some (Some places)
was-here [] k places l = absurd (omega (arith, l))
was-here (o ∷ os) zero places l = refl
was-here (o ∷ os) (suc k) places l = was-here os k places (omega (arith, l))

was-there : (os : List (Option (List ℕ))) (k j : ℕ) (places : List ℕ) → k ≢ j
    → slice_get (joined_with os k places) j ≡ slice_get os j
was-there [] k j places other = refl
was-there (o ∷ os) zero zero places other = absurd (other refl)
was-there (o ∷ os) zero (suc j) places other = refl
was-there (o ∷ os) (suc k) zero places other = refl
was-there (o ∷ os) (suc k) (suc j) places other =
    was-there os k j places (λ e. other (ap suc e))

-- the list at a place was joined
abbrev pub WasJoined : List (Option (List ℕ)) → ℕ → Type 0
WasJoined os k = (places : List ℕ) × (slice_get os k ≡ Some (Some places))

-- where each was joined, none is away
pub all-joined : (os : List (Option (List ℕ))) → ((k : ℕ) → k < length os → WasJoined os k)
    → IsTrue (none_away os)
all-joined [] each = refl
all-joined (None ∷ os) each = absurd (away (each 0 (omega arith)))
  where
    away : WasJoined (None ∷ os) 0 → ⊥
    away (places, is) = absurd cc
all-joined (Some places ∷ os) each = all-joined os (λ k l. each (suc k) (omega (arith, l)))

-- a place that joined seats published is in one of the lists
pub gathered-from : (os : List (Option (List ℕ))) (p : ℕ) → 0 < times p (gathered os)
    → (k : ℕ) × (k < length os) × ((places : List ℕ) × (slice_get os k ≡ Some (Some places))
    × (0 < times p places))
gathered-from [] p some = absurd (omega (arith, some))
gathered-from (None ∷ os) p some =
    let r = gathered-from os p some in (suc r.0, omega (arith, r.1), r.2)
gathered-from (Some places ∷ os) p some = ⊎_elim
    (λ (here : 0 < times p places). (0, omega arith, (places, refl, here)))
    (λ none.
    let sum = times-append p places (gathered os) in
    let r = gathered-from os p (omega (arith, some, sum, none)) in
    (suc r.0, omega (arith, r.1), r.2))
    (cases_lt 0 (times p places))

-- ---- one seat more

module _ {S : Type 0} (v w new : View S) (learns : Learns (joined v w) new) where
  pub number-same : new.number ≡ v.number
  number-same = ap (λ (x : View S). x.number) learns.same

  pub published-same : new.published ≡ v.published
  published-same = ap (λ (x : View S). x.published) learns.same

  pub others-long : length new.others ≡ length v.others
  others-long = ap (λ (x : View S). length x.others) learns.same
      ∙ length-joined v.others (w.number - 1) w.published

  others-are : new.others ≡ joined_with v.others (w.number - 1) w.published
  others-are = ap (λ (x : View S). x.others) learns.same

  pub knows-first : KnowsMore v new
  knows-first i x saw = learns.more i x (Saw_left v.seen w.seen i x saw)

  pub knows-other : KnowsMore w new
  knows-other i x saw = learns.more i x (Saw_right v.seen w.seen i x saw)

  module _ (k : ℕ) (number : w.number ≡ k + 1) where
    place : w.number - 1 ≡ k
    place = omega (arith, number)

    others-there : new.others ≡ joined_with v.others k w.published
    others-there = others-are ∙ ap (λ (n : ℕ). joined_with v.others n w.published) place

    -- the seat's list is there, and those of others stay
    pub list-here : k < length v.others → slice_get new.others k ≡ Some (Some w.published)
    list-here within = ap (λ (os : List (Option (List ℕ))). slice_get os k) others-there
        ∙ was-here v.others k w.published within

    pub list-there : (j : ℕ) (places : List ℕ) → j ≢ k → slice_get v.others j ≡ Some (Some places)
        → slice_get new.others j ≡ Some (Some places)
    list-there j places other is =
        ap (λ (os : List (Option (List ℕ))). slice_get os j) others-there
        ∙ was-there v.others k j w.published (λ e. other (sym e)) ∙ is

-- ---- a worker's seat

module _ (first new : RowSeat NameSort) (w : Worker)
    (learns : Learns (joined (view first) (view w.seat)) (view new)) (place : ℕ)
    (number : (view w.seat).number ≡ place + 1) where
  pub here-joined : place < length (view first).others → HasJoined new w place
  here-joined within = record {
    knows = knows-other (view first) (view w.seat) (view new) learns;
    published = list-here (view first) (view w.seat) (view new) learns place number within;
  }

  pub there-joined : (other : Worker) (at : ℕ) → at ≢ place → HasJoined first other at
      → HasJoined new other at
  there-joined other at apart was = record {
    knows = λ i x saw.
        knows-first (view first) (view w.seat) (view new) learns i x (was.knows i x saw);
    published = list-there (view first) (view w.seat) (view new) learns place number at
        (view other.seat).published apart was.published;
  }

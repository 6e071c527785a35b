-- What the first seat keeps of the places that joined seats published.
use Rattle.std.proofs.Common.{◌≡◌, ◌≢◌, ℕ, zero, suc, ◌+◌, ◌-◌, ◌<◌, List, [], ◌∷◌, length, refl, ap, ◌∙◌, subst, sym, arith}
use Rattle.std.specs.Prelude.{Option, Some, slice_get}
use Rattle.cal_once.specs.Layout.{times}
use Rattle.cal_once.specs.Sound.{IsSound}
use Rattle.cal_once.specs.Views.{joined, joined_with}
use Rattle.cal_once.specs.declared.view.Plan.{Plan}
use Rattle.cal_once.specs.declared.view.View.{View}
use Rattle.cal_plog.specs.History.{HasJoined, HasOp}
use Rattle.cal_plog.specs.Seats.{op_law}
use Rattle.cal_words.specs.Words.{op_words}
use Rattle.cal_words.specs.declared.op.OpRec.{OpRec}
use Rattle.cal_words.specs.declared.sort.OpSort.{OpSort}

joined_with-here : (os : List (Option (List ℕ))) (k : ℕ) (places : List ℕ) → k < length os
    → slice_get (joined_with os k places) k ≡ Some (Some places)
joined_with-here [] k places l = absurd (omega arith)
joined_with-here (o ∷ os) zero places l = refl
joined_with-here (o ∷ os) (suc k) places l = joined_with-here os k places (omega arith)

joined_with-there : (os : List (Option (List ℕ))) (k j : ℕ) (places : List ℕ) → k ≢ j
    → slice_get (joined_with os k places) j ≡ slice_get os j
joined_with-there [] k j places other = refl
joined_with-there (o ∷ os) zero zero places other = absurd (other refl)
joined_with-there (o ∷ os) zero (suc j) places other = refl
joined_with-there (o ∷ os) (suc k) zero places other = refl
joined_with-there (o ∷ os) (suc k) (suc j) places other =
    joined_with-there os k j places (λ e. other (ap suc e))

pub is_joined : (v w : View OpSort) (thread : ℕ) → w.number ≡ thread + 1 → thread < length v.others
    → HasJoined (joined v w) thread w.published
is_joined v w thread number within =
    let at : w.number - 1 ≡ thread = omega (arith, number) in
    ap (λ (n : ℕ). slice_get (joined_with v.others n w.published) thread) at
    ∙ joined_with-here v.others thread w.published within

pub stays_joined : (v w : View OpSort) (other thread : ℕ) (places : List ℕ) → w.number ≡ other + 1
    → other ≢ thread → HasJoined v thread places → HasJoined (joined v w) thread places
stays_joined v w other thread places number apart is =
    let at : w.number - 1 ≡ other = omega (arith, number) in
    ap (λ (n : ℕ). slice_get (joined_with v.others n w.published) thread) at
    ∙ joined_with-there v.others other thread w.published apart ∙ is

module _ (plan : Plan OpSort) (v : View OpSort) (thread : ℕ) (places : List ℕ)
    (sound : IsSound op_law plan v) (first : v.number ≡ 0) (is : HasJoined v thread places)
    (place : ℕ) (op : OpRec) (has : HasOp plan.shape.slots v place op) where
  -- the number that published an operation is one more than its thread
  pub published_own : op.thread ≡ thread → times place places ≡ 1
  published_own same =
      let l = sound.lawful place (op_words op) has.0 has.1 in
      (l.joined first thread places is).0 (l.may_publish ∙ ap (λ (n : ℕ). n + 1) same)

  pub published_none : op.thread ≢ thread → times place places ≡ 0
  published_none other =
      let l = sound.lawful place (op_words op) has.0 has.1 in
      let publisher = l.may_publish in
      (l.joined first thread places is).1 (λ e. other (omega (arith, e, publisher)))

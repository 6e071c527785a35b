-- What the first seat is told of the others.
use Rattle.std.proofs.Common.{◌≡◌, ◌≢◌, ℕ, zero, suc, ◌+◌, ◌<◌, true, Option, Some, None, List, [], ◌∷◌, ◌++◌, length, set, slice_get, sym, refl, ap, ◌∙◌, ⊎_elim, arith, length-set}
use mathlib.Core.Option.{some}
use lib.ListN.{get_elem?}
use Rattle.atomic_table.proofs.Lists.{at_set}
use Rattle.cal_once.specs.declared.view.View.{View}
use Rattle.cal_once.specs.declared.view.Plan.{Plan}
use Rattle.cal_once.specs.Layout.{times}
use Rattle.cal_once.specs.Views.{gathered, none_away, joined_with}
use Rattle.cal_once.specs.Rule.{told, told_by}
use Rattle.cal_once.proofs.Seen.{times-append}

module _ {S : Type 0} where
  pub length-told : (f : ℕ → List ℕ) (vs : List (View S)) → length (told f vs) ≡ length vs
  length-told f [] = refl
  length-told f (v ∷ vs) = ap suc (length-told (λ n. f (suc n)) vs)

  told_again : (f f' : ℕ → List ℕ) (vs ws : List (View S)) → length vs ≡ length ws → ((i : ℕ) (x y : View S) → get_elem? vs i ≡ some x → get_elem? ws i ≡ some y → told_by x.plan (f i) ≡ told_by y.plan (f' i)) → told f vs ≡ told f' ws
  told_again f f' [] [] long same = refl
  told_again f f' [] (w ∷ ws) long same = absurd (omega arith)
  told_again f f' (v ∷ vs) [] long same = absurd (omega arith)
  told_again f f' (v ∷ vs) (w ∷ ws) long same = let rest = told_again (λ n. f (suc n)) (λ n. f' (suc n)) vs ws (omega arith) (λ i x y a b. same (suc i) x y a b) in (λ j. same 0 v w refl refl j ∷ rest j)

  -- a seat that isn't joined tells nothing
  pub told-set : (f f' : ℕ → List ℕ) (plan : Plan S) (views : List (View S)) (id : ℕ) (v w : View S) → get_elem? views id ≡ some v → v.plan ≡ Some plan → w.plan ≡ Some plan → ((n : ℕ) → n ≢ id → f' n ≡ f n) → told f' (set views id w) ≡ told f views
  told-set f f' plan views id v w at live live_after same = told_again f' f (set views id w) views (length-set views id w) (λ i x y a b. ⊎_elim
      (λ t. let there : get_elem? views id ≡ some y = ap (get_elem? views) (sym t.0) ∙ b in
      let before : y.plan ≡ Some plan = cc in
      let after : x.plan ≡ Some plan = cc in
      ap (λ (o : Option (Plan S)). told_by o (f' i)) after ∙ ap (λ (o : Option (Plan S)). told_by o (f i)) (sym before))
      (λ t. let here = t.1 in let one : x ≡ y = cc in (λ j. told_by (one j).plan (same i t.0 j))) (at_set views id i w x a))

  pub told-append : (f : ℕ → List ℕ) (vs : List (View S)) (w : View S) → told f (vs ++ w ∷ []) ≡ told f vs ++ told_by w.plan (f (length vs)) ∷ []
  told-append f [] w = refl
  told-append f (v ∷ vs) w = let rest = told-append (λ n. f (suc n)) vs w in (λ j. told_by v.plan (f 0) ∷ rest j)

  pub told-joined : (f : ℕ → List ℕ) (vs : List (View S)) (i : ℕ) (w : View S) → w.plan ≡ None → told f (set vs i w) ≡ joined_with (told f vs) i (f i)
  told-joined f [] i w none = refl
  told-joined f (v ∷ vs) zero w none = (λ j. told_by (none j) (f 0) ∷ told (λ n. f (suc n)) vs)
  told-joined f (v ∷ vs) (suc i) w none = let rest = told-joined (λ n. f (suc n)) vs i w none in (λ j. told_by v.plan (f 0) ∷ rest j)

  -- the seats behind the first one
  pub others-told : (f : ℕ → List ℕ) (vs : List (View S)) (others : List (Option (List ℕ))) → told f vs ≡ None ∷ others → (ws : List (View S)) × (length ws + 1 ≡ length vs) × (told (λ n. f (suc n)) ws ≡ others)
  others-told f [] others e = absurd cc
  others-told f (v ∷ vs) others e = (vs, omega arith, cc)

  -- the places of a joined seat
  places_of : (o : Option (Plan S)) (l places : List ℕ) → told_by o l ≡ Some places → places ≡ l
  places_of None l places e = cc
  places_of (Some plan) l places e = absurd cc

  told_at : (f : ℕ → List ℕ) (vs : List (View S)) (n : ℕ) (places : List ℕ) → slice_get (told f vs) n ≡ Some (Some places) → places ≡ f n
  told_at f [] n places e = absurd cc
  told_at f (v ∷ vs) zero places e = places_of v.plan (f 0) places cc
  told_at f (v ∷ vs) (suc n) places e = told_at (λ m. f (suc m)) vs n places e

  pub told_places : (f : ℕ → List ℕ) (vs : List (View S)) (others : List (Option (List ℕ))) (n : ℕ) (places : List ℕ) → told f vs ≡ None ∷ others → slice_get others n ≡ Some (Some places) → places ≡ f (suc n)
  told_places f vs others n places e is = told_at f vs (suc n) places (ap (λ (os : List (Option (List ℕ))). slice_get os (suc n)) e ∙ is)

  -- a place that a list doesn't have adds nothing
  passed_over : (o : Option (Plan S)) (l : List ℕ) (os : List (Option (List ℕ))) (p : ℕ) → times p l ≡ 0 → times p (gathered (told_by o l ∷ os)) ≡ times p (gathered os)
  passed_over None l os p none = let sum = times-append p l (gathered os) in omega arith
  passed_over (Some plan) l os p none = refl

  -- a place that no list has, or one alone
  pub told-none : (f : ℕ → List ℕ) (vs : List (View S)) (p : ℕ) → ((n : ℕ) → times p (f n) ≡ 0) → times p (gathered (told f vs)) ≡ 0
  told-none f [] p none = refl
  told-none f (v ∷ vs) p none = passed_over v.plan (f 0) (told (λ n. f (suc n)) vs) p (none 0) ∙ told-none (λ n. f (suc n)) vs p (λ n. none (suc n))

  pub told-one : (f : ℕ → List ℕ) (vs : List (View S)) (p m : ℕ) → m < length vs → times p (f m) ≡ 1 → ((n : ℕ) → n ≢ m → times p (f n) ≡ 0) → none_away (told f vs) ≡ true → times p (gathered (told f vs)) ≡ 1
  told-one f [] p m below one none all = absurd (omega arith)
  told-one f (v ∷ vs) p zero below one none all = first v.plan (f 0) (told (λ n. f (suc n)) vs) all one (told-none (λ n. f (suc n)) vs p (λ n. none (suc n) (λ e. omega arith)))
    where
      first : (o : Option (Plan S)) (l : List ℕ) (os : List (Option (List ℕ))) → none_away (told_by o l ∷ os) ≡ true → times p l ≡ 1 → times p (gathered os) ≡ 0 → times p (gathered (told_by o l ∷ os)) ≡ 1
      first None l os all one none = let sum = times-append p l (gathered os) in omega arith
      first (Some plan) l os all one none = absurd cc
  told-one f (v ∷ vs) p (suc m) below one none all = passed_over v.plan (f 0) (told (λ n. f (suc n)) vs) p (none 0 (λ e. omega arith)) ∙ told-one (λ n. f (suc n)) vs p m (omega arith) one (λ n ne. none (suc n) (λ e. ne (omega arith))) (rest v.plan (f 0) (told (λ n. f (suc n)) vs) all)
    where
      rest : (o : Option (Plan S)) (l : List ℕ) (os : List (Option (List ℕ))) → none_away (told_by o l ∷ os) ≡ true → none_away os ≡ true
      rest None l os all = all
      rest (Some plan) l os all = absurd cc

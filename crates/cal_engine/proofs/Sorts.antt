-- There is one list that has the items of another in order, where those that tie stay in theirs.
use Rattle.std.proofs.Common.{◌≡◌, suc, ◌+◌, Bool, true, false, ◌&&◌, not, List, [], ◌∷◌, filter, refl, sym, ap, subst, ◌∙◌, arith, true≢false}
use Rattle.std.specs.declared.cmp.Ordering.{Ordering}
use Rattle.std.specs.declared.cmp.Ordering.TheVariants.{Less, Equal, Greater}
use Rattle.std.specs.Cmp.{IsStrictWeakOrder, IsTotalOrder}
use Rattle.std.specs.List.{AllByRecursion}
use Rattle.std.specs.List.Sorted.{IsSortedBy, IsStableBy, ties}
use Rattle.std.specs.Ordering.{is_lt, ordering_reverse, ordering_then}
use Rattle.std.proofs.lemmas.Cmp.{then_total}
use Rattle.std.proofs.lemmas.List.Elements.{recursion_from_All}
use Rattle.std.proofs.lemmas.List.Sorted.{ranks_by, sorted_far}
use Rattle.cal_engine.specs.Sorting.{put_in, sorted}

module _ {A : Type 0} (lt : A → A → Bool) (weak : IsStrictWeakOrder lt) where
  -- no item is below one before it
  abbrev pub Rises : List A → Type 0
  Rises [] = Unit {0}
  Rises (x ∷ xs) = AllByRecursion (λ y. lt y x ≡ false) xs × Rises xs

  itself : (x : A) → lt x x ≡ false
  itself x = by (lt x x) refl
    where
      by : (b : Bool) → lt x x ≡ b → lt x x ≡ false
      by true e = absurd (true≢false (sym e ∙ weak.one_way x x e))
      by false e = e

  ties_itself : (x : A) → ties lt x x ≡ true
  ties_itself x = rw (itself x) refl

  -- an item that a filter keeps first is one of the list
  first_in : (P : A → Type 0) (p : A → Bool) (xs : List A) (z : A) (rest : List A)
      → filter p xs ≡ z ∷ rest → AllByRecursion P xs → P z
  first_in P p [] z rest e all = cc
  first_in P p (x ∷ xs) z rest e all = by (p x) refl (λ kept. first_in P p xs z rest kept all.1)
    where
      by : (b : Bool) → p x ≡ b → (filter p xs ≡ z ∷ rest → P z) → P z
      by true h later =
          let kept : x ∷ filter p xs ≡ z ∷ rest = rw h at e in
          let is : x ≡ z = cc in
          subst P is all.0
      by false h later =
          let kept : filter p xs ≡ z ∷ rest = rw h at e in
          later kept

  -- the first item of a rising list isn't above one that a filter keeps
  least : (p : A → Bool) (y : A) (ys : List A) (z : A) (rest : List A) → Rises (y ∷ ys)
      → filter p (y ∷ ys) ≡ z ∷ rest → lt z y ≡ false
  least p y ys z rest up e = first_in (λ t. lt t y ≡ false) p (y ∷ ys) z rest e (itself y, up.0)

  keeps_first : (x : A) (xs : List A) → filter (ties lt x) (x ∷ xs) ≡ x ∷ filter (ties lt x) xs
  keeps_first x xs = rw (ties_itself x) refl

  tied : (y z : A) → lt y z ≡ false → lt z y ≡ false → ties lt y z ≡ true
  tied y z a b = rw (a, b) refl

  -- two rising lists with the same items at each tie are the same
  pub same_rising : (ys zs : List A) → Rises ys → Rises zs
      → ((x : A) → filter (ties lt x) ys ≡ filter (ties lt x) zs) → ys ≡ zs
  same_rising [] [] up vp h = refl
  same_rising [] (z ∷ zs) up vp h =
      let e = h z ∙ keeps_first z zs in cc
  same_rising (y ∷ ys) [] up vp h =
      let e = sym (h y) ∙ keeps_first y ys in cc
  same_rising (y ∷ ys) (z ∷ zs) up vp h = λ i. first i ∷ same_rising ys zs up.1 vp.1 rest i
    where
      below : lt z y ≡ false
      below = least (ties lt z) y ys z (filter (ties lt z) zs) up (h z ∙ keeps_first z zs)

      above : lt y z ≡ false
      above = least (ties lt y) z zs y (filter (ties lt y) ys) vp (sym (h y) ∙ keeps_first y ys)

      first : y ≡ z
      first =
          let kept : filter (ties lt y) (z ∷ zs) ≡ z ∷ filter (ties lt y) zs = rw (tied y z above below) refl in
          let e = sym (keeps_first y ys) ∙ h y ∙ kept in cc

      rest : (x : A) → filter (ties lt x) ys ≡ filter (ties lt x) zs
      rest x = by (ties lt x y) (ties lt x z) refl refl
        where
          alike : ties lt x y ≡ ties lt x z
          alike = ap (ties lt x) first

          by : (a b : Bool) → ties lt x y ≡ a → ties lt x z ≡ b → filter (ties lt x) ys ≡ filter (ties lt x) zs
          by true true ea eb =
              let e : y ∷ filter (ties lt x) ys ≡ z ∷ filter (ties lt x) zs = rw (ea, eb) at (h x) in cc
          by false false ea eb = rw (ea, eb) at (h x)
          by true false ea eb = absurd (true≢false (sym ea ∙ alike ∙ eb))
          by false true ea eb = absurd (true≢false (sym eb ∙ sym alike ∙ ea))

  -- neighbours that don't fall make a rising list
  rises : (xs : List A) → IsSortedBy lt xs → Rises xs
  rises [] up = tt
  rises (x ∷ xs) up = (
    recursion_from_All (λ y. lt y x ≡ false) xs (λ k d l. sorted_far lt weak (x ∷ xs) up 0 (suc k) d (omega arith) (omega (arith, l))),
    rises xs (λ k d l m.
        let step = up (suc k) d (omega arith) (omega (arith, m)) in
        let next : suc k + 1 ≡ suc (k + 1) = omega arith in
        rw next at step),
  )

module _ {A : Type 0} (cmp : A → A → Ordering) (weak : IsStrictWeakOrder (λ x y. is_lt (cmp x y))) where
  -- what is put in goes behind all that is below it
  Rises-put_in : (P : A → Type 0) (x : A) (ys : List A) → P x → AllByRecursion P ys → AllByRecursion P (put_in cmp x ys)
  Rises-put_in P x [] is all = (is, tt)
  Rises-put_in P x (y ∷ ys) is all = by (is_lt (cmp y x)) refl (Rises-put_in P x ys is all.1)
    where
      by : (b : Bool) → is_lt (cmp y x) ≡ b → AllByRecursion P (put_in cmp x ys) → AllByRecursion P (put_in cmp x (y ∷ ys))
      by true e rest = rw e (all.0, rest)
      by false e rest = rw e (is, (all.0, all.1))

  not_below_all : (x y : A) (ys : List A) → is_lt (cmp y x) ≡ false → AllByRecursion (λ z. is_lt (cmp z y) ≡ false) ys → AllByRecursion (λ z. is_lt (cmp z x) ≡ false) ys
  not_below_all x y [] e all = tt
  not_below_all x y (z ∷ zs) e all = (weak.chain z y x all.0 e, not_below_all x y zs e all.1)

  put_in-rises : (x : A) (ys : List A) → Rises (λ x y. is_lt (cmp x y)) weak ys → Rises (λ x y. is_lt (cmp x y)) weak (put_in cmp x ys)
  put_in-rises x [] up = (tt, tt)
  put_in-rises x (y ∷ ys) up = by (is_lt (cmp y x)) refl (put_in-rises x ys up.1)
    where
      by : (b : Bool) → is_lt (cmp y x) ≡ b → Rises (λ x y. is_lt (cmp x y)) weak (put_in cmp x ys)
          → Rises (λ x y. is_lt (cmp x y)) weak (put_in cmp x (y ∷ ys))
      by true e rest = rw e (Rises-put_in (λ z. is_lt (cmp z y) ≡ false) x ys (weak.one_way y x e) up.0, rest)
      by false e rest = rw e ((e, not_below_all x y ys e up.0), (up.0, up.1))

  pub sorted-rises : (xs : List A) → Rises (λ x y. is_lt (cmp x y)) weak (sorted cmp xs)
  sorted-rises [] = tt
  sorted-rises (x ∷ xs) = put_in-rises x (sorted cmp xs) (sorted-rises xs)

  -- items that tie with one aren't below each other
  one_tie : (w x y : A) → ties (λ x y. is_lt (cmp x y)) w x ≡ true → ties (λ x y. is_lt (cmp x y)) w y ≡ true → is_lt (cmp y x) ≡ false
  one_tie w x y h g = by (is_lt (cmp w x)) (is_lt (cmp y w)) refl refl
    where
      by : (a b : Bool) → is_lt (cmp w x) ≡ a → is_lt (cmp y w) ≡ b → is_lt (cmp y x) ≡ false
      by true b ea eb = absurd (true≢false (grind (arith, ea, h)))
      by false true ea eb = absurd (true≢false (grind (arith, eb, g)))
      by false false ea eb = weak.chain y w x eb ea

  put_in-ties : (w x : A) (ys : List A) → filter (ties (λ x y. is_lt (cmp x y)) w) (put_in cmp x ys) ≡ filter (ties (λ x y. is_lt (cmp x y)) w) (x ∷ ys)
  put_in-ties w x [] = refl
  put_in-ties w x (y ∷ ys) = by (is_lt (cmp y x)) (ties (λ x y. is_lt (cmp x y)) w x) (ties (λ x y. is_lt (cmp x y)) w y) refl refl refl (put_in-ties w x ys)
    where
      by : (a b c : Bool) → is_lt (cmp y x) ≡ a → ties (λ x y. is_lt (cmp x y)) w x ≡ b → ties (λ x y. is_lt (cmp x y)) w y ≡ c
          → filter (ties (λ x y. is_lt (cmp x y)) w) (put_in cmp x ys) ≡ filter (ties (λ x y. is_lt (cmp x y)) w) (x ∷ ys)
          → filter (ties (λ x y. is_lt (cmp x y)) w) (put_in cmp x (y ∷ ys)) ≡ filter (ties (λ x y. is_lt (cmp x y)) w) (x ∷ y ∷ ys)
      by false b c ea eb ec rest = rw ea refl
      by true true true ea eb ec rest = absurd (true≢false (sym ea ∙ one_tie w x y eb ec))
      by true true false ea eb ec rest = grind (arith, ea, eb, ec, rest)
      by true false true ea eb ec rest = grind (arith, ea, eb, ec, rest)
      by true false false ea eb ec rest = grind (arith, ea, eb, ec, rest)

  pub sorted-ties : (w : A) (xs : List A) → filter (ties (λ x y. is_lt (cmp x y)) w) (sorted cmp xs) ≡ filter (ties (λ x y. is_lt (cmp x y)) w) xs
  sorted-ties w [] = refl
  sorted-ties w (x ∷ xs) = by (ties (λ x y. is_lt (cmp x y)) w x) refl (put_in-ties w x (sorted cmp xs)) (sorted-ties w xs)
    where
      by : (b : Bool) → ties (λ x y. is_lt (cmp x y)) w x ≡ b
          → filter (ties (λ x y. is_lt (cmp x y)) w) (put_in cmp x (sorted cmp xs)) ≡ filter (ties (λ x y. is_lt (cmp x y)) w) (x ∷ sorted cmp xs)
          → filter (ties (λ x y. is_lt (cmp x y)) w) (sorted cmp xs) ≡ filter (ties (λ x y. is_lt (cmp x y)) w) xs
          → filter (ties (λ x y. is_lt (cmp x y)) w) (put_in cmp x (sorted cmp xs)) ≡ filter (ties (λ x y. is_lt (cmp x y)) w) (x ∷ xs)
      by true e first rest = grind (arith, e, first, rest)
      by false e first rest = grind (arith, e, first, rest)

  -- what a stable sort leaves is the one sorted list
  pub sorted-unique : (xs ys : List A) → IsSortedBy (λ x y. is_lt (cmp x y)) ys → IsStableBy (λ x y. is_lt (cmp x y)) xs ys → ys ≡ sorted cmp xs
  sorted-unique xs ys up stable =
      same_rising (λ x y. is_lt (cmp x y)) weak ys (sorted cmp xs) (rises (λ x y. is_lt (cmp x y)) weak ys up) (sorted-rises xs)
      (λ w. stable w ∙ sym (sorted-ties w xs))

-- ---- sorted by one order and then, stably, by another one that counts first

-- where the first order doesn't tell, the second one does: in either sense
then_ties : (a b : Ordering)
    → (not (is_lt (ordering_then a b)) && not (is_lt (ordering_then (ordering_reverse a) (ordering_reverse b))))
    ≡ ((not (is_lt a) && not (is_lt (ordering_reverse a))) && (not (is_lt b) && not (is_lt (ordering_reverse b))))
then_ties Less b = refl
then_ties Equal b = refl
then_ties Greater b = refl

-- what isn't below by the second order isn't so by both where the first one ties or says above
then_not_below : (a b : Ordering) → is_lt a ≡ false → is_lt b ≡ false → is_lt (ordering_then a b) ≡ false
then_not_below Less b e f = absurd (true≢false e)
then_not_below Equal b e f = f
then_not_below Greater b e f = refl

then_above : (a b : Ordering) → is_lt (ordering_reverse a) ≡ true → is_lt (ordering_then a b) ≡ false
then_above Less b e = absurd (true≢false (sym e))
then_above Equal b e = absurd (true≢false (sym e))
then_above Greater b e = refl

filter_both : {A : Type 0} (p q : A → Bool) (xs : List A) → filter (λ x. p x && q x) xs ≡ filter p (filter q xs)
filter_both p q [] = refl
filter_both p q (x ∷ xs) = by (p x) (q x) refl refl (filter_both p q xs)
  where
    by : (a b : Bool) → p x ≡ a → q x ≡ b → filter (λ y. p y && q y) xs ≡ filter p (filter q xs)
        → filter (λ y. p y && q y) (x ∷ xs) ≡ filter p (filter q (x ∷ xs))
    by true true ea eb rest = grind (arith, ea, eb, rest)
    by true false ea eb rest = grind (arith, ea, eb, rest)
    by false true ea eb rest = grind (arith, ea, eb, rest)
    by false false ea eb rest = grind (arith, ea, eb, rest)

filter_turned : {A : Type 0} (p q : A → Bool) (xs : List A) → filter p (filter q xs) ≡ filter q (filter p xs)
filter_turned p q xs = sym (filter_both p q xs) ∙ ap (λ t. filter t xs) (λ i x. both_turned (p x) (q x) i) ∙ filter_both q p xs
  where
    both_turned : (a b : Bool) → (a && b) ≡ (b && a)
    both_turned true true = refl
    both_turned true false = refl
    both_turned false true = refl
    both_turned false false = refl

module _ {A : Type 0} {R S : A → A → Ordering} (r : IsTotalOrder R) (s : IsTotalOrder S) where
  -- by the first, and where that ties by the second
  abbrev both : A → A → Ordering
  both x y = ordering_then (R x y) (S x y)

  weak_first : IsStrictWeakOrder (λ x y. is_lt (R x y))
  weak_first = ranks_by r (λ x. x)

  weak_second : IsStrictWeakOrder (λ x y. is_lt (S x y))
  weak_second = ranks_by s (λ x. x)

  weak_both : IsStrictWeakOrder (λ x y. is_lt (both x y))
  weak_both = ranks_by (then_total r s) (λ x. x)

  ties_both : (w x : A) → ties (λ x y. is_lt (both x y)) w x ≡ (ties (λ x y. is_lt (R x y)) w x && ties (λ x y. is_lt (S x y)) w x)
  ties_both w x =
      (λ i. not (is_lt (both w x)) && not (is_lt (ordering_then (r.antisymm x w i) (s.antisymm x w i))))
      ∙ then_ties (R w x) (S w x)
      ∙ sym (λ i. (not (is_lt (R w x)) && not (is_lt (r.antisymm x w i))) && (not (is_lt (S w x)) && not (is_lt (s.antisymm x w i))))

  -- all stay when they are sorted
  sorted-all : (P : A → Type 0) (xs : List A) → AllByRecursion P xs → AllByRecursion P (sorted R xs)
  sorted-all P [] all = tt
  sorted-all P (x ∷ xs) all = Rises-put_in R weak_first P x (sorted R xs) all.0 (sorted-all P xs all.1)

  put_in-both : (x : A) (ys : List A) → AllByRecursion (λ y. is_lt (S y x) ≡ false) ys → Rises (λ x y. is_lt (both x y)) weak_both ys
      → Rises (λ x y. is_lt (both x y)) weak_both (put_in R x ys)
  put_in-both x [] later up = (tt, tt)
  put_in-both x (y ∷ ys) later up = by (is_lt (R y x)) refl (put_in-both x ys later.1 up.1)
    where
      by : (b : Bool) → is_lt (R y x) ≡ b → Rises (λ x y. is_lt (both x y)) weak_both (put_in R x ys)
          → Rises (λ x y. is_lt (both x y)) weak_both (put_in R x (y ∷ ys))
      by true e rest =
          let above : is_lt (both x y) ≡ false = then_above (R x y) (S x y) (sym (ap is_lt (r.antisymm y x)) ∙ e) in
          rw e (Rises-put_in R weak_first (λ z. is_lt (both z y) ≡ false) x ys above up.0, rest)
      by false e rest =
          let level : is_lt (both y x) ≡ false = then_not_below (R y x) (S y x) e later.0 in
          rw e ((level, not_below_all both weak_both x y ys level up.0), (up.0, up.1))

  sorted-both : (zs : List A) → Rises (λ x y. is_lt (S x y)) weak_second zs → Rises (λ x y. is_lt (both x y)) weak_both (sorted R zs)
  sorted-both [] up = tt
  sorted-both (z ∷ zs) up = put_in-both z (sorted R zs) (sorted-all (λ y. is_lt (S y z) ≡ false) zs up.0) (sorted-both zs up.1)

  same_ties : (w : A) (xs : List A) → filter (ties (λ x y. is_lt (both x y)) w) (sorted R (sorted S xs))
      ≡ filter (ties (λ x y. is_lt (both x y)) w) xs
  same_ties w xs =
      let p = ties (λ x y. is_lt (R x y)) w in
      let q = ties (λ x y. is_lt (S x y)) w in
      let apart = λ (ys : List A). ap (λ t. filter t ys) (λ i x. ties_both w x i) ∙ filter_both p q ys in
      apart (sorted R (sorted S xs))
      ∙ filter_turned p q (sorted R (sorted S xs))
      ∙ ap (filter q) (sorted-ties R weak_first w (sorted S xs))
      ∙ filter_turned q p (sorted S xs)
      ∙ ap (filter p) (sorted-ties S weak_second w xs)
      ∙ sym (apart xs)

  pub sorted_twice : (xs : List A) → sorted R (sorted S xs) ≡ sorted both xs
  sorted_twice xs =
      same_rising (λ x y. is_lt (both x y)) weak_both (sorted R (sorted S xs)) (sorted both xs)
      (sorted-both (sorted S xs) (sorted-rises S weak_second xs)) (sorted-rises both weak_both xs)
      (λ w. same_ties w xs ∙ sym (sorted-ties both weak_both w xs))

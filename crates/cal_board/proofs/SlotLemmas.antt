-- What `with_slot` and `opened_in` are where the place of a slot is known.
use Rattle.std.proofs.Common.{◌≡◌, ℕ, ◌+◌, ◌<◌, ◌≤◌, ◌≢◌, List, [], ◌∷◌, ◌++◌, length, get_or, take, drop, filter, nat_lt, if◌then◌else◌, ◌==◌, ap, ◌∙◌, arith, suc, zero, refl, sym, true, false, inl, inr, append-nil, append_assoc, ◌⊎◌, take-append-drop, drop-cons, set, ◌-◌, insert, remove, IfOk, OnOk, OnErr, Ok, Err, Result}
use Rattle.std.specs.List.{AllPairs, All}
use Rattle.std.proofs.lemmas.Bool.{lt-ltb, le-ltb, ltb-true, cases_lt, eq-eqb, ne_eqb}
use Rattle.std.proofs.lemmas.List.Elements.{All-append, All-filter, filter_passes}
use Rattle.std.proofs.lemmas.List.Kept.{AllPairs-filter}
use Rattle.cal_board.specs.Slots.{front, opened_in, slot_of, with_slot, AreOrdered, IsAt, IsGap}
use Rattle.cal_board.specs.declared.opened.Opened.{Opened}
use Rattle.cal_board.specs.declared.opened.Slot.{Slot}
use Rattle.cal_board.proofs.Filtering.{filter-front, filter-back, AllPairs-append, front-push, set_is}

module _ {V : Type 0} where
  -- the slot of values that are there
  pub slot_of-held : (n : ℕ) (os : List (Opened V)) → 0 < length os
      → slot_of n os ≡ record { number = n; opened = os } ∷ []
  slot_of-held n [] l = absurd (omega (arith, l))
  slot_of-held n (o ∷ os) l = refl

  -- a slot changed, opened or left without values, the slots are ordered still
  pub AreOrdered-with_slot : (xs : List (Slot V)) (n : ℕ) (os : List (Opened V)) → AreOrdered xs
      → AreOrdered (with_slot n os xs)
  AreOrdered-with_slot xs n os is = record {
    ordered = AllPairs-append Before (low ++ here) high
        (AllPairs-append Before low here (AllPairs-filter Before _ xs is.ordered) (pairs os) (λ i j d l m. let a = is_low i d l in let b = is_here os j d m in omega (arith, a, b)))
        (AllPairs-filter Before _ xs is.ordered)
        (λ i j d l m. let a = All-append (λ (s : Slot V). s.number ≤ n) low here (λ k e r. let t = is_low k e r in omega (arith, t)) (λ k e r. let t = is_here os k e r in omega (arith, t)) i d l in let b = is_high j d m in omega (arith, a, b));
    held = All-append Held (low ++ here) high (All-append Held low here (All-filter _ Held xs is.held) (held os)) (All-filter _ Held xs is.held);
  }
    where
      Before : Slot V → Slot V → Type 0
      Before = λ s t. s.number < t.number

      Held : Slot V → Type 0
      Held = λ s. 0 < length s.opened

      low : List (Slot V)
      low = filter (λ (s : Slot V). nat_lt s.number n) xs

      high : List (Slot V)
      high = filter (λ (s : Slot V). nat_lt n s.number) xs

      here : List (Slot V)
      here = slot_of n os

      is_low : (i : ℕ) (d : Slot V) → i < length low → (get_or low i d).number < n
      is_low i d l = ltb-true _ _ (filter_passes (λ (s : Slot V). nat_lt s.number n) xs i d l)

      is_high : (i : ℕ) (d : Slot V) → i < length high → n < (get_or high i d).number
      is_high i d l = ltb-true _ _ (filter_passes (λ (s : Slot V). nat_lt n s.number) xs i d l)

      is_here : (os : List (Opened V)) (i : ℕ) (d : Slot V) → i < length (slot_of n os) → (get_or (slot_of n os) i d).number ≡ n
      is_here [] i d l = absurd (omega (arith, l))
      is_here (o ∷ os) zero d l = refl
      is_here (o ∷ os) (suc i) d l = absurd (omega (arith, l))

      held : (os : List (Opened V)) → All (λ (s : Slot V). 0 < length s.opened) (slot_of n os)
      held [] i d l = absurd (omega (arith, l))
      held (o ∷ os) zero d l = omega arith
      held (o ∷ os) (suc i) d l = absurd (omega (arith, l))

      pairs : (os : List (Opened V)) → AllPairs (λ (s t : Slot V). s.number < t.number) (slot_of n os)
      pairs [] i j d l m = absurd (omega (arith, m))
      pairs (o ∷ os) i j d l m = absurd (omega (arith, l, m))

  -- no slot has the number
  opened_in-none : (n : ℕ) (xs : List (Slot V)) → ((i : ℕ) (d : Slot V) → i < length xs → (get_or xs i d).number ≢ n) → opened_in n xs ≡ []
  opened_in-none n [] h = refl
  opened_in-none n (s ∷ ss) h =
      ap (λ b. if b then s.opened else opened_in n ss) (ne_eqb s.number n (h 0 s (omega arith)))
      ∙ opened_in-none n ss (λ i d l. h (suc i) d (omega (arith, l)))

  -- one has it, and none before it
  opened_in-one : (n : ℕ) (xs : List (Slot V)) (p : ℕ) (d : Slot V) → p < length xs
      → ((i : ℕ) (e : Slot V) → i < p → (get_or xs i e).number ≢ n)
      → (get_or xs p d).number ≡ n → opened_in n xs ≡ (get_or xs p d).opened
  opened_in-one n [] p d l h e = absurd (omega (arith, l))
  opened_in-one n (s ∷ ss) zero d l h e =
      ap (λ b. if b then s.opened else opened_in n ss) (eq-eqb s.number n e)
  opened_in-one n (s ∷ ss) (suc p) d l h e =
      ap (λ b. if b then s.opened else opened_in n ss) (ne_eqb s.number n (h 0 s (omega arith)))
      ∙ opened_in-one n ss p d (omega (arith, l)) (λ i f m. h (suc i) f (omega (arith, m))) e

  -- where the slot isn't there
  module _ (xs : List (Slot V)) (is : AreOrdered xs) (n p : ℕ) (gap : IsGap xs n p) where
    past : (i : ℕ) (d : Slot V) → p ≤ i → i < length xs → n < (get_or xs i d).number
    past i d l m = by (cases_lt p i)
      where
        by : ((p < i) ⊎ (i ≤ p)) → n < (get_or xs i d).number
        by (inl h) = let a = gap.after d (omega (arith, h, m)) in let b = is.ordered p i d h m in omega (arith, a, b)
        by (inr h) =
            let e : i ≡ p = omega (arith, l, h) in
            let a = gap.after d (omega (arith, h, m)) in
            let f = ap (λ k. (get_or xs k d).number) e in omega (arith, a, f)

    -- no value is there
    pub opened_in-gap : opened_in n xs ≡ []
    opened_in-gap = opened_in-none n xs differ
      where
        differ : (i : ℕ) (d : Slot V) → i < length xs → (get_or xs i d).number ≢ n
        differ i d l e = by (cases_lt i p)
          where
            by : ((i < p) ⊎ (p ≤ i)) → ⊥
            by (inl h) = let a = gap.before i d h in omega (arith, a, e)
            by (inr h) = let a = past i d h l in omega (arith, a, e)

    -- a slot of values goes to the place
    pub with_slot-gap : (os : List (Opened V)) → with_slot n os xs ≡ take p xs ++ slot_of n os ++ drop p xs
    with_slot-gap os = λ j. low j ++ slot_of n os ++ high j
      where
        low : filter (λ (s : Slot V). nat_lt s.number n) xs ≡ take p xs
        low = filter-front _ xs p gap.within (λ i d l. lt-ltb _ _ (gap.before i d l))
            (λ i d l m. le-ltb _ _ (let a = past i d l m in omega (arith, a)))

        high : filter (λ (s : Slot V). nat_lt n s.number) xs ≡ drop p xs
        high = filter-back _ xs p gap.within (λ i d l. le-ltb _ _ (let a = gap.before i d l in omega (arith, a)))
            (λ i d l m. lt-ltb _ _ (past i d l m))

    -- so a value is pushed by an insertion
    pub pushed-gap : (o : Opened V)
        → insert xs p (record { number = n; opened = o ∷ [] }) ≡ with_slot n (opened_in n xs ++ o ∷ []) xs
    pushed-gap o = sym (ap (λ os. with_slot n (os ++ o ∷ []) xs) opened_in-gap ∙ with_slot-gap (o ∷ [])
        ∙ append_assoc (take p xs) (record { number = n; opened = o ∷ [] } ∷ []) (drop p xs))

    -- and there is none to be popped
    pub popped-gap : xs ≡ with_slot n (front (opened_in n xs)) xs
    popped-gap = sym (ap (λ (os : List (Opened V)). with_slot n (front os) xs) opened_in-gap
        ∙ with_slot-gap [] ∙ ap (λ ys. ys ++ drop p xs) (append-nil (take p xs)) ∙ take-append-drop p xs)

  -- where the slot is at the place
  module _ (xs : List (Slot V)) (is : AreOrdered xs) (n p : ℕ) (at : IsAt xs n p) where
    under : (i : ℕ) (d : Slot V) → i < p → (get_or xs i d).number < n
    under i d l = let a = at.number_is d in let b = is.ordered i p d l at.within in omega (arith, a, b)

    beyond : (i : ℕ) (d : Slot V) → suc p ≤ i → i < length xs → n < (get_or xs i d).number
    beyond i d l m = let a = at.number_is d in let b = is.ordered p i d (omega (arith, l)) m in omega (arith, a, b)

    -- its values are those of the slot
    pub opened_in-at : (d : Slot V) → opened_in n xs ≡ (get_or xs p d).opened
    opened_in-at d = opened_in-one n xs p d at.within
        (λ i e l f. let a = under i e l in omega (arith, a, f)) (at.number_is d)

    with_slot-at : (os : List (Opened V)) → with_slot n os xs ≡ take p xs ++ slot_of n os ++ drop (suc p) xs
    with_slot-at os = λ j. low j ++ slot_of n os ++ high j
      where
        low : filter (λ (s : Slot V). nat_lt s.number n) xs ≡ take p xs
        low = filter-front _ xs p (let l = at.within in omega (arith, l)) (λ i d l. lt-ltb _ _ (under i d l)) upward
          where
            upward : (i : ℕ) (d : Slot V) → p ≤ i → i < length xs → nat_lt (get_or xs i d).number n ≡ false
            upward i d l m = by (cases_lt p i)
              where
                by : ((p < i) ⊎ (i ≤ p)) → nat_lt (get_or xs i d).number n ≡ false
                by (inl h) = le-ltb _ _ (let a = beyond i d h m in omega (arith, a))
                by (inr h) =
                    let e : i ≡ p = omega (arith, l, h) in
                    ap (λ k. nat_lt (get_or xs k d).number n) e ∙ le-ltb _ _ (let a = at.number_is d in omega (arith, a))

        high : filter (λ (s : Slot V). nat_lt n s.number) xs ≡ drop (suc p) xs
        high = filter-back _ xs (suc p) (let l = at.within in omega (arith, l)) upto (λ i d l m. lt-ltb _ _ (beyond i d l m))
          where
            upto : (i : ℕ) (d : Slot V) → i < suc p → nat_lt n (get_or xs i d).number ≡ false
            upto i d l = by (cases_lt i p)
              where
                by : ((i < p) ⊎ (p ≤ i)) → nat_lt n (get_or xs i d).number ≡ false
                by (inl h) = le-ltb _ _ (let a = under i d h in omega (arith, a))
                by (inr h) =
                    let e : i ≡ p = omega (arith, l, h) in
                    ap (λ k. nat_lt n (get_or xs k d).number) e ∙ le-ltb _ _ (let a = at.number_is d in omega (arith, a))

    -- so other values are put into it where it stands
    pub changed-at : (m : ℕ) (os : List (Opened V)) → 0 < length os → m ≡ n
        → set xs p (record { number = m; opened = os }) ≡ with_slot n os xs
    changed-at m os l e = sym (with_slot-at os
        ∙ (λ j. take p xs ++ slot_of-held n os l j ++ drop (suc p) xs)
        ∙ (λ j. take p xs ++ (record { number = sym e j; opened = os } ∷ []) ++ drop (suc p) xs)
        ∙ sym (set_is xs p (record { number = m; opened = os }) at.within))

    -- and without values it isn't there
    pub removed-at : remove xs p ≡ with_slot n [] xs
    removed-at = sym (with_slot-at [] ∙ ap (λ ys. ys ++ drop (suc p) xs) (append-nil (take p xs)))

-- the list before its last item
pub front_is : {A : Type 0} (xs ys : List A) (y : A) → xs ≡ ys ++ y ∷ [] → ys ≡ front xs
front_is xs ys y e = sym (ap front e ∙ front-push ys y)

-- what an answer that isn't an error tells
pub IfOk-then : {A E : Type 0} {P Q : A → Type 0} (r : Result A E) → ((a : A) → P a → Q a) → IfOk r P → IfOk r Q
IfOk-then (Ok a) f p = f a p
IfOk-then (Err e) f p = tt

pub OnOk-then : {A E : Type 0} {P Q : Type 0} (r : Result A E) → (P → Q) → OnOk r P → OnOk r Q
OnOk-then (Ok a) f p = f p
OnOk-then (Err e) f p = tt

pub OnErr-then : {A E : Type 0} {P Q : Type 0} (r : Result A E) → (P → Q) → OnErr r P → OnErr r Q
OnErr-then (Ok a) f p = tt
OnErr-then (Err e) f p = f p

-- A board stays within its limits, and what its slots hold is few.
use Rattle.std.proofs.Common.{◌≡◌, ℕ, suc, zero, ◌+◌, ◌-◌, ◌<◌, ◌≤◌, ◌==◌, List, [], ◌∷◌, ◌++◌, Bool, true, false, if◌then◌else◌, nat_lt, min, length, filter, take, set, Result, Ok, Err, OnOk, OnErr, ap, subst, sym, refl, ◌∙◌, ◌⊎◌, inl, inr, arith}
use Rattle.std.specs.List.{All}
use Rattle.std.proofs.lemmas.Bool.{cases_lt, eqb-true, lt-ltb, le-ltb, ltb-true, ne_eqb, eq-eqb}
use Rattle.std.proofs.lemmas.Bool.Decides.{nat_tests}
use Rattle.std.proofs.lemmas.List.{length-append, length-take}
use Rattle.std.proofs.lemmas.List.Elements.{All-append, All-filter, All-nil, All-cons}
use Rattle.cal_board.specs.Blackboard.{Blackboard, IsWithin, begin_reply, depth_at, most_values, room_reply, slot_number, with_values}
use Rattle.cal_board.specs.Slots.{front, opened_in, slot_of, with_slot}
use Rattle.cal_board.specs.declared.attr.AttrRef.{AttrRef}
use Rattle.cal_board.specs.declared.opened.Opened.{Opened}
use Rattle.cal_board.specs.declared.opened.Slot.{Slot}
use Rattle.cal_board.specs.declared.reply.BoardReply as replies
use Rattle.cal_board.specs.declared.reply.BoardReply.TheVariants.{Done, Mismatch, NotOpen, TooDeep, SlotsFull}
use Rattle.cal_value.specs.declared.variant.Variant.{Variant}

-- one of two
pub either_list : {A : Type 0} (P : A → Type 0) (b : Bool) (x y : A) → P x → P y → P (if b then x else y)
either_list P true x y p q = p
either_list P false x y p q = q

-- the first place of a list that was written
pub take-set_first : (xs : List ℕ) (v : ℕ) → 0 < length xs → take 1 (set xs 0 v) ≡ v ∷ []
take-set_first [] v l = absurd (omega (arith, l))
take-set_first (x ∷ xs) v l = refl

module _ {V : Type 0} where
  -- the values of one slot are few
  pub opened_in-short : (n : ℕ) (xs : List (Slot V)) → All (λ (s : Slot V). length s.opened ≤ 128) xs → length (opened_in n xs) ≤ 128
  opened_in-short n [] short = omega arith
  opened_in-short n (s ∷ ss) short =
      either_list (λ (os : List (Opened V)). length os ≤ 128) (s.number == n) s.opened (opened_in n ss)
      (short 0 s (omega arith)) (opened_in-short n ss (λ i d l. short (suc i) d (omega (arith, l))))

  slot_of-short : (n : ℕ) (os : List (Opened V)) → length os ≤ 128 → All (λ (s : Slot V). length s.opened ≤ 128) (slot_of n os)
  slot_of-short n [] few = All-nil (λ (s : Slot V). length s.opened ≤ 128)
  slot_of-short n (o ∷ os) few =
      All-cons (λ (s : Slot V). length s.opened ≤ 128) (record { number = n; opened = o ∷ os }) [] few (All-nil (λ (s : Slot V). length s.opened ≤ 128))

  pub with_slot-short : (n : ℕ) (os : List (Opened V)) (xs : List (Slot V)) → All (λ (s : Slot V). length s.opened ≤ 128) xs
      → length os ≤ 128 → All (λ (s : Slot V). length s.opened ≤ 128) (with_slot n os xs)
  with_slot-short n os xs short few =
      let Short : Slot V → Type 0 = λ s. length s.opened ≤ 128 in
      let low : List (Slot V) = filter (λ (s : Slot V). nat_lt s.number n) xs in
      let high : List (Slot V) = filter (λ (s : Slot V). nat_lt n s.number) xs in
      All-append Short (low ++ slot_of n os) high
      (All-append Short low (slot_of n os) (All-filter (λ (s : Slot V). nat_lt s.number n) Short xs short) (slot_of-short n os few))
      (All-filter (λ (s : Slot V). nat_lt n s.number) Short xs short)

  -- the slots before and after a number, and the one of the number where it holds a value
  abbrev Others : (n : ℕ) (s : Slot V) (ss : List (Slot V)) → Bool → Bool → Bool → Type 0
  Others n s ss a b e =
      length (if a then s ∷ filter (λ (s : Slot V). nat_lt s.number n) ss else filter (λ (s : Slot V). nat_lt s.number n) ss)
      + length (if b then s ∷ filter (λ (s : Slot V). nat_lt n s.number) ss else filter (λ (s : Slot V). nat_lt n s.number) ss)
      + min 1 (length (if e then s.opened else opened_in n ss)) ≤ suc (length ss)

  others-one : (n : ℕ) (s : Slot V) (ss : List (Slot V))
      → length (filter (λ (s : Slot V). nat_lt s.number n) ss) + length (filter (λ (s : Slot V). nat_lt n s.number) ss)
      + min 1 (length (opened_in n ss)) ≤ length ss
      → Others n s ss (nat_lt s.number n) (nat_lt n s.number) (s.number == n)
  others-one n s ss rest = by (cases_lt s.number n) (cases_lt n s.number)
    where
      at : (a b e : Bool) → nat_lt s.number n ≡ a → nat_lt n s.number ≡ b → (s.number == n) ≡ e → Others n s ss a b e
          → Others n s ss (nat_lt s.number n) (nat_lt n s.number) (s.number == n)
      at a b e p q r g = subst (λ x. Others n s ss x (nat_lt n s.number) (s.number == n)) (sym p)
          (subst (λ x. Others n s ss a x (s.number == n)) (sym q) (subst (λ x. Others n s ss a b x) (sym r) g))

      by : ((s.number < n) ⊎ (n ≤ s.number)) → ((n < s.number) ⊎ (s.number ≤ n))
          → Others n s ss (nat_lt s.number n) (nat_lt n s.number) (s.number == n)
      by (inl h) other = at true false false (lt-ltb _ _ h) (le-ltb _ _ (omega (arith, h))) (ne_eqb _ _ (λ e. omega (arith, h, e)))
          (omega (arith, rest))
      by (inr g) (inl h) = at false true false (le-ltb _ _ g) (lt-ltb _ _ h) (ne_eqb _ _ (λ e. omega (arith, h, e)))
          (omega (arith, rest))
      by (inr g) (inr h) = at false false true (le-ltb _ _ g) (le-ltb _ _ h) (eq-eqb _ _ (omega (arith, g, h)))
          (omega (arith, rest))

  others : (n : ℕ) (xs : List (Slot V))
      → length (filter (λ (s : Slot V). nat_lt s.number n) xs) + length (filter (λ (s : Slot V). nat_lt n s.number) xs)
      + min 1 (length (opened_in n xs)) ≤ length xs
  others n [] = omega arith
  others n (s ∷ ss) = others-one n s ss (others n ss)

  slot_of-few : (n : ℕ) (os : List (Opened V)) → length (slot_of n os) ≡ min 1 (length os)
  slot_of-few n [] = refl
  slot_of-few n (o ∷ os) = omega arith

  -- a slot that is changed adds at most itself, and nothing where it held a value
  pub with_slot-few : (n : ℕ) (os : List (Opened V)) (xs : List (Slot V))
      → length (with_slot n os xs) + min 1 (length (opened_in n xs)) ≤ length xs + min 1 (length os)
  with_slot-few n os xs =
      let low : List (Slot V) = filter (λ (s : Slot V). nat_lt s.number n) xs in
      let high : List (Slot V) = filter (λ (s : Slot V). nat_lt n s.number) xs in
      let a = length-append (low ++ slot_of n os) high in
      let b = length-append low (slot_of n os) in
      let e = slot_of-few n os in
      let r = others n xs in
      omega (arith, a, b, e, r)

-- ---- boards

-- there is room for a value where a `begin` is accepted
pub room-done : (slots depth : ℕ) → room_reply slots depth ≡ Done → (depth < 128) × ((depth ≡ 0) → slots < 64)
room-done slots depth is = grind (arith, nat_tests)

module _ {V : Type 0} (b : Blackboard V) where
  -- a reference slot for which a `begin` is accepted has room
  pub few-references : (a : AttrRef) → a.as_value ≡ false → begin_reply b a ≡ Done
      → length (opened_in (slot_number a) b.references) < most_values
  few-references a t done =
      let depth : depth_at b a ≡ length (opened_in (slot_number a) b.references) =
      (λ j. if t j then length (opened_in (slot_number a) b.as_values) else length (opened_in (slot_number a) b.references)) in
      let room = room-done _ (depth_at b a) done in
      let r = room.0 in
      omega (arith, r, depth)

module _ {V : Type 0} (b : Blackboard V) (is : IsWithin b) where
  -- the values below the last one are fewer than a slot may hold
  pub few-before : (k : ℕ) → length (front (opened_in k b.references)) < most_values
  few-before k =
      let less = length-take (length (opened_in k b.references) - 1) (opened_in k b.references) in
      let few = opened_in-short k b.references is.references in
      omega (arith, less, few)

  -- other values in one slot of a board: few, and no more slots than there is room for
  within-fits : (r s o d m : ℕ) → r + min 1 d ≤ s + min 1 m → s + o ≤ 64 → (d ≡ 0 → (s + o < 64) ⊎ (m ≡ 0)) → r + o ≤ 64
  within-fits r s o zero m h w room = by (room refl)
    where
      by : ((s + o < 64) ⊎ (m ≡ 0)) → r + o ≤ 64
      by (inl l) = omega (arith, h, l)
      by (inr e) = omega (arith, h, w, e)
  within-fits r s o (suc d) m h w room = omega (arith, h, w)

  pub within-references : (k : ℕ) (os : List (Opened V)) (new : List (Slot V)) → new ≡ with_slot k os b.references
      → length os ≤ 128
      → (length (opened_in k b.references) ≡ 0 → (length b.references + length b.as_values < 64) ⊎ (length os ≡ 0))
      → IsWithin (record { references = new; as_values = b.as_values })
  within-references k os new e few room = subst (λ xs. IsWithin (record { references = xs; as_values = b.as_values })) (sym e)
      (record {
        slots = within-fits _ (length b.references) (length b.as_values) _ _ (with_slot-few k os b.references) is.slots room;
        references = with_slot-short k os b.references is.references few;
        as_values = is.as_values;
      })

  swapped : (m : ℕ) → (length b.references + length b.as_values < 64) ⊎ (m ≡ 0) → (length b.as_values + length b.references < 64) ⊎ (m ≡ 0)
  swapped m (inl l) = inl (omega (arith, l))
  swapped m (inr e) = inr e

  pub within-as_values : (k : ℕ) (os : List (Opened Variant)) (new : List (Slot Variant)) → new ≡ with_slot k os b.as_values
      → length os ≤ 128
      → (length (opened_in k b.as_values) ≡ 0 → (length b.references + length b.as_values < 64) ⊎ (length os ≡ 0))
      → IsWithin (record { references = b.references; as_values = new })
  within-as_values k os new e few room = subst (λ xs. IsWithin (record { references = b.references; as_values = xs })) (sym e)
      (record {
        slots = (let w = is.slots in
            let h = within-fits _ (length b.as_values) (length b.references) _ _ (with_slot-few k os b.as_values) (omega (arith, w)) (λ e. swapped _ (room e)) in
            omega (arith, h));
        references = is.references;
        as_values = with_slot-short k os b.as_values is.as_values few;
      })

  -- one value more, where a `begin` is accepted
  pub more-references : (a : AttrRef) (k : ℕ) (o : Opened V) (new : List (Slot V)) → k ≡ slot_number a → a.as_value ≡ false
      → begin_reply b a ≡ Done → new ≡ with_slot k (opened_in k b.references ++ o ∷ []) b.references
      → IsWithin (record { references = new; as_values = b.as_values })
  more-references a k o new n t done e =
      let depth : depth_at b a ≡ length (opened_in k b.references) =
      (λ j. if t j then length (opened_in (slot_number a) b.as_values) else length (opened_in (sym n j) b.references)) in
      let room = room-done _ (depth_at b a) done in
      let more = length-append (opened_in k b.references) (o ∷ []) in
      within-references k _ new e (let r = room.0 in omega (arith, r, depth, more)) (λ z. inl (room.1 (depth ∙ z)))

  pub more-as_values : (a : AttrRef) (k : ℕ) (o : Opened Variant) (new : List (Slot Variant)) → k ≡ slot_number a → a.as_value ≡ true
      → begin_reply b a ≡ Done → new ≡ with_slot k (opened_in k b.as_values ++ o ∷ []) b.as_values
      → IsWithin (record { references = b.references; as_values = new })
  more-as_values a k o new n t done e =
      let depth : depth_at b a ≡ length (opened_in k b.as_values) =
      (λ j. if t j then length (opened_in (sym n j) b.as_values) else length (opened_in (slot_number a) b.references)) in
      let room = room-done _ (depth_at b a) done in
      let more = length-append (opened_in k b.as_values) (o ∷ []) in
      within-as_values k _ new e (let r = room.0 in omega (arith, r, depth, more)) (λ z. inl (room.1 (depth ∙ z)))

  -- a slot that holds a value, by its number
  pub there-references : (a : AttrRef) (k : ℕ) → k ≡ slot_number a → a.as_value ≡ false → 0 < depth_at b a
      → 0 < length (opened_in k b.references)
  there-references a k n t there =
      let depth : depth_at b a ≡ length (opened_in k b.references) =
      (λ j. if t j then length (opened_in (slot_number a) b.as_values) else length (opened_in (sym n j) b.references)) in
      omega (arith, there, depth)

  pub there-as_values : (a : AttrRef) (k : ℕ) → k ≡ slot_number a → a.as_value ≡ true → 0 < depth_at b a
      → 0 < length (opened_in k b.as_values)
  there-as_values a k n t there =
      let depth : depth_at b a ≡ length (opened_in k b.as_values) =
      (λ j. if t j then length (opened_in (sym n j) b.as_values) else length (opened_in (slot_number a) b.references)) in
      omega (arith, there, depth)

  -- one value in the place of another, and one fewer
  pub instead-references : (k : ℕ) (o : Opened V) (new : List (Slot V)) → 0 < length (opened_in k b.references)
      → new ≡ with_slot k (front (opened_in k b.references) ++ o ∷ []) b.references
      → IsWithin (record { references = new; as_values = b.as_values })
  instead-references k o new there e =
      let more = length-append (front (opened_in k b.references)) (o ∷ []) in
      let less = length-take (length (opened_in k b.references) - 1) (opened_in k b.references) in
      let few = opened_in-short k b.references is.references in
      within-references k _ new e (omega (arith, more, less, few)) (λ z. absurd (omega (arith, there, z)))

  pub instead-as_values : (k : ℕ) (o : Opened Variant) (new : List (Slot Variant)) → 0 < length (opened_in k b.as_values)
      → new ≡ with_slot k (front (opened_in k b.as_values) ++ o ∷ []) b.as_values
      → IsWithin (record { references = b.references; as_values = new })
  instead-as_values k o new there e =
      let more = length-append (front (opened_in k b.as_values)) (o ∷ []) in
      let less = length-take (length (opened_in k b.as_values) - 1) (opened_in k b.as_values) in
      let few = opened_in-short k b.as_values is.as_values in
      within-as_values k _ new e (omega (arith, more, less, few)) (λ z. absurd (omega (arith, there, z)))

  pub fewer-references : (k : ℕ) (new : List (Slot V)) → new ≡ with_slot k (front (opened_in k b.references)) b.references
      → IsWithin (record { references = new; as_values = b.as_values })
  fewer-references k new e =
      let less = length-take (length (opened_in k b.references) - 1) (opened_in k b.references) in
      let few = opened_in-short k b.references is.references in
      within-references k _ new e (omega (arith, less, few)) (λ z. inr (omega (arith, less, z)))

  pub fewer-as_values : (k : ℕ) (new : List (Slot Variant)) → new ≡ with_slot k (front (opened_in k b.as_values)) b.as_values
      → IsWithin (record { references = b.references; as_values = new })
  fewer-as_values k new e =
      let less = length-take (length (opened_in k b.as_values) - 1) (opened_in k b.as_values) in
      let few = opened_in-short k b.as_values is.as_values in
      within-as_values k _ new e (omega (arith, less, few)) (λ z. inr (omega (arith, less, z)))

-- what follows in either case of an answer
pub either_way : {A E P Q R : Type 0} (r : Result A E) → OnOk r P → OnErr r Q → (P → R) → (Q → R) → R
either_way (Ok a) p q f g = f p
either_way (Err e) p q f g = g q

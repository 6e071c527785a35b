-- What holds of each value that the lines of a script open holds of those that a board has.
use Rattle.std.proofs.Common.{◌≡◌, ℕ, zero, suc, ◌+◌, ◌-◌, ◌<◌, Bool, true, false, List, []}
use Rattle.std.proofs.Common.{◌∷◌, ◌++◌, filter, length, take, refl, sym, ap, subst, ◌∙◌, arith}
use Rattle.std.specs.Prelude.{Option, Some, None, ◌==◌, nat_lt, option_map, slice_get}
use Rattle.std.specs.Prelude.{if◌then◌else◌}
use Rattle.std.specs.List.{AllByRecursion}
use Rattle.std.proofs.lemmas.Bool.{eqb-true}
use Rattle.cal_board.specs.Blackboard.{Blackboard, board_after, changed, end_reply, if_done}
use Rattle.cal_board.specs.Blackboard.{is_top, nothing_open, reply_to, slot_number, top_at}
use Rattle.cal_board.specs.Blackboard.{with_values}
use Rattle.cal_board.specs.PathBoards.{last_at, last_opened}
use Rattle.cal_board.specs.Slots.{front, last_attribute, opened_in, slot_of, with_slot}
use Rattle.cal_board.specs.declared.attr.AttrRef.{AttrRef}
use Rattle.cal_board.specs.declared.opened.Opened.{Opened}
use Rattle.cal_board.specs.declared.opened.Slot.{Slot}
use Rattle.cal_board.specs.declared.reply.BoardReply as replies
use Rattle.cal_board.specs.declared.reply.BoardReply.TheVariants as reply
use Rattle.cal_profile.proofs.Lists.{all-filter}
use Rattle.cal_run.specs.Snapshots.{is_end}
use Rattle.cal_value.specs.declared.variant.Variant.{Variant}
use Rattle.cal_words.specs.declared.op.OpCode as codes
use Rattle.cal_words.specs.declared.op.OpCode.TheVariants as code

pub all-append : {A : Type 0} (P : A → Type 0) (xs ys : List A) → AllByRecursion P xs
    → AllByRecursion P ys → AllByRecursion P (xs ++ ys)
all-append P [] ys one other = other
all-append P (x ∷ xs) ys one other = (one.0, all-append P xs ys one.1 other)

all-take : {A : Type 0} (P : A → Type 0) (n : ℕ) (xs : List A) → AllByRecursion P xs
    → AllByRecursion P (take n xs)
all-take P zero xs all = tt
all-take P (suc n) [] all = tt
all-take P (suc n) (x ∷ xs) all = (all.0, all-take P n xs all.1)

all-get : {A : Type 0} (P : A → Type 0) (xs : List A) (i : ℕ) (x : A) → AllByRecursion P xs
    → slice_get xs i ≡ Some x → P x
all-get P [] i x all is = absurd cc
all-get P (y ∷ ys) zero x all is = let same : y ≡ x = cc in subst P same all.0
all-get P (y ∷ ys) (suc i) x all is = all-get P ys i x all.1 is

-- ---- slots

module _ (P : Opened Variant → Type 0) where
  abbrev pub AreSlots : List (Slot Variant) → Type 0
  AreSlots slots = AllByRecursion (λ (s : Slot Variant). AllByRecursion P s.opened) slots

  pub opened_all : (number : ℕ) (slots : List (Slot Variant)) → AreSlots slots
      → AllByRecursion P (opened_in number slots)
  opened_all number [] all = tt
  opened_all number (s ∷ slots) all = by (s.number == number) (opened_all number slots all.1)
    where
      by : (b : Bool) → AllByRecursion P (opened_in number slots)
          → AllByRecursion P (if b then s.opened else opened_in number slots)
      by true rest = all.0
      by false rest = rest

  with_slot_all : (number : ℕ) (opened : List (Opened Variant)) (slots : List (Slot Variant))
      → AllByRecursion P opened → AreSlots slots → AreSlots (with_slot number opened slots)
  with_slot_all number opened slots own all =
      all-append IsSlot (filter (λ (s : Slot Variant). nat_lt s.number number) slots
      ++ slot_of number opened) (filter (λ (s : Slot Variant). nat_lt number s.number) slots)
      (all-append IsSlot (filter (λ (s : Slot Variant). nat_lt s.number number) slots)
      (slot_of number opened)
      (all-filter IsSlot (λ (s : Slot Variant). nat_lt s.number number) slots all)
      (by opened own))
      (all-filter IsSlot (λ (s : Slot Variant). nat_lt number s.number) slots all)
    where
      IsSlot : Slot Variant → Type 0
      IsSlot s = AllByRecursion P s.opened

      by : (opened : List (Opened Variant)) → AllByRecursion P opened
          → AreSlots (slot_of number opened)
      by [] own = tt
      by (o ∷ os) own = (own, tt)

  pub last_all : (os : List (Opened Variant)) (o : Opened Variant) → AllByRecursion P os
      → last_opened os ≡ Some o → P o
  last_all os o all is = all-get P os (length os - 1) o all is

-- ---- boards

module _ (P Q : Opened Variant → Type 0) where
  -- P holds of what stands in reference slots, and Q of what stands in as-value slots
  pub record AreOn (b : Blackboard Variant) : Type 0 where
    pub references : AreSlots P b.references
    pub as_values : AreSlots Q b.as_values

  pub nothing_on : AreOn nothing_open
  nothing_on = record { references = tt; as_values = tt }

  -- a value that an operation may open
  pub record MayOpen (a : AttrRef) (v : Variant) : Type 0 where
    pub reference : a.as_value ≡ false → P (record { attribute = a.number; value = v })
    pub value : a.as_value ≡ true → Q (record { attribute = a.number; value = v })

  module _ (b : Blackboard Variant) (on : AreOn b) (a : AttrRef) where
    with_values_on : (f g : List (Opened Variant) → List (Opened Variant))
        → (a.as_value ≡ false → AllByRecursion P (opened_in (slot_number a) b.references)
        → AllByRecursion P (f (opened_in (slot_number a) b.references)))
        → (a.as_value ≡ true → AllByRecursion Q (opened_in (slot_number a) b.as_values)
        → AllByRecursion Q (g (opened_in (slot_number a) b.as_values)))
        → AreOn (with_values b a f g)
    with_values_on f g refers values = by a.as_value refl
      where
        by : (v : Bool) → a.as_value ≡ v → AreOn (with_values b a f g)
        by true is = rw is (record {
          references = on.references;
          as_values = with_slot_all Q (slot_number a) (g (opened_in (slot_number a) b.as_values))
              b.as_values
              (values is (opened_all Q (slot_number a) b.as_values on.as_values)) on.as_values;
        })
        by false is = rw is (record {
          references = with_slot_all P (slot_number a) (f (opened_in (slot_number a) b.references))
              b.references
              (refers is (opened_all P (slot_number a) b.references on.references)) on.references;
          as_values = on.as_values;
        })

    front_on : AreOn (with_values b a front front)
    front_on = with_values_on front front
        (λ is all. all-take P (length (opened_in (slot_number a) b.references) - 1)
        (opened_in (slot_number a) b.references) all)
        (λ is all. all-take Q (length (opened_in (slot_number a) b.as_values) - 1)
        (opened_in (slot_number a) b.as_values) all)

    module _ (v : Variant) (opens : MayOpen a v) where
      abbrev new : Opened Variant
      new = record { attribute = a.number; value = v }

      more_on : AreOn (with_values b a (λ os. os ++ new ∷ []) (λ os. os ++ new ∷ []))
      more_on = with_values_on (λ os. os ++ new ∷ []) (λ os. os ++ new ∷ [])
          (λ is all. all-append P (opened_in (slot_number a) b.references) (new ∷ []) all
          (opens.reference is, tt))
          (λ is all. all-append Q (opened_in (slot_number a) b.as_values) (new ∷ []) all
          (opens.value is, tt))

      instead_on : AreOn (with_values b a (λ os. front os ++ new ∷ []) (λ os. front os ++ new ∷ []))
      instead_on = with_values_on (λ os. front os ++ new ∷ []) (λ os. front os ++ new ∷ [])
          (λ is all. all-append P (front (opened_in (slot_number a) b.references)) (new ∷ [])
          (all-take P (length (opened_in (slot_number a) b.references) - 1)
          (opened_in (slot_number a) b.references) all)
          (opens.reference is, tt))
          (λ is all. all-append Q (front (opened_in (slot_number a) b.as_values)) (new ∷ [])
          (all-take Q (length (opened_in (slot_number a) b.as_values) - 1)
          (opened_in (slot_number a) b.as_values) all)
          (opens.value is, tt))

    -- what each operation does, where an opening one may open its value
    changed_on : (c : codes.OpCode) (v : Variant) → (is_end c ≡ false → MayOpen a v)
        → AreOn (changed b c a v v)
    changed_on code.Begin v opens = more_on v (opens refl)
    changed_on code.End v opens = front_on
    changed_on code.Set v opens = by (is_top (top_at b a) a.number)
      where
        by : (t : Bool) → AreOn (if t
            then with_values b a (λ os. front os ++ new v (opens refl) ∷ [])
            (λ os. front os ++ new v (opens refl) ∷ [])
            else with_values b a (λ os. os ++ new v (opens refl) ∷ [])
            (λ os. os ++ new v (opens refl) ∷ []))
        by true = instead_on v (opens refl)
        by false = more_on v (opens refl)

    pub board_after_on : (c : codes.OpCode) (v : Variant) → (is_end c ≡ false → MayOpen a v)
        → AreOn (board_after b c a v v)
    board_after_on c v opens = by (reply_to b c a)
      where
        by : (r : replies.BoardReply) → AreOn (if_done r (changed b c a v v) b)
        by reply.Done = changed_on c v opens
        by (reply.Mismatch top) = on
        by reply.NotOpen = on
        by (reply.TreeFull full) = on
        by reply.TooDeep = on
        by reply.SlotsFull = on

-- ---- the value that an accepted `end` closes

-- it has the attribute of the `end`
pub top_closed : (b : Blackboard Variant) (a : AttrRef) (o : Opened Variant)
    → reply_to b code.End a ≡ reply.Done → last_at b a ≡ Some o → o.attribute ≡ a.number
top_closed b a o done is = by (o.attribute == a.number) refl
  where
    last : Bool → Option (Opened Variant)
    last v = if v then last_opened (opened_in (slot_number a) b.as_values)
        else last_opened (opened_in (slot_number a) b.references)

    top : Bool → Option ℕ
    top v = if v then last_attribute (opened_in (slot_number a) b.as_values)
        else last_attribute (opened_in (slot_number a) b.references)

    tops : (v : Bool) → last v ≡ Some o → top v ≡ Some o.attribute
    tops true e = ap (option_map (λ (o : Opened Variant). o.attribute)) e
    tops false e = ap (option_map (λ (o : Opened Variant). o.attribute)) e

    replied : end_reply (Some o.attribute) a.number ≡ reply.Done
    replied = ap (λ t. end_reply t a.number) (sym (tops a.as_value is)) ∙ done

    by : (t : Bool) → (o.attribute == a.number) ≡ t → o.attribute ≡ a.number
    by true e = eqb-true o.attribute a.number e
    by false e =
        let refused : reply.Mismatch o.attribute ≡ reply.Done =
        sym (ap (λ t. if t then reply.Done else reply.Mismatch o.attribute) e) ∙ replied in
        absurd cc

-- and there is one
pub nothing_closed : (b : Blackboard Variant) (a : AttrRef) → reply_to b code.End a ≡ reply.Done
    → last_at b a ≡ None → ⊥
nothing_closed b a done is =
    let refused : reply.NotOpen ≡ reply.Done =
    ap (λ t. end_reply t a.number) (sym (tops a.as_value is)) ∙ done in
    cc
  where
    tops : (v : Bool)
        → (if v then last_opened (opened_in (slot_number a) b.as_values)
        else last_opened (opened_in (slot_number a) b.references)) ≡ None
        → (if v then last_attribute (opened_in (slot_number a) b.as_values)
        else last_attribute (opened_in (slot_number a) b.references)) ≡ None
    tops true e = ap (option_map (λ (o : Opened Variant). o.attribute)) e
    tops false e = ap (option_map (λ (o : Opened Variant). o.attribute)) e

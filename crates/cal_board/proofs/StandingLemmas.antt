-- What a board of nodes stands for, while it is changed and while its maker grows.
use Rattle.std.proofs.Common.{◌≡◌, ◌≢◌, ℕ, suc, ◌+◌, ◌-◌, ◌<◌, ◌≤◌, ◌==◌, List, [], ◌∷◌, ◌++◌, Bool, true, false, cond, if◌then◌else◌, nat_lt, length, get_or, take, filter, map, Some, None, slice_get, ap, subst, sym, refl, ◌∙◌, ◌⊎◌, inl, inr, arith}
use Rattle.std.specs.List.{AllZip}
use Rattle.std.specs.Option.{option_map}
use Rattle.std.proofs.lemmas.Bool.{cases_lt, true≢false}
use Rattle.std.proofs.lemmas.List.{get_or-take, get_or_append_left, get_or_push, length-append, length-map, length-take, map-append, nil_from_length, take-append-le, take_all}
use Rattle.std.proofs.Math.Seq.{take-take}
use Rattle.std.specs.List.{take-map}
use Rattle.std.proofs.lemmas.Option.{slice_get-get_or, slice_get-map}
use Rattle.std.proofs.lemmas.Slice.Zip.{AllZip-long}
use Rattle.cal_board.specs.Blackboard.{Blackboard, begin_reply, begun, board_after, changed, depth_at, end_reply, ended, if_done, is_top, opened_instead, opened_more, reply_to, room_reply, slot_number, top_at, with_values}
use Rattle.cal_board.specs.Slots.{front, last_attribute, last_value, opened_in, slot_of, with_slot}
use Rattle.cal_board.specs.Standing.{IsParent, OpenedStand, SlotStands, Stands, Steps}
use Rattle.cal_board.specs.declared.attr.AttrRef.{AttrRef}
use Rattle.cal_board.specs.declared.opened.Opened.{Opened}
use Rattle.cal_board.specs.declared.opened.Slot.{Slot}
use Rattle.cal_board.specs.declared.reply.BoardReply as replies
use Rattle.cal_board.specs.declared.reply.BoardReply.TheVariants.{Done, Mismatch, NotOpen, TooDeep, SlotsFull, TreeFull}
use Rattle.cal_value.specs.declared.variant.Variant.{Variant}
use Rattle.cal_words.specs.declared.op.OpCode as codes
use Rattle.cal_words.specs.declared.op.OpCode.TheVariants.{Begin, End, Set}

-- ---- lists that go together, place by place

module _ {A B : Type 0} (R : A → B → Type 0) where
  AllZip-cond : (a b : Bool) → a ≡ b → (x : A) (y : B) → R x y → (xs : List A) (ys : List B) → AllZip R xs ys
      → AllZip R (cond a (x ∷ xs) xs) (cond b (y ∷ ys) ys)
  AllZip-cond true true e x y r xs ys z = (r, z)
  AllZip-cond true false e x y r xs ys z = absurd (true≢false e)
  AllZip-cond false true e x y r xs ys z = absurd (true≢false (sym e))
  AllZip-cond false false e x y r xs ys z = z

  pub AllZip-filter : (p : A → Bool) (q : B → Bool) → ((x : A) (y : B) → R x y → p x ≡ q y)
      → (xs : List A) (ys : List B) → AllZip R xs ys → AllZip R (filter p xs) (filter q ys)
  AllZip-filter p q same [] [] h = h
  AllZip-filter p q same [] (y ∷ ys) h = absurd h
  AllZip-filter p q same (x ∷ xs) [] h = absurd h
  AllZip-filter p q same (x ∷ xs) (y ∷ ys) h =
      AllZip-cond (p x) (q y) (same x y h.0) x y h.0 (filter p xs) (filter q ys) (AllZip-filter p q same xs ys h.1)

  pub AllZip-append : (xs us : List A) (ys vs : List B) → AllZip R xs ys → AllZip R us vs → AllZip R (xs ++ us) (ys ++ vs)
  AllZip-append [] us [] vs h g = g
  AllZip-append [] us (y ∷ ys) vs h g = absurd h
  AllZip-append (x ∷ xs) us [] vs h g = absurd h
  AllZip-append (x ∷ xs) us (y ∷ ys) vs h g = (h.0, AllZip-append xs us ys vs h.1 g)

  pub AllZip-weaken : (S : A → B → Type 0) → ((x : A) (y : B) → R x y → S x y) → (xs : List A) (ys : List B) → AllZip R xs ys → AllZip S xs ys
  AllZip-weaken S f [] [] h = h
  AllZip-weaken S f [] (y ∷ ys) h = absurd h
  AllZip-weaken S f (x ∷ xs) [] h = absurd h
  AllZip-weaken S f (x ∷ xs) (y ∷ ys) h = (f x y h.0, AllZip-weaken S f xs ys h.1)

-- ---- the nodes of one slot

module _ {N : Type 0} (P : N → List (Opened Variant) → Type 0) where
  attribute_of_node : Opened N → ℕ
  attribute_of_node = λ o. o.attribute

  attribute_of_value : Opened Variant → ℕ
  attribute_of_value = λ o. o.attribute

  pub held_long : (hs : List (Opened N)) (os : List (Opened Variant)) → OpenedStand P hs os → length hs ≡ length os
  held_long hs os is = sym (length-map hs (λ (o : Opened N). o.attribute)) ∙ ap length is.attributes ∙ length-map os (λ (o : Opened Variant). o.attribute)

  pub OpenedStand-nil : OpenedStand P [] []
  OpenedStand-nil = record { attributes = refl; nodes = λ i d l. absurd (omega (arith, l)) }

  -- one more value, with its node
  pub OpenedStand-more : (hs : List (Opened N)) (os : List (Opened Variant)) (a : ℕ) (n : N) (v : Variant)
      → OpenedStand P hs os → P n (os ++ record { attribute = a; value = v } ∷ [])
      → OpenedStand P (opened_more a n hs) (opened_more a v os)
  OpenedStand-more hs os a n v is made = record {
    attributes = map-append (λ (o : Opened N). o.attribute) hs (record { attribute = a; value = n } ∷ [])
        ∙ ap (λ ns. ns ++ a ∷ []) is.attributes
        ∙ sym (map-append (λ (o : Opened Variant). o.attribute) os (record { attribute = a; value = v } ∷ []));
    nodes = λ i d l. by i d l (cases_lt i (length hs));
  }
    where
      by : (i : ℕ) (d : Opened N) → i < length (opened_more a n hs) → ((i < length hs) ⊎ (length hs ≤ i))
          → P (get_or (opened_more a n hs) i d).value (take (i + 1) (opened_more a v os))
      by i d l (inl h) =
          let k = held_long hs os is in
          let m : i + 1 ≤ length os = omega (arith, h, k) in
          rw (get_or_append_left hs (record { attribute = a; value = n } ∷ []) d i h)
          (rw (take-append-le (i + 1) os (record { attribute = a; value = v } ∷ []) m) (is.nodes i d h))
      by i d l (inr h) =
          let k = held_long hs os is in
          let at : length hs ≡ i = omega (arith, l, h, length-append hs (record { attribute = a; value = n } ∷ [])) in
          let m : length (opened_more a v os) ≤ i + 1 = omega (arith, h, k, length-append os (record { attribute = a; value = v } ∷ [])) in
          rw (get_or_push hs (record { attribute = a; value = n }) d i at)
          (rw (take_all (i + 1) (opened_more a v os) m) made)

  -- one fewer
  pub OpenedStand-front : (hs : List (Opened N)) (os : List (Opened Variant)) → OpenedStand P hs os → OpenedStand P (front hs) (front os)
  OpenedStand-front hs os is = record {
    attributes = sym (take-map (λ (o : Opened N). o.attribute) (length hs - 1) hs)
        ∙ (λ j. take (held_long hs os is j - 1) (is.attributes j))
        ∙ take-map (λ (o : Opened Variant). o.attribute) (length os - 1) os;
    nodes = λ i d l.
        let k = held_long hs os is in
        let m = length-take (length hs - 1) hs in
        let h : i < length hs - 1 = omega (arith, l, m) in
        let g : i < length hs = omega (arith, h) in
        let f : i + 1 ≤ length os - 1 = omega (arith, h, k) in
        rw (get_or-take (length hs - 1) hs i d h) (rw (take-take (i + 1) (length os - 1) os f) (is.nodes i d g));
  }

  -- the last node is the one below which a value is opened
  pub parent_of : (hs : List (Opened N)) (os : List (Opened Variant)) → OpenedStand P hs os → IsParent P (last_value hs) os
  parent_of [] os is = nil_from_length os (let k = held_long [] os is in omega (arith, k))
  parent_of (h ∷ hs) os is =
      let k = held_long (h ∷ hs) os is in
      let n : length hs < length (h ∷ hs) = omega arith in
      let m : length os ≤ length hs + 1 = omega (arith, k) in
      let at : slice_get (h ∷ hs) (length hs) ≡ Some (get_or (h ∷ hs) (length hs) h) = slice_get-get_or (h ∷ hs) (length hs) h n in
      let e : length (h ∷ hs) - 1 ≡ length hs = omega arith in
      subst (λ o. IsParent P (option_map (λ (o : Opened N). o.value) o) os) (sym (ap (λ i. slice_get (h ∷ hs) i) e ∙ at))
      (subst (P (get_or (h ∷ hs) (length hs) h).value) (take_all (length hs + 1) os m) (is.nodes (length hs) h n))

  last_attribute-Stands : (hs : List (Opened N)) (os : List (Opened Variant)) → OpenedStand P hs os → last_attribute hs ≡ last_attribute os
  last_attribute-Stands hs os is =
      sym (slice_get-map (λ (o : Opened N). o.attribute) hs (length hs - 1))
      ∙ (λ j. slice_get (is.attributes j) (held_long hs os is j - 1))
      ∙ slice_get-map (λ (o : Opened Variant). o.attribute) os (length os - 1)

  -- ---- slots

  OpenedStand-if : (a b : Bool) → a ≡ b → (hs hs' : List (Opened N)) (os os' : List (Opened Variant))
      → OpenedStand P hs os → OpenedStand P hs' os' → OpenedStand P (if a then hs else hs') (if b then os else os')
  OpenedStand-if true true e hs hs' os os' is isnt = is
  OpenedStand-if true false e hs hs' os os' is isnt = absurd (true≢false e)
  OpenedStand-if false true e hs hs' os os' is isnt = absurd (true≢false (sym e))
  OpenedStand-if false false e hs hs' os os' is isnt = isnt

  pub opened_in-Stands : (n : ℕ) (hs : List (Slot N)) (ss : List (Slot Variant)) → AllZip (SlotStands P) hs ss
      → OpenedStand P (opened_in n hs) (opened_in n ss)
  opened_in-Stands n [] [] z = OpenedStand-nil
  opened_in-Stands n [] (s ∷ ss) z = absurd z
  opened_in-Stands n (h ∷ hs) [] z = absurd z
  opened_in-Stands n (h ∷ hs) (s ∷ ss) z =
      OpenedStand-if (h.number == n) (s.number == n) (ap (λ m. m == n) z.0.number) h.opened (opened_in n hs) s.opened (opened_in n ss)
      z.0.opened (opened_in-Stands n hs ss z.1)

  slot_of-Stands : (n : ℕ) (hs : List (Opened N)) (os : List (Opened Variant)) → OpenedStand P hs os
      → AllZip (SlotStands P) (slot_of n hs) (slot_of n os)
  slot_of-Stands n [] [] is = tt
  slot_of-Stands n [] (o ∷ os) is = absurd (let k = held_long [] (o ∷ os) is in omega (arith, k))
  slot_of-Stands n (h ∷ hs) [] is = absurd (let k = held_long (h ∷ hs) [] is in omega (arith, k))
  slot_of-Stands n (h ∷ hs) (o ∷ os) is = (record { number = refl; opened = is }, tt)

  pub with_slot-Stands : (n : ℕ) (ho : List (Opened N)) (so : List (Opened Variant)) (hs : List (Slot N)) (ss : List (Slot Variant))
      → AllZip (SlotStands P) hs ss → OpenedStand P ho so → AllZip (SlotStands P) (with_slot n ho hs) (with_slot n so ss)
  with_slot-Stands n ho so hs ss z is =
      AllZip-append (SlotStands P) _ _ _ _
      (AllZip-append (SlotStands P) _ _ _ _
      (AllZip-filter (SlotStands P) (λ (s : Slot N). nat_lt s.number n) (λ (s : Slot Variant). nat_lt s.number n) (λ h s r. ap (λ m. nat_lt m n) r.number) hs ss z)
      (slot_of-Stands n ho so is))
      (AllZip-filter (SlotStands P) (λ (s : Slot N). nat_lt n s.number) (λ (s : Slot Variant). nat_lt n s.number) (λ h s r. ap (λ m. nat_lt n m) r.number) hs ss z)

  -- ---- boards

  pub with_values-Stands : (held : Blackboard N) (b : Blackboard Variant) (a : AttrRef) (f : List (Opened N) → List (Opened N))
      (f' g : List (Opened Variant) → List (Opened Variant)) → Stands P held b
      → OpenedStand P (f (opened_in (slot_number a) held.references)) (f' (opened_in (slot_number a) b.references))
      → Stands P (with_values held a f g) (with_values b a f' g)
  with_values-Stands held b a f f' g is step = by a.as_value
    where
      k : ℕ
      k = slot_number a

      by : (t : Bool) → Stands P
          (if t then record { references = held.references; as_values = with_slot k (g (opened_in k held.as_values)) held.as_values }
          else record { references = with_slot k (f (opened_in k held.references)) held.references; as_values = held.as_values })
          (if t then record { references = b.references; as_values = with_slot k (g (opened_in k b.as_values)) b.as_values }
          else record { references = with_slot k (f' (opened_in k b.references)) b.references; as_values = b.as_values })
      by true = record { references = is.references; as_values = ap (λ vs. with_slot k (g (opened_in k vs)) vs) is.as_values }
      by false = record { references = with_slot-Stands k _ _ _ _ is.references step; as_values = is.as_values }

  module _ (held : Blackboard N) (b : Blackboard Variant) (is : Stands P held b) (a : AttrRef) where
    at_slot : OpenedStand P (opened_in (slot_number a) held.references) (opened_in (slot_number a) b.references)
    at_slot = opened_in-Stands (slot_number a) _ _ is.references

    depth_at-Stands : depth_at held a ≡ depth_at b a
    depth_at-Stands = (λ j. if a.as_value then length (opened_in (slot_number a) (is.as_values j)) else held_long _ _ at_slot j)

    top_at-Stands : top_at held a ≡ top_at b a
    top_at-Stands = (λ j. if a.as_value then last_attribute (opened_in (slot_number a) (is.as_values j)) else last_attribute-Stands _ _ at_slot j)

    begin_reply-Stands : begin_reply held a ≡ begin_reply b a
    begin_reply-Stands = (λ j. room_reply (sym (AllZip-long (SlotStands P) _ _ is.references) j + length (is.as_values j)) (depth_at-Stands j))

    -- a board of nodes replies as the board that it stands for
    pub reply_to-Stands : (c : codes.OpCode) → reply_to held c a ≡ reply_to b c a
    reply_to-Stands Begin = begin_reply-Stands
    reply_to-Stands End = λ j. end_reply (top_at-Stands j) a.number
    reply_to-Stands Set = λ j. if is_top (top_at-Stands j) a.number then Done else begin_reply-Stands j

    -- an accepted line's change
    pub after_done : (Q : N → List (Opened Variant) → Type 0) (new : Blackboard N) (c : codes.OpCode) (v : Variant)
        → reply_to held c a ≡ Done → Stands Q new (changed b c a v v) → Stands Q new (board_after b c a v v)
    after_done Q new c v e s =
        subst (λ r. Stands Q new (if_done r (changed b c a v v) b)) (sym (sym (reply_to-Stands c) ∙ e)) s

    -- a `set` in the place of the last value
    pub after_instead : (Q : N → List (Opened Variant) → Type 0) (new : Blackboard N) (v : Variant)
        → is_top (top_at held a) a.number ≡ true
        → Stands Q new (with_values b a (opened_instead a.number v) (opened_instead a.number v))
        → Stands Q new (board_after b Set a v v)
    after_instead Q new v e s =
        let f : is_top (top_at b a) a.number ≡ true = ap (λ t. is_top t a.number) (sym top_at-Stands) ∙ e in
        subst (λ t. Stands Q new (if_done (if t then Done else begin_reply b a) (if t then with_values b a (opened_instead a.number v) (opened_instead a.number v) else begun b a v v) b)) (sym f) s

    -- and another is like a `begin`
    pub after_begun : (Q : N → List (Opened Variant) → Type 0) (new : Blackboard N) (v : Variant)
        → is_top (top_at held a) a.number ≡ false
        → Stands Q new (board_after b Begin a v v) → Stands Q new (board_after b Set a v v)
    after_begun Q new v e s =
        let f : is_top (top_at b a) a.number ≡ false = ap (λ t. is_top t a.number) (sym top_at-Stands) ∙ e in
        subst (λ t. Stands Q new (if_done (if t then Done else begin_reply b a) (if t then with_values b a (opened_instead a.number v) (opened_instead a.number v) else begun b a v v) b)) (sym f) s

    -- a refused line has none
    pub after_refused : (Q : N → List (Opened Variant) → Type 0) (c : codes.OpCode) (v : Variant)
        → reply_to held c a ≢ Done → Stands Q held b → Stands Q held (board_after b c a v v)
    after_refused Q c v ne s = by (reply_to b c a) (λ e. ne (reply_to-Stands c ∙ e))
      where
        by : (r : replies.BoardReply) → r ≢ Done → Stands Q held (if_done r (changed b c a v v) b)
        by Done e = absurd (e refl)
        by (Mismatch t) e = s
        by NotOpen e = s
        by (TreeFull full) e = s
        by TooDeep e = s
        by SlotsFull e = s

-- an `end`
pub ended-Stands : {N : Type 0} (P : N → List (Opened Variant) → Type 0) (held : Blackboard N) (b : Blackboard Variant)
    (a : AttrRef) (v : Variant) → Stands P held b → Stands P (ended held a) (board_after b End a v v)
ended-Stands {N} P held b a v is =
    subst (λ r. Stands P (ended held a) (if_done r (with_values b a front front) b)) (reply_to-Stands P held b is a End)
    (by (reply_to held End a))
  where
    by : (r : replies.BoardReply) → Stands P (if_done r (with_values held a front front) held) (if_done r (with_values b a front front) b)
    by Done = with_values-Stands P held b a front front front is
        (OpenedStand-front P _ _ (opened_in-Stands P (slot_number a) held.references b.references is.references))
    by (Mismatch t) = is
    by NotOpen = is
    by (TreeFull full) = is
    by TooDeep = is
    by SlotsFull = is

-- ---- growth

module _ {N : Type 0} (P Q : N → List (Opened Variant) → Type 0)
    (stays : (n : N) (path : List (Opened Variant)) → P n path → Q n path) where
  pub OpenedStand-grows : (hs : List (Opened N)) (os : List (Opened Variant)) → OpenedStand P hs os → OpenedStand Q hs os
  OpenedStand-grows hs os is = record { attributes = is.attributes; nodes = λ i d l. stays _ _ (is.nodes i d l) }

  pub Stands-grows : (held : Blackboard N) (b : Blackboard Variant) → Stands P held b → Stands Q held b
  Stands-grows held b is = record {
    references = AllZip-weaken (SlotStands P) (SlotStands Q)
        (λ h s r. record { number = r.number; opened = OpenedStand-grows h.opened s.opened r.opened }) _ _ is.references;
    as_values = is.as_values;
  }

  -- a value opened behind the last one, with a node that was made below that one's
  pub begun-Stands : (held : Blackboard N) (b : Blackboard Variant) (a : AttrRef) (node : N) (v : Variant) → Stands P held b
      → ((path : List (Opened Variant)) → IsParent P (last_value (opened_in (slot_number a) held.references)) path
      → Q node (path ++ record { attribute = a.number; value = v } ∷ []))
      → Stands Q (begun held a node v) (begun b a v v)
  begun-Stands held b a node v is made =
      let at = opened_in-Stands P (slot_number a) held.references b.references is.references in
      with_values-Stands Q held b a (opened_more a.number node) (opened_more a.number v) (opened_more a.number v)
      (Stands-grows held b is)
      (OpenedStand-more Q _ _ a.number node v (OpenedStand-grows _ _ at) (made _ (parent_of P _ _ at)))

  -- and one in its place
  pub instead-Stands : (held : Blackboard N) (b : Blackboard Variant) (a : AttrRef) (node : N) (v : Variant) → Stands P held b
      → ((path : List (Opened Variant)) → IsParent P (last_value (front (opened_in (slot_number a) held.references))) path
      → Q node (path ++ record { attribute = a.number; value = v } ∷ []))
      → Stands Q (with_values held a (opened_instead a.number node) (opened_instead a.number v))
      (with_values b a (opened_instead a.number v) (opened_instead a.number v))
  instead-Stands held b a node v is made =
      let at = OpenedStand-front P _ _ (opened_in-Stands P (slot_number a) held.references b.references is.references) in
      with_values-Stands Q held b a (opened_instead a.number node) (opened_instead a.number v) (opened_instead a.number v)
      (Stands-grows held b is)
      (OpenedStand-more Q _ _ a.number node v (OpenedStand-grows _ _ at) (made _ (parent_of P _ _ at)))

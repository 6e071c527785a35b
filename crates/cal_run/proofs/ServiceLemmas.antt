-- What services read off a board of nodes is what the board that it stands for shows.
use Rattle.std.proofs.Common.{◌≡◌, ℕ, ◌-◌, ◌<◌, ◌≤◌, List, [], ◌∷◌, ◌++◌, Bool, true, false}
use Rattle.std.proofs.Common.{if◌then◌else◌, nat_lt, length, map, filter, ap, subst, sym, refl}
use Rattle.std.proofs.Common.{◌∙◌, arith}
use Rattle.std.specs.Prelude.{◌==◌, Option, Some, None, slice_get, slice_index_or, unwrap_or}
use Rattle.std.specs.List.{All, AllZip}
use Rattle.std.specs.Option.{option_map}
use Rattle.std.proofs.lemmas.List.{length-map, length-append, get_or_push}
use Rattle.std.proofs.lemmas.List.Elements.{All-append, All-cons, All-filter, All-map}
use Rattle.std.proofs.lemmas.List.Sums.{count_by-le-length, length-filter}
use Rattle.std.proofs.lemmas.Option.{slice_get-get_or, slice_get-map}
use Rattle.cal_board.proofs.LimitLemmas.{opened_in-short}
use Rattle.cal_board.proofs.StandingLemmas.{AllZip-filter, held_long, opened_in-Stands, parent_of}
use Rattle.cal_board.specs.Blackboard.{Blackboard, IsWithin, depths, own_depths, slot_number}
use Rattle.cal_board.specs.Contexts.{NodeStands, opened_entry}
use Rattle.cal_board.specs.PathBoards.{last_at, last_opened}
use Rattle.cal_board.specs.Slots.{last_value, opened_in}
use Rattle.cal_board.specs.Standing.{IsParent, SlotStands, Stands}
use Rattle.cal_board.specs.declared.attr.AttrRef.{AttrRef}
use Rattle.cal_board.specs.declared.opened.Opened.{Opened}
use Rattle.cal_board.specs.declared.opened.Slot.{Slot}
use Rattle.cal_context.specs.Children.{IsLinked}
use Rattle.cal_context.specs.Tree.{Tree, no_value, path_at, value_at}
use Rattle.cal_context.specs.declared.numbers.Link.{Link}
use Rattle.cal_context.specs.declared.numbers.NodeNumber.{NodeNumber}
use Rattle.cal_run.specs.Adding.{AsksForLast, IsEventValue, IsLastShown}
use Rattle.cal_run.specs.Lines.{attr_ref}
use Rattle.cal_run.specs.Snapshots.{CanBeAsked}
use Rattle.cal_run.specs.declared.operation.Operation.{Operation}
use Rattle.cal_run.specs.declared.sink.EventValue as event_values
use Rattle.cal_run.specs.declared.sink.EventValue.TheVariants as event_value
use Rattle.cal_script.specs.declared.script.Script.{Script}
use Rattle.cal_value.specs.declared.attribute.Entry.{Entry}
use Rattle.cal_value.specs.declared.variant.Variant.{Variant}

-- ---- depths

module _ {N : Type 0} (P : N → List (Opened Variant) → Type 0) where
  lengths-Stand : (hs : List (Slot N)) (ss : List (Slot Variant)) → AllZip (SlotStands P) hs ss
      → map (λ (s : Slot N). length s.opened) hs ≡ map (λ (s : Slot Variant). length s.opened) ss
  lengths-Stand [] [] zipped = refl
  lengths-Stand [] (s ∷ ss) zipped = absurd zipped
  lengths-Stand (h ∷ hs) [] zipped = absurd zipped
  lengths-Stand (h ∷ hs) (s ∷ ss) zipped =
      let one = held_long P h.opened s.opened zipped.0.opened in
      let rest = lengths-Stand hs ss zipped.1 in
      λ j. one j ∷ rest j

  pub depths-Stand : (held : Blackboard N) (b : Blackboard Variant) → Stands P held b
      → depths held ≡ depths b
  depths-Stand held b is =
      let nested = held_long P (opened_in 0 held.references) (opened_in 0 b.references)
      (opened_in-Stands P 0 held.references b.references is.references) in
      let own = lengths-Stand (filter (λ (s : Slot N). nat_lt 0 s.number) held.references)
      (filter (λ (s : Slot Variant). nat_lt 0 s.number) b.references)
      (AllZip-filter (SlotStands P) (λ (s : Slot N). nat_lt 0 s.number)
      (λ (s : Slot Variant). nat_lt 0 s.number)
      (λ h s r. ap (λ m. nat_lt 0 m) r.number) held.references b.references is.references) in
      λ j. nested j ∷ (own j ++ own_depths (is.as_values j))

-- the depths of a board that is within its limits
module _ {A : Type 0} where
  few-own : (ss : List (Slot A)) → All (λ (s : Slot A). length s.opened ≤ 128) ss
      → All (λ depth. depth ≤ 128) (own_depths ss)
  few-own ss few = All-map (λ depth. depth ≤ 128) (λ (s : Slot A). length s.opened)
      (filter (λ (s : Slot A). nat_lt 0 s.number) ss)
      (All-filter (λ (s : Slot A). nat_lt 0 s.number) (λ (s : Slot A). length s.opened ≤ 128) ss few)

  short-own : (ss : List (Slot A)) → length (own_depths ss) ≤ length ss
  short-own ss = omega (
    arith,
    length-map (filter (λ (s : Slot A). nat_lt 0 s.number) ss)
        (λ (s : Slot A). length s.opened),
    length-filter (λ (s : Slot A). nat_lt 0 s.number) ss,
    count_by-le-length (λ (s : Slot A). nat_lt 0 s.number) ss,
  )

pub depths-asked : {N : Type 0} (b : Blackboard N) → IsWithin b → CanBeAsked (depths b)
depths-asked b within = record {
  some = omega arith;
  few = omega (
    arith,
    within.slots,
    short-own b.references,
    short-own b.as_values,
    length-append (own_depths b.references) (own_depths b.as_values),
  );
  each = All-cons (λ depth. depth ≤ 128) (length (opened_in 0 b.references))
      (own_depths b.references ++ own_depths b.as_values)
      (opened_in-short 0 b.references within.references)
      (All-append (λ depth. depth ≤ 128) (own_depths b.references) (own_depths b.as_values)
      (few-own b.references within.references) (few-own b.as_values within.as_values));
}

-- ---- the last value of a slot

inner_value : (t : Tree) (o : Option (Opened Variant))
    → option_map (λ (e : Entry). e.value) (option_map (opened_entry t) o)
    ≡ option_map (λ (o : Opened Variant). o.value) o
inner_value t None = refl
inner_value t (Some o) = refl

-- the value of a path's last entry
last_of_path : (t : Tree) (os : List (Opened Variant)) (xs : List Entry) (e : Entry)
    → map (opened_entry t) os ≡ xs ++ e ∷ []
    → option_map (λ (o : Opened Variant). o.value) (last_opened os) ≡ Some e.value
last_of_path t os xs e is =
    let long : length os ≡ length (xs ++ e ∷ []) = sym (length-map os (opened_entry t))
    ∙ ap length is in
    let more = length-append xs (e ∷ []) in
    let last : length xs ≡ length os - 1 = omega (arith, long, more) in
    let within : length os - 1 < length (xs ++ e ∷ []) = omega (arith, long, more) in
    let at : slice_get (xs ++ e ∷ []) (length os - 1) ≡ Some e =
    slice_get-get_or (xs ++ e ∷ []) (length os - 1) e within
    ∙ ap (λ (x : Entry). Some x) (get_or_push xs e e (length os - 1) last) in
    sym (inner_value t (last_opened os))
    ∙ ap (option_map (λ (e : Entry). e.value))
    (sym (slice_get-map (opened_entry t) os (length os - 1))
    ∙ ap (λ es. slice_get es (length os - 1)) is ∙ at)

-- the value of a node's own entry is the last of the values for which the node stands
pub last-linked : (t : Tree) (n : NodeNumber) (l : Link) (values : List Variant)
    (shown : event_values.EventValue) → IsLinked t l n
    → IsEventValue values shown (value_at t l.value)
    → (path : List (Opened Variant)) → NodeStands t n path → IsLastShown values path shown
last-linked t n l values shown linked value path stands = by (last_opened path) refl
  where
    said : option_map (λ (o : Opened Variant). o.value) (last_opened path)
        ≡ Some (value_at t l.value)
    said = last_of_path t path (path_at t l.parent) _ (sym stands.entries ∙ linked.child.path)

    by : (o : Option (Opened Variant)) → last_opened path ≡ o → IsLastShown values path shown
    by None is = absurd (let e = sym said ∙ ap (option_map (λ (o : Opened Variant). o.value)) is in cc)
    by (Some o) is = record {
      last = o;
      is_last = is;
      value = (let same : value_at t l.value ≡ o.value =
          (let e = sym said ∙ ap (option_map (λ (o : Opened Variant). o.value)) is in cc) in
          subst (λ (v : Variant). IsEventValue values shown v) same value);
    }

-- what an end in a slot closes
abbrev pub closed_in : Blackboard Variant → AttrRef → Variant
closed_in b a = unwrap_or (option_map (λ (o : Opened Variant). o.value) (last_at b a)) no_value

module _ {N : Type 0} (P : N → List (Opened Variant) → Type 0) (held : Blackboard N)
    (b : Blackboard Variant) (is : Stands P held b) (a : AttrRef) where
  -- of a reference slot
  referred : a.as_value ≡ false → last_at b a ≡ last_opened (opened_in (slot_number a) b.references)
  referred e = ap (λ t. if t then last_opened (opened_in (slot_number a) b.as_values)
      else last_opened (opened_in (slot_number a) b.references)) e

  parent : IsParent P (last_value (opened_in (slot_number a) held.references))
      (opened_in (slot_number a) b.references)
  parent = parent_of P (opened_in (slot_number a) held.references)
      (opened_in (slot_number a) b.references)
      (opened_in-Stands P (slot_number a) held.references b.references is.references)

  pub closed-none : a.as_value ≡ false
      → None ≡ last_value (opened_in (slot_number a) held.references) → no_value ≡ closed_in b a
  closed-none e none =
      let nil : opened_in (slot_number a) b.references ≡ [] =
      subst (λ o. IsParent P o (opened_in (slot_number a) b.references)) (sym none) parent in
      sym (ap (λ o. unwrap_or (option_map (λ (o : Opened Variant). o.value) o) no_value)
      (referred e ∙ ap last_opened nil))

  -- the last node of a slot stands for its values
  pub last-stands : (n : N) → Some n ≡ last_value (opened_in (slot_number a) held.references)
      → P n (opened_in (slot_number a) b.references)
  last-stands n some = subst
      (λ o. IsParent P o (opened_in (slot_number a) b.references)) (sym some) parent

  pub closed-shown : a.as_value ≡ false → (values : List Variant)
      (shown : event_values.EventValue)
      → IsLastShown values (opened_in (slot_number a) b.references) shown
      → IsEventValue values shown (closed_in b a)
  closed-shown e values shown last =
      subst (λ (v : Variant). IsEventValue values shown v)
      (sym (ap (λ o. unwrap_or (option_map (λ (o : Opened Variant). o.value) o) no_value)
      (referred e ∙ last.is_last))) last.value

-- the last node in the slot of an operation's attribute may be asked for
pub asked-last : {N : Type 0} (is_asked : N → Type 0) (script : Script) (held : Blackboard N)
    (op : Operation) (a : AttrRef) → a ≡ attr_ref script op.attr
    → AsksForLast is_asked script held op → a.as_value ≡ false
    → (n : N) → Some n ≡ last_value (opened_in (slot_number a) held.references) → is_asked n
asked-last {N} is_asked script held op a is asks plain n some =
    asks (subst (λ (a : AttrRef). a.as_value ≡ false) is plain) n
    (subst (λ (a : AttrRef). last_value (opened_in (slot_number a) held.references) ≡ Some n) is
    (sym some))

-- what an operation opens has its place
pub opened-shown : (script : Script) (place : ℕ) → place < length script.values
    → IsEventValue script.values (event_value.Opened place)
    (slice_index_or script.values place no_value)
opened-shown script place below = slice_get-get_or script.values place no_value below

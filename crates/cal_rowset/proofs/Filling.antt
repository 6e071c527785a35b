-- Cells that hold the entries of a row: one name more, one entry more, and none.
use Rattle.std.proofs.Common.{◌≡◌, ℕ, ◌<◌, ◌≤◌, Bool, true, false, ◌||◌, List, [], ◌∷◌, ◌++◌, ◌⊎◌, inl, inr, length, get_or, set, Some, slice_get, map, filter, refl, sym, ap, ◌∙◌, subst, arith, length-set, All, Contains}
use Rattle.std.specs.List.{list_any}
use Rattle.std.proofs.lemmas.Bool.{cases_eq, cases_lt, cond-true, cond-false}
use Rattle.std.proofs.lemmas.List.{append-nil, get_or_default, get_or_read, get_or_append_left, get_or_push, get_or-set_same, get_or-set_other, map-append, length_push}
use Rattle.std.proofs.lemmas.List.Elements.{All-head, All-tail, All-map, All-cons, All-push, All-weaker, All-nil, Contains-append_left, Contains-push, Contains-append_cases, filter-append}
use Rattle.std.proofs.lemmas.Option.{get_or_from_slice_get, slice_get_within}
use Rattle.cal_value.specs.declared.attribute.Entry.{Entry}
use Rattle.cal_value.specs.declared.variant.Variant.{Variant}
use Rattle.cal_context.specs.Lists.{Adds, Interns}
use Rattle.cal_context.proofs.ListLemmas.{AreApart-push, map-alike}
use Rattle.cal_rowset.specs.Cells.{values, values_with}
use Rattle.cal_rowset.specs.Filling.{Shows, HoldsIn, AreCleared, is_nothing, nth_cell, nth_name, no_cell, with_use}
use Rattle.cal_rowset.specs.Texts.{is_same, first_seen}
use Rattle.cal_rowset.specs.declared.cell.Cell.{Cell}
use Rattle.cal_rowset.proofs.Seen.{either_way, same_text, is_same-refl, is_same-other, first_seen-push, All-first_seen}
use Rattle.cal_rowset.proofs.Showing.{Shows-nothing}

-- ---- entries of a name

abbrev pub name_of : Entry → List ℕ
name_of e = e.attr.name

abbrev pub has_name : List ℕ → Entry → Bool
has_name name e = is_same e.attr.name name

pub values_with-push_same : (es : List Entry) (e : Entry) → values_with e.attr.name (es ++ e ∷ []) ≡ values_with e.attr.name es ++ e.value ∷ []
values_with-push_same es e =
    ap values (filter-append (has_name e.attr.name) es (e ∷ []) ∙ rw (is_same-refl e.attr.name) refl)
    ∙ map-append (λ (f : Entry). f.value) (filter (has_name e.attr.name) es) (e ∷ [])

pub values_with-push_other : (name : List ℕ) (es : List Entry) (e : Entry) → is_same e.attr.name name ≡ false → values_with name (es ++ e ∷ []) ≡ values_with name es
values_with-push_other name es e other =
    ap values (filter-append (has_name name) es (e ∷ []) ∙ rw other (append-nil (filter (has_name name) es)))

-- a name that no entry has
pub values_with-none : (name : List ℕ) (names : List (List ℕ)) (es : List Entry) → ¬ Contains names name → All (λ e. Contains names e.attr.name) es → values_with name es ≡ []
values_with-none name names [] new all = refl
values_with-none name names (e ∷ es) new all =
    let P : Entry → Type 0 = λ f. Contains names f.attr.name in
    let other = is_same-other e.attr.name name (λ same. new (subst (Contains names) same (All-head P e es all))) in
    rw other (values_with-none name names es new (All-tail P e es all))

-- whether a name was seen is whether it has values
pub seen_values : (name : List ℕ) (es : List Entry) → values_with name es ≡ [] → list_any (is_same name) (map name_of es) ≡ false
seen_values name [] none = refl
seen_values name (e ∷ es) none =
    elim (either_way (is_same e.attr.name name)) [
      | inl same ↦ (let told : (e.value ∷ values_with name es) ≡ [] = rw same at none in cc)
      | inr other ↦ (
          let rest : values_with name es ≡ [] = rw other at none in
          rw (is_same-other name e.attr.name (λ same. (let told : true ≡ false = sym (is_same-refl e.attr.name) ∙ ap (is_same e.attr.name) (sym same) ∙ other in cc)))
          (seen_values name es rest))
    ]

pub seen_some : (name : List ℕ) (es : List Entry) (v : Variant) (vs : List Variant) → values_with name es ≡ v ∷ vs → list_any (is_same name) (map name_of es) ≡ true
seen_some name [] v vs some = cc
seen_some name (e ∷ es) v vs some =
    elim (either_way (is_same e.attr.name name)) [
      | inl same ↦ rw (sym (same_text e.attr.name name same), is_same-refl e.attr.name) refl
      | inr other ↦ (
          let rest : values_with name es ≡ v ∷ vs = rw other at some in
          rw (seen_some name es v vs rest) (any_way (is_same name e.attr.name)))
    ]
  where
    any_way : (b : Bool) → (b || true) ≡ true
    any_way true = refl
    any_way false = refl

-- ---- names

-- what holds of each item's image
pub All-of_map : {X Y : Type 0} (P : Y → Type 0) (f : X → Y) (xs : List X) → All P (map f xs) → All (λ x. P (f x)) xs
All-of_map P f [] all = All-nil (λ x. P (f x))
All-of_map P f (x ∷ xs) all = All-cons (λ y. P (f y)) x xs (All-head P (f x) (map f xs) all) (All-of_map P f xs (All-tail P (f x) (map f xs) all))

-- a name that a place has
pub Contains-nth : (names : List (List ℕ)) (place : ℕ) → place < length names → Contains names (nth_name names place)
Contains-nth names place l = (place, l, get_or_default names place (nth_name names place) [] l)

module _ (names : List (List ℕ)) (cells : List Cell) (used : List ℕ) (es : List Entry) (holds : HoldsIn names cells used es) where
  -- each entry's name is among them
  pub all_known : All (λ e. Contains names e.attr.name) es
  all_known =
      let known : All (λ place. Contains names (nth_name names place)) used = λ k d l. Contains-nth names (get_or used k d) (holds.within k d l) in
      All-of_map (Contains names) name_of es
      (All-first_seen (Contains names) (map name_of es) (subst (All (Contains names)) holds.used_names (All-map (Contains names) (nth_name names) used known)))

  -- ---- one name more
  Holds-new : (name : List ℕ) (cell : Cell) → ¬ Contains names name → Shows cell [] → HoldsIn (names ++ name ∷ []) (cells ++ cell ∷ []) used es
  Holds-new name cell new empty = record {
    counted = omega (arith, holds.counted, length_push names name, length_push cells cell);
    apart = AreApart-push names name holds.apart new;
    shows = λ place l. by_shows place (cases_lt place (length names)) l;
    used_names = map-alike (nth_name (names ++ name ∷ [])) (nth_name names) used (λ k d l. get_or_append_left names (name ∷ []) [] (get_or used k d) (holds.within k d l)) ∙ holds.used_names;
    within = All-weaker (λ place. place < length names) (λ place. place < length (names ++ name ∷ [])) (λ place l. omega (arith, l, length_push names name)) used holds.within;
    idle = λ place l. by_idle place (cases_lt place (length names)) l;
  }
    where
      before : (place : ℕ) → place < length names → nth_cell (cells ++ cell ∷ []) place ≡ nth_cell cells place
      before place l = get_or_append_left cells (cell ∷ []) no_cell place (omega (arith, l, holds.counted))

      last : (place : ℕ) → length names ≤ place → place < length (names ++ name ∷ []) → (nth_cell (cells ++ cell ∷ []) place ≡ cell) × (nth_name (names ++ name ∷ []) place ≡ name)
      last place l m =
          let is : length names ≡ place = omega (arith, l, m, length_push names name) in
          (get_or_push cells cell no_cell place (holds.counted ∙ is), get_or_push names name [] place is)

      by_shows : (place : ℕ) → ((place < length names) ⊎ (length names ≤ place)) → place < length (names ++ name ∷ [])
          → Shows (nth_cell (cells ++ cell ∷ []) place) (values_with (nth_name (names ++ name ∷ []) place) es)
      by_shows place (inl l) m = rw (before place l, get_or_append_left names (name ∷ []) [] place l) (holds.shows place l)
      by_shows place (inr l) m = rw ((last place l m).0, (last place l m).1, values_with-none name names es new all_known) empty

      by_idle : (place : ℕ) → ((place < length names) ⊎ (length names ≤ place)) → place < length (names ++ name ∷ [])
          → Contains used place ⊎ Shows (nth_cell (cells ++ cell ∷ []) place) []
      by_idle place (inl l) m = rw (before place l) (holds.idle place l)
      by_idle place (inr l) m = inr (rw ((last place l m).0) empty)

  -- a name is learned: it has its place, or gets the next one with an empty cell
  pub Holds-learn_new : (name : List ℕ) (cell : Cell) (learned : List (List ℕ)) (place : ℕ) → Interns names name learned place → place ≡ length cells → Shows cell []
      → HoldsIn learned (cells ++ cell ∷ []) used es
  Holds-learn_new name cell learned place h is empty = by h.adds
    where
      by : Adds names name learned → HoldsIn learned (cells ++ cell ∷ []) used es
      by (inl there) = absurd (omega (arith, is, holds.counted, slice_get_within names place name (ap (λ (ns : List (List ℕ)). slice_get ns place) (sym there.1) ∙ h.number)))
      by (inr new) = subst (λ ns. HoldsIn ns (cells ++ cell ∷ []) used es) (sym new.1) (Holds-new name cell new.0 empty)

  pub Holds-learn_known : (name : List ℕ) (learned : List (List ℕ)) (place : ℕ) → Interns names name learned place → (place ≡ length cells → ⊥) → HoldsIn learned cells used es
  Holds-learn_known name learned place h other = by h.adds
    where
      by : Adds names name learned → HoldsIn learned cells used es
      by (inl there) = subst (λ ns. HoldsIn ns cells used es) (sym there.1) holds
      by (inr new) =
          let at : slice_get (names ++ name ∷ []) place ≡ Some name = ap (λ (ns : List (List ℕ)). slice_get ns place) (sym new.1) ∙ h.number in
          let last : place ≡ length names =
          AreApart-push names name holds.apart new.0 place (length names) []
          (slice_get_within (names ++ name ∷ []) place name at) (omega (arith, length_push names name))
          (get_or_from_slice_get (names ++ name ∷ []) place name [] at ∙ sym (get_or_push names name [] (length names) refl)) in
          absurd (other (last ∙ sym holds.counted))

  -- ---- one entry more
  module _ (place : ℕ) (e : Entry) (at : slice_get names place ≡ Some e.attr.name) where
    here : place < length names
    here = slice_get_within names place e.attr.name at

    named : nth_name names place ≡ e.attr.name
    named = get_or_from_slice_get names place e.attr.name [] at

    old_shows : Shows (nth_cell cells place) (values_with e.attr.name es)
    old_shows = subst (λ (name : List ℕ). Shows (nth_cell cells place) (values_with name es)) named (holds.shows place here)

    -- a cell that is read at the place, and takes the entry's value
    pub Shows-added : (read new : Cell) → read ≡ get_or cells place read → ((vs : List Variant) → Shows read vs → Shows new (vs ++ e.value ∷ []))
        → Shows new (values_with e.attr.name es ++ e.value ∷ [])
    Shows-added read new is pushed =
        let old : read ≡ nth_cell cells place = get_or_read cells place read (omega (arith, here, holds.counted)) is no_cell in
        pushed (values_with e.attr.name es) (subst (λ c. Shows c (values_with e.attr.name es)) (sym old) old_shows)

  module _ (place : ℕ) (e : Entry) (cell : Cell) (at : slice_get names place ≡ Some e.attr.name) (shows : Shows cell (values_with e.attr.name es ++ e.value ∷ [])) where
    other_cell : (p : ℕ) → (p ≡ place → ⊥) → nth_cell (set cells place cell) p ≡ nth_cell cells p
    other_cell p apart = get_or-set_other cells place p cell no_cell apart

    this_cell : (p : ℕ) → p ≡ place → nth_cell (set cells place cell) p ≡ cell
    this_cell p is = subst (λ (q : ℕ). nth_cell (set cells place cell) q ≡ cell) (sym is) (get_or-set_same cells place cell no_cell (omega (arith, here place e at, holds.counted)))

    shows_new : (p : ℕ) → p < length names → Shows (nth_cell (set cells place cell) p) (values_with (nth_name names p) (es ++ e ∷ []))
    shows_new p l =
        elim (cases_eq p place) [
          | inl is ↦ rw (this_cell p is, ap (nth_name names) is ∙ named place e at, values_with-push_same es e) shows
          | inr apart ↦ rw (other_cell p apart, values_with-push_other (nth_name names p) es e (is_same-other e.attr.name (nth_name names p) (λ same. apart (holds.apart p place [] l (here place e at) (sym same ∙ sym (named place e at)))))) (holds.shows p l)
        ]

    map-push : map name_of (es ++ e ∷ []) ≡ map name_of es ++ e.attr.name ∷ []
    map-push = map-append name_of es (e ∷ [])

    pub Holds-first : is_nothing (nth_cell cells place).content ≡ true → HoldsIn names (set cells place cell) (used ++ place ∷ []) (es ++ e ∷ [])
    Holds-first nothing = record {
      counted = length-set cells place cell ∙ holds.counted;
      apart = holds.apart;
      shows = shows_new;
      used_names =
          map-append (nth_name names) used (place ∷ [])
          ∙ (λ i. holds.used_names i ++ named place e at i ∷ [])
          ∙ sym (cond-false _ _ _ (seen_values e.attr.name es (Shows-nothing (nth_cell cells place) (values_with e.attr.name es) (old_shows place e at) nothing)))
          ∙ sym (first_seen-push (map name_of es) e.attr.name)
          ∙ ap first_seen (sym map-push);
      within = All-push (λ p. p < length names) used place holds.within (here place e at);
      idle = λ p l. elim (cases_eq p place) [
        | inl is ↦ inl (subst (Contains (used ++ place ∷ [])) (sym is) (Contains-push used place))
        | inr apart ↦ elim (holds.idle p l) [
          | inl there ↦ inl (Contains-append_left used (place ∷ []) p there)
          | inr empty ↦ inr (rw (other_cell p apart) empty)
        ]
      ];
    }

    pub Holds-next : is_nothing (nth_cell cells place).content ≡ false → HoldsIn names (set cells place cell) used (es ++ e ∷ [])
    Holds-next something = record {
      counted = length-set cells place cell ∙ holds.counted;
      apart = holds.apart;
      shows = shows_new;
      used_names = holds.used_names
          ∙ sym (cond-true _ _ _ (some (values_with e.attr.name es) refl))
          ∙ sym (first_seen-push (map name_of es) e.attr.name)
          ∙ ap first_seen (sym map-push);
      within = holds.within;
      idle = λ p l. elim (cases_eq p place) [
        | inl is ↦ elim (holds.idle p l) [
          | inl there ↦ inl there
          | inr empty ↦ absurd (never (subst (λ (q : ℕ). Shows (nth_cell cells q) []) is empty))
        ]
        | inr apart ↦ elim (holds.idle p l) [
          | inl there ↦ inl there
          | inr empty ↦ inr (rw (other_cell p apart) empty)
        ]
      ];
    }
      where
        never : Shows (nth_cell cells place) [] → ⊥
        never empty = let told : true ≡ false = sym (ap is_nothing empty.content) ∙ something in cc

        some : (vs : List Variant) → values_with e.attr.name es ≡ vs → list_any (is_same e.attr.name) (map name_of es) ≡ true
        some [] is = absurd (never (subst (Shows (nth_cell cells place)) is (old_shows place e at)))
        some (v ∷ vs) is = seen_some e.attr.name es v vs is

    pub Holds-added : (b : Bool) → is_nothing (nth_cell cells place).content ≡ b → HoldsIn names (set cells place cell) (with_use b used place) (es ++ e ∷ [])
    Holds-added true nothing = Holds-first nothing
    Holds-added false something = Holds-next something

-- ---- no entry

-- the places that were used are cleared
pub Holds-cleared : (names : List (List ℕ)) (cells new : List Cell) (used : List ℕ) (es : List Entry) → HoldsIn names cells used es → length new ≡ length cells
    → AreCleared cells new used → HoldsIn names new [] []
Holds-cleared names cells new used es holds counted cleared = record {
  counted = counted ∙ holds.counted;
  apart = holds.apart;
  shows = empty;
  used_names = refl;
  within = All-nil (λ place. place < length names);
  idle = λ place l. inr (empty place l);
}
  where
    empty : (place : ℕ) → place < length names → Shows (nth_cell new place) []
    empty place l =
        let here = cleared place (omega (arith, l, holds.counted)) in
        elim (holds.idle place l) [ inl there ↦ here.cleared there | inr is ↦ here.stays is ]

-- ---- cleared cells

pub AreCleared-none : (cells : List Cell) → AreCleared cells cells []
AreCleared-none cells place l = record {
  cleared = λ there. absurd (omega (arith, there.1));
  stays = λ is. is;
}

-- in two steps
pub AreCleared-append : (old then new : List Cell) (used more : List ℕ) → length then ≡ length old → AreCleared old then used → AreCleared then new more → AreCleared old new (used ++ more)
AreCleared-append old then new used more counted before after place l =
    let first = before place l in
    let next = after place (omega (arith, l, counted)) in
    record {
      cleared = λ there. elim (Contains-append_cases used more place there) [
        | inl was ↦ next.stays (first.cleared was)
        | inr is ↦ next.cleared is
      ];
      stays = λ was. next.stays (first.stays was);
    }

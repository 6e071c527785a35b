-- Entries of a context that are added to the cells of a row.
use Rattle.std.proofs.Common.{◌≡◌, ℕ, ◌+◌, ◌<◌, ◌≤◌, List, [], ◌∷◌, ◌++◌, ◌⊎◌, inl, inr, Option, None, Some, IfSome, IfNone, length, get_or, slice_get, refl, sym, ap, ◌∙◌, subst, append_assoc, append-nil, arith, Contains}
use Rattle.std.proofs.lemmas.Bool.{cases_lt}
use Rattle.std.proofs.lemmas.List.{get_or_append_left, get_or_push, map-append}
use Rattle.std.proofs.lemmas.List.Elements.{filter-append}
use Rattle.cal_value.specs.declared.attribute.Entry.{Entry}
use Rattle.cal_value.specs.declared.variant.Variant.{Variant}
use Rattle.cal_context.specs.Tree.{Tree, attribute_at}
use Rattle.cal_context.specs.declared.numbers.AttributeNumber.{AttributeNumber}
use Rattle.cal_rowset.specs.Cells.{values}
use Rattle.cal_rowset.specs.Filling.{HoldsSome, Shows, names}
use Rattle.cal_rowset.specs.Hierarchy.{is_of_hierarchy}
use Rattle.cal_rowset.specs.Known.{is_known, known_entries}
use Rattle.cal_rowset.specs.Rooms.{AddsEntries, AddsPath, IsAlike, KnowsAttributes, IsNamedAt, nested}
use Rattle.cal_rowset.specs.Showing.{IsFor}
use Rattle.cal_rowset.specs.Trails.{IsTrail}
use Rattle.cal_rowset.specs.declared.cell.Cell.{Cell}
use Rattle.cal_rowset.specs.declared.cells.Cells.{Cells}
use Rattle.cal_rowset.specs.declared.rowset.Column.{Column}
use Rattle.cal_rowset.specs.declared.shown_row.ShownRow.{ShownRow}

-- where a look-up finds a name, or that it finds none
pub stands : (names : List (List ℕ)) (name : List ℕ) (place : Option ℕ) → IfSome place (λ p. slice_get names p ≡ Some name) → IfNone place (¬ Contains names name) → IsNamedAt names name place
stands names name None found unknown = unknown
stands names name (Some p) found unknown = found

-- one attribute more
pub stands-push : (t : Tree) (names : List (List ℕ)) (places : List (Option ℕ)) (place : Option ℕ) (number : ℕ) → length places ≡ number
    → ((n : AttributeNumber) → n.0 < number → IsNamedAt names (attribute_at t n).name (get_or places n.0 None)) → IsNamedAt names (attribute_at t (record { 0 = number })).name place
    → (n : AttributeNumber) → n.0 < number + 1 → IsNamedAt names (attribute_at t n).name (get_or (places ++ place ∷ []) n.0 None)
stands-push t names places place number counted before here n l = by (cases_lt n.0 number)
  where
    by : ((n.0 < number) ⊎ (number ≤ n.0)) → IsNamedAt names (attribute_at t n).name (get_or (places ++ place ∷ []) n.0 None)
    by (inl less) = rw (get_or_append_left places (place ∷ []) None n.0 (omega (arith, less, counted))) (before n less)
    by (inr past) =
        let is : number ≡ n.0 = omega (arith, l, past) in
        rw (get_or_push places place None n.0 (counted ∙ is)) (subst (λ (m : ℕ). IsNamedAt names (attribute_at t (record { 0 = m })).name place) is here)

-- the same columns, and the same attributes
pub IsAlike-same : (s : ShownRow) → IsAlike s s
IsAlike-same s = record { names = refl; places = refl; attributes = refl; shows_path = refl }

pub IsAlike-then : (a b c : ShownRow) → IsAlike a b → IsAlike b c → IsAlike a c
IsAlike-then a b c first then = record {
  names = then.names ∙ first.names;
  places = then.places ∙ first.places;
  attributes = then.attributes ∙ first.attributes;
  shows_path = then.shows_path ∙ first.shows_path;
}

pub IsFor-alike : (old new : ShownRow) (columns : List Column) → IsAlike old new → HoldsSome new.cells → IsFor old columns → IsFor new columns
IsFor-alike old new columns alike holds is = record {
  holds = holds;
  counted = ap length alike.places ∙ is.counted;
  places = λ k l. rw (alike.names, alike.places) (is.places k l);
  path = rw alike.places (alike.shows_path ∙ is.path);
}

-- nothing is added
pub AddsEntries-none : (t : Tree) (s : ShownRow) → AddsEntries t s s [] []
AddsEntries-none t s = record {
  alike = IsAlike-same s;
  node = refl;
  depth = refl;
  cells = λ knows before trail. rw (append-nil before) trail;
  hierarchy = λ shown before shows. rw (append-nil before) shows;
}

-- the room for links doesn't count
pub AddsEntries-room : (t : Tree) (s other new : ShownRow) (entries nested : List Entry) → other.cells ≡ s.cells → other.hierarchy ≡ s.hierarchy → other.places.items ≡ s.places.items → other.attributes.items ≡ s.attributes.items → other.shows_path ≡ s.shows_path → other.node ≡ s.node → other.depth ≡ s.depth
    → AddsEntries t other new entries nested → AddsEntries t s new entries nested
AddsEntries-room t s other new entries nested cells hierarchy places attributes shows_path node depth adds = record {
  node = adds.node ∙ node;
  depth = adds.depth ∙ depth;
  alike = record {
    names = adds.alike.names ∙ ap names cells;
    places = adds.alike.places ∙ places;
    attributes = adds.alike.attributes ∙ attributes;
    shows_path = adds.alike.shows_path ∙ shows_path;
  };
  cells = λ knows before trail.
      let known : KnowsAttributes t other = rw (cells, attributes) knows in
      subst (λ (c : Cells). IsTrail new.cells (before ++ known_entries (names c) entries)) cells
      (adds.cells known before (subst (λ (c : Cells). IsTrail c before) (sym cells) trail));
  hierarchy = λ shown before shows. adds.hierarchy (shows_path ∙ shown) before (subst (λ (c : Cell). Shows c before) (sym hierarchy) shows);
}

-- some entries, and then some more
pub AddsEntries-more : (t : Tree) (a b c : ShownRow) (xs us ys vs : List Entry) → AddsEntries t a b xs us → AddsEntries t b c ys vs → AddsEntries t a c (xs ++ ys) (us ++ vs)
AddsEntries-more t a b c xs us ys vs first then =
    let ns = names a.cells in
    record {
      alike = IsAlike-then a b c first.alike then.alike;
      node = then.node ∙ first.node;
      depth = then.depth ∙ first.depth;
      cells = λ knows before trail.
          let now : KnowsAttributes t b = rw (first.alike.names, first.alike.attributes) knows in
          let last = then.cells now _ (first.cells knows before trail) in
          let same : (before ++ known_entries ns xs) ++ known_entries (names b.cells) ys ≡ before ++ known_entries ns (xs ++ ys) =
          ap (λ (n : List (List ℕ)). (before ++ known_entries ns xs) ++ known_entries n ys) first.alike.names
          ∙ append_assoc before (known_entries ns xs) (known_entries ns ys)
          ∙ ap (λ (es : List Entry). before ++ es) (sym (filter-append (λ (e : Entry). is_known ns e.attr.name) xs ys)) in
          subst (λ (es : List Entry). IsTrail c.cells es) same last;
      hierarchy = λ shown before shows.
          let last = then.hierarchy (first.alike.shows_path ∙ shown) _ (first.hierarchy shown before shows) in
          let same : (before ++ values us) ++ values vs ≡ before ++ values (us ++ vs) =
          append_assoc before (values us) (values vs) ∙ ap (λ (ws : List Variant). before ++ ws) (sym (map-append (λ (e : Entry). e.value) us vs)) in
          subst (λ (ws : List Variant). Shows c.hierarchy ws) same last;
    }

-- a path, and then some more of it
pub AddsPath-more : (t : Tree) (a b c : ShownRow) (xs ys zs : List Entry) → AddsPath t a b xs → AddsPath t b c ys → xs ++ ys ≡ zs → AddsPath t a c zs
AddsPath-more t a b c xs ys zs first then is =
    subst (λ (es : List Entry). AddsPath t a c es) is
    (subst (λ (es : List Entry). AddsEntries t a c (xs ++ ys) es) (sym (filter-append (λ (e : Entry). is_of_hierarchy e.attr) xs ys))
    (AddsEntries-more t a b c xs (nested xs) ys (nested ys) first then))

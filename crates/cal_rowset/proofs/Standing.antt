-- Cells of a row that stand in a context, from one snapshot to the next.
use Rattle.std.proofs.Common.{◌≡◌, ℕ, ◌<◌, true, false, List, [], ◌++◌, length, map, take, sym, ap, ◌∙◌, subst, append_assoc, append-nil, arith}
use Rattle.std.specs.Prelude.{slice_index_or}
use Rattle.std.proofs.Math.Seq.{take-append_seam}
use Rattle.std.proofs.lemmas.List.{map-append}
use Rattle.std.proofs.lemmas.List.Elements.{filter-append}
use Rattle.cal_value.specs.Flat.{flat}
use Rattle.cal_value.specs.declared.attribute.Entry.{Entry}
use Rattle.cal_value.specs.declared.record.Rec.{Rec}
use Rattle.cal_context.specs.Tree.{Tree, IsContext, path_at}
use Rattle.cal_context.specs.declared.numbers.Link.{Link}
use Rattle.cal_context.specs.declared.numbers.NodeNumber.{NodeNumber}
use Rattle.cal_context.proofs.CallerLemmas.{root_path, root_within}
use Rattle.cal_rowset.specs.Cells.{values}
use Rattle.cal_rowset.specs.Filling.{Shows, names}
use Rattle.cal_rowset.specs.Hierarchy.{hierarchy, is_of_hierarchy}
use Rattle.cal_rowset.specs.Known.{is_known, known_entries}
use Rattle.cal_rowset.specs.Links.{link_entry}
use Rattle.cal_rowset.specs.Rooms.{AddsEntries, AddsPath, GoesTo, IsAlike, KnowsAttributes, nested}
use Rattle.cal_rowset.specs.Showing.{IsFor, ShowsRow}
use Rattle.cal_rowset.specs.Standing.{IsFilled, IsFilledWith, StandsAt, StandsIn, taken}
use Rattle.cal_rowset.specs.Trails.{IsTrail}
use Rattle.cal_rowset.specs.declared.rowset.Column.{Column}
use Rattle.cal_rowset.specs.declared.shown_row.ShownRow.{ShownRow}
use Rattle.cal_rowset.proofs.Placing.{row_shows}
use Rattle.cal_rowset.proofs.Rooms.{IsFor-alike}
use Rattle.cal_rowset.proofs.Trails.{GoesBack-holds}

-- what the cells take is the same where they have the same names and stand at the same node
taken-alike : (a b : ShownRow) (es : List Entry) → names b.cells ≡ names a.cells → taken a es ≡ taken b es
taken-alike a b es named = ap (λ (ns : List (List ℕ)). known_entries ns es) (sym named)

taken_path-alike : (t : Tree) (a b : ShownRow) → names b.cells ≡ names a.cells → b.node ≡ a.node → taken a (path_at t a.node) ≡ taken b (path_at t b.node)
taken_path-alike t a b named node = taken-alike a b (path_at t a.node) named ∙ ap (λ (n : NodeNumber). taken b (path_at t n)) (sym node)

-- the path of the root
pub path_at-root : (t : Tree) → IsContext t → (n : NodeNumber) → n.0 ≡ 0 → path_at t n ≡ []
path_at-root t is n root = ap (λ (k : ℕ). slice_index_or t.paths k []) root ∙ root_path is

-- cells that have gone on to another node
pub filled-go : (t : Tree) (s up down : ShownRow) (met to : NodeNumber) (links : List Link) (depth : ℕ) → IsContext t → StandsAt t s
    → names up.cells ≡ names s.cells → up.attributes.items ≡ s.attributes.items → up.shows_path ≡ s.shows_path → up.hierarchy ≡ s.hierarchy
    → GoesTo t s.cells s.node up.cells met → (s.node.0 ≡ 0 → met.0 ≡ 0) → path_at t to ≡ path_at t met ++ map (link_entry t) links
    → AddsPath t up down (map (link_entry t) links) → to.0 < length t.paths → ((entries : List Entry) → IsTrail down.cells entries → depth ≡ length entries)
    → IsFilledWith t (record { cells = down.cells; hierarchy = down.hierarchy; places = down.places; shows_path = down.shows_path; attributes = down.attributes; node = to; depth = depth; links = down.links }) (path_at t to)
filled-go t s up down met to links depth is at named known shown shows goes root leads adds within counted = record {
  stands = record {
    knows = rw (all_named, adds.alike.attributes, known) at.knows;
    within = within;
    more = [];
    trail = subst (IsTrail down.cells) (sym (append-nil (taken down (path_at t to)))) has;
    depth = counted _ has;
  };
  trail = has;
  hierarchy = λ is_shown.
      let asked = sym adds.alike.shows_path ∙ is_shown in
      let empty = path_at-root t is met (root (at.root (sym shown ∙ asked))) in
      let all : path_at t to ≡ xs = leads ∙ ap (λ (path : List Entry). path ++ xs) empty in
      subst (λ (path : List Entry). Shows down.hierarchy (values (nested path))) (sym all)
      (adds.hierarchy asked [] (rw shows at.hierarchy));
}
  where
    xs : List Entry
    xs = map (link_entry t) links

    all_named : names down.cells ≡ names s.cells
    all_named = adds.alike.names ∙ named

    same : taken s (path_at t met) ++ taken up xs ≡ taken down (path_at t to)
    same =
        ap (λ (ns : List (List ℕ)). taken s (path_at t met) ++ known_entries ns xs) named
        ∙ sym (filter-append (λ (e : Entry). is_known (names s.cells) e.attr.name) (path_at t met) xs)
        ∙ ap (known_entries (names s.cells)) (sym leads)
        ∙ ap (λ (ns : List (List ℕ)). known_entries ns (path_at t to)) (sym all_named)

    knows_up : KnowsAttributes t up
    knows_up = rw (named, known) at.knows

    has : IsTrail down.cells (taken down (path_at t to))
    has = subst (IsTrail down.cells) same (adds.cells knows_up _ (goes at.trail))

-- filled cells with further entries
pub filled-more : (t : Tree) (a b : ShownRow) (xs us ys vs : List Entry) → IsFilled t a xs us → AddsEntries t a b ys vs → IsFilled t b (xs ++ ys) (us ++ vs)
filled-more t a b xs us ys vs filled adds = record {
  stands = record {
    knows = rw (adds.alike.names, adds.alike.attributes) filled.stands.knows;
    within = rw adds.node filled.stands.within;
    more = filled.stands.more ++ taken a ys;
    trail = subst (λ (es : List Entry). IsTrail b.cells (es ++ (filled.stands.more ++ taken a ys))) same stands_more;
    depth = adds.depth ∙ filled.stands.depth ∙ ap length same;
  };
  trail = subst (IsTrail b.cells) both (adds.cells filled.stands.knows _ filled.trail);
  hierarchy = λ shown.
      let asked = sym adds.alike.shows_path ∙ shown in
      subst (Shows b.hierarchy) (sym (map-append (λ (e : Entry). e.value) us vs)) (adds.hierarchy asked _ (filled.hierarchy asked));
}
  where
    path : List Entry
    path = taken a (path_at t a.node)

    stands_more : IsTrail b.cells (path ++ (filled.stands.more ++ taken a ys))
    stands_more = subst (IsTrail b.cells) (append_assoc path filled.stands.more (taken a ys)) (adds.cells filled.stands.knows _ filled.stands.trail)

    same : path ≡ taken b (path_at t b.node)
    same = taken_path-alike t a b adds.alike.names adds.node

    both : taken a xs ++ taken a ys ≡ taken b (xs ++ ys)
    both = sym (filter-append (λ (e : Entry). is_known (names a.cells) e.attr.name) xs ys) ∙ taken-alike a b (xs ++ ys) adds.alike.names

-- filled cells show a row
pub filled-shows : (t : Tree) (old new : ShownRow) (columns : List Column) (row : Rec) → IsFilled t new (flat row) (hierarchy row) → IsAlike old new → IsFor old columns → ShowsRow new columns row
filled-shows t old new columns row filled alike is =
    let holds = GoesBack-holds _ _ _ filled.trail in
    row_shows new columns row (IsFor-alike old new columns alike (_, holds) is) filled.hierarchy holds

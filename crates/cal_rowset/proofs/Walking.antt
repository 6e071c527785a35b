-- Links that are noted from a node up, and cells that are led up.
use Rattle.std.proofs.Common.{◌≡◌, ℕ, ◌<◌, List, [], ◌∷◌, ◌++◌, Option, None, Some, MatchOption, is_some, true, false, get_or, length, map, reverse, refl, sym, ap, ◌∙◌, subst, append_assoc, append-nil}
use Rattle.std.specs.Prelude.{slice_index_or}
use Rattle.std.proofs.lemmas.List.{reverse-append}
use Rattle.std.proofs.lemmas.List.Elements.{filter-append}
use Rattle.cal_value.specs.declared.attribute.Entry.{Entry}
use Rattle.cal_context.specs.Tree.{Tree, attribute_at, path_at}
use Rattle.cal_context.specs.declared.numbers.Link.{Link}
use Rattle.cal_context.specs.declared.numbers.NodeNumber.{NodeNumber}
use Rattle.cal_rowset.specs.Known.{is_known, known_entries}
use Rattle.cal_rowset.specs.Links.{link_entry}
use Rattle.cal_rowset.specs.Rooms.{IsNamedAt, KnowsEach}
use Rattle.cal_rowset.proofs.Knowing.{known_at, unknown_none}

-- one link more
pub noted-down : (t : Tree) (to below parent : NodeNumber) (links new : List Link) (link : Link) → path_at t to ≡ path_at t below ++ map (link_entry t) (reverse links)
    → path_at t below ≡ path_at t parent ++ link_entry t link ∷ [] → new ≡ links ++ link ∷ [] → path_at t to ≡ path_at t parent ++ map (link_entry t) (reverse new)
noted-down t to below parent links new link down hangs is =
    down ∙ ap (λ (front : List Entry). front ++ map (link_entry t) (reverse links)) hangs
    ∙ append_assoc (path_at t parent) (link_entry t link ∷ []) (map (link_entry t) (reverse links))
    ∙ ap (λ (all : List Link). path_at t parent ++ map (link_entry t) all) (sym (ap reverse is ∙ reverse-append links (link ∷ [])))

-- the way down from where the ways meet
pub met-down : (t : Tree) (to below node : NodeNumber) (links new : List Link) → path_at t to ≡ path_at t below ++ map (link_entry t) (reverse links) → node.0 ≡ below.0 → new ≡ reverse links
    → path_at t to ≡ path_at t node ++ map (link_entry t) new
met-down t to below node links new down met is =
    down ∙ ap (λ (k : ℕ). slice_index_or t.paths k [] ++ map (link_entry t) (reverse links)) (sym met) ∙ ap (λ (all : List Link). path_at t node ++ map (link_entry t) all) (sym is)

-- the entry of a link, given up
pub given_up : (t : Tree) (names : List (List ℕ)) (places : List (Option ℕ)) (link : Link) (path : List Entry) → KnowsEach t names places → link.attribute.0 < length t.attributes
    → MatchOption (get_or places link.attribute.0 None) (known_entries names (path ++ link_entry t link ∷ []) ≡ known_entries names path)
    (λ p. known_entries names (path ++ link_entry t link ∷ []) ≡ known_entries names path ++ link_entry t link ∷ [])
given_up t names places link path knows within = by (get_or places link.attribute.0 None) refl
  where
    name : List ℕ
    name = (attribute_at t link.attribute).name

    split : known_entries names (path ++ link_entry t link ∷ []) ≡ known_entries names path ++ known_entries names (link_entry t link ∷ [])
    split = filter-append (λ (e : Entry). is_known names e.attr.name) path (link_entry t link ∷ [])

    stands : (place : Option ℕ) → get_or places link.attribute.0 None ≡ place → IsNamedAt names name place
    stands place is = subst (IsNamedAt names name) is (knows.known link.attribute within)

    by : (place : Option ℕ) → get_or places link.attribute.0 None ≡ place → MatchOption place (known_entries names (path ++ link_entry t link ∷ []) ≡ known_entries names path)
        (λ p. known_entries names (path ++ link_entry t link ∷ []) ≡ known_entries names path ++ link_entry t link ∷ [])
    by None is = split ∙ rw (unknown_none names name (stands None is)) (append-nil (known_entries names path))
    by (Some p) is = split ∙ rw (known_at names name p (stands (Some p) is)) refl

-- by whether its name has a place
pub given_up-known : (t : Tree) (names : List (List ℕ)) (places : List (Option ℕ)) (link : Link) (path : List Entry) → KnowsEach t names places → link.attribute.0 < length t.attributes
    → (place : Option ℕ) → place ≡ get_or places link.attribute.0 None → is_some place ≡ true → known_entries names (path ++ link_entry t link ∷ []) ≡ known_entries names path ++ link_entry t link ∷ []
given_up-known t names places link path knows within None is some = cc
given_up-known t names places link path knows within (Some p) is some = rw (sym is) at (given_up t names places link path knows within)

pub given_up-unknown : (t : Tree) (names : List (List ℕ)) (places : List (Option ℕ)) (link : Link) (path : List Entry) → KnowsEach t names places → link.attribute.0 < length t.attributes
    → (place : Option ℕ) → place ≡ get_or places link.attribute.0 None → is_some place ≡ false → known_entries names (path ++ link_entry t link ∷ []) ≡ known_entries names path
given_up-unknown t names places link path knows within None is none = rw (sym is) at (given_up t names places link path knows within)
given_up-unknown t names places link path knows within (Some p) is none = cc

-- Each new node has two bytes of the text at least, so 64 bits hold the ids of a text in memory.
use Rattle.std.proofs.Common.{◌≡◌, ◌+◌, ◌*◌, ◌-◌, ◌<◌, ◌≤◌, ℕ, Bool, true, false, ◌&&◌, List, []}
use Rattle.std.proofs.Common.{◌∷◌}
use Rattle.std.proofs.Common.{◌++◌, length, pos, fold, refl, sym, subst, arith, eqb, lit<}
use Rattle.std.proofs.Common.{if◌then◌else◌}
use Rattle.std.specs.Prelude.{◌==◌, Option, codes, filter}
use Rattle.std.specs.List.{AllByRecursion, flat_map, list_any}
use Rattle.std.proofs.lemmas.Bool.{and_parts}
use Rattle.std.proofs.lemmas.Bool.Decides.{Decides-eqb}
use Rattle.std.proofs.lemmas.List.{length-append, length_push}
use Rattle.std.proofs.lemmas.Option.{slice_get-get_or}
use Rattle.cal_value.specs.declared.attribute.Attribute.{Attribute}
use Rattle.cal_value.specs.declared.attribute.Entry.{Entry}
use Rattle.cal_value.specs.declared.record.Rec.{Rec}
use Rattle.cal_value.specs.declared.record.Records.{Records}
use Rattle.cal_value.specs.declared.variant.Variant.TheVariants as value
use Rattle.cal_write.specs.CanonicalText.{canonical_text, ends, globals_text, has_entry}
use Rattle.cal_write.specs.CanonicalText.{line_of_entry, line_of_node, line_of_record, lines_of_new}
use Rattle.cal_write.specs.CanonicalText.{record_text, rows_text}
use Rattle.cal_write.specs.Nodes.{Node, same_node, built_in, name_attribute, prop_attribute}
use Rattle.cal_write.specs.Nodes.{node_of_kind, node_of_props, node_of_attribute}
use Rattle.cal_write.specs.Nodes.{needed_by_attribute, needed_by_props, needed_by_record}
use Rattle.cal_write.specs.Nodes.{needed_below, nodes, with_node, with_record}

-- ---- what is needed has an entry

abbrev IsSomeNode : Node → Type 0
IsSomeNode n = 0 < length n

some-append : (xs ys : List Node) → AllByRecursion IsSomeNode xs → AllByRecursion IsSomeNode ys
    → AllByRecursion IsSomeNode (xs ++ ys)
some-append [] ys are more = more
some-append (x ∷ xs) ys are more = (are.0, some-append xs ys are.1 more)

some-push : (up : Node) (e : Entry) → 0 < length (up ++ e ∷ [])
some-push up e = let longer = length_push up e in omega arith

some-props : (a : Attribute) → AllByRecursion IsSomeNode (needed_by_props a)
some-props a = by (eqb a.props.0 0)
  where
    by : (b : Bool) → AllByRecursion IsSomeNode
        (if b then [] else (if b then node_of_kind a.kind else node_of_kind a.kind
        ++ (record { attr = prop_attribute; value = value.Int (pos a.props.0) }) ∷ []) ∷ [])
    by true = tt
    by false = (lit< tt, tt)

some-attribute : (a : Attribute) → AllByRecursion IsSomeNode (needed_by_attribute a)
some-attribute a = some-append (needed_by_props a) (node_of_attribute a ∷ []) (some-props a) (
  some-push (node_of_props a.props a.kind)
      (record { attr = name_attribute; value = value.Text a.name }),
  tt,
)

some-below : (up path : Node) → AllByRecursion IsSomeNode (needed_below up path)
some-below up [] = tt
some-below up (e ∷ path) =
    some-append (needed_by_attribute e.attr) ((up ++ e ∷ []) ∷ needed_below (up ++ e ∷ []) path)
    (some-attribute e.attr)
    (some-push up e, some-below (up ++ e ∷ []) path)

some-paths : (paths : List Node) → AllByRecursion IsSomeNode (flat_map (needed_below []) paths)
some-paths [] = tt
some-paths (path ∷ paths) = some-append (needed_below [] path) (flat_map (needed_below []) paths)
    (some-below [] path) (some-paths paths)

some-imms : (imms : List Entry)
    → AllByRecursion IsSomeNode (flat_map (λ (e : Entry). needed_by_attribute e.attr) imms)
some-imms [] = tt
some-imms (e ∷ imms) =
    some-append (needed_by_attribute e.attr)
    (flat_map (λ (d : Entry). needed_by_attribute d.attr) imms) (some-attribute e.attr)
    (some-imms imms)

some-record : (r : Rec) → AllByRecursion IsSomeNode (needed_by_record r)
some-record r =
    some-append (flat_map (needed_below []) r.paths)
    (flat_map (λ (e : Entry). needed_by_attribute e.attr) r.imms) (some-paths r.paths)
    (some-imms r.imms)

-- ---- so each new one has a line

line-some : (ns : List Node) (n : Node) → 0 < length n → 1 < length (line_of_node ns n)
line-some ns [] some = absurd (omega arith)
line-some ns (e ∷ up) some =
    let at = slice_get-get_or (e ∷ up) (length (e ∷ up) - 1) e (omega arith) in
    subst (λ (o : Option Entry). 1 < length (line_of_entry ns (e ∷ up) o)) (sym at) (omega arith)

counted : (ns needed : List Node) → AllByRecursion IsSomeNode needed
    → 2 * length (fold with_node ns needed) ≤ 2 * length ns + length (lines_of_new ns needed)
counted ns [] some = omega arith
counted ns (n ∷ needed) some =
    let line : List ℕ = if list_any (same_node n) ns then [] else line_of_node (ns ++ n ∷ []) n in
    let one = by (list_any (same_node n) ns) in
    let rest = counted (with_node ns n) needed some.1 in
    let joined = length-append line (lines_of_new (with_node ns n) needed) in
    omega arith
  where
    by : (b : Bool) → 2 * length (if b then ns else ns ++ n ∷ [])
        ≤ 2 * length ns + length (if b then [] else line_of_node (ns ++ n ∷ []) n)
    by true = omega arith
    by false =
        let longer = length_push ns n in
        let written = line-some (ns ++ n ∷ []) n some.0 in
        omega arith

counted-record : (ns : List Node) (sort : List ℕ) (r : Rec)
    → 2 * length (with_record ns r) ≤ 2 * length ns + length (record_text sort ns r)
counted-record ns sort r =
    let some = counted ns (needed_by_record r) (some-record r) in
    let joined = length-append (lines_of_new ns (needed_by_record r))
    (line_of_record sort (with_record ns r) r) in
    omega arith

counted-rows : (rows : List Rec) (ns : List Node)
    → 2 * length (fold with_record ns rows) ≤ 2 * length ns + length (rows_text ns rows)
counted-rows [] ns = omega arith
counted-rows (r ∷ rows) ns =
    let one = counted-record ns (codes "ctx") r in
    let rest = counted-rows rows (with_record ns r) in
    let joined = length-append (record_text (codes "ctx") ns r)
    (rows_text (with_record ns r) rows) in
    omega arith

-- globals without an entry need nothing
nothing-needed : (paths : List Node) → length (filter has_entry paths) ≡ 0
    → flat_map (needed_below []) paths ≡ []
nothing-needed [] none = refl
nothing-needed ([] ∷ paths) none = nothing-needed paths none
nothing-needed ((e ∷ path) ∷ paths) none = absurd (omega arith)

nothing-described : (imms : List Entry) → length imms ≡ 0
    → flat_map (λ (e : Entry). needed_by_attribute e.attr) imms ≡ []
nothing-described [] none = refl
nothing-described (e ∷ imms) none = absurd (omega arith)

counted-globals : (ns : List Node) (g : Rec)
    → 2 * length (with_record ns g) ≤ 2 * length ns + length (globals_text ns g)
counted-globals ns g = by ((length (ends g) == 0) && (length g.imms == 0)) refl
  where
    text : Bool → List ℕ
    text b = if b then [] else record_text (codes "globals") ns g

    by : (b : Bool) → ((length (ends g) == 0) && (length g.imms == 0)) ≡ b
        → 2 * length (with_record ns g) ≤ 2 * length ns + length (globals_text ns g)
    by true none =
        let parts = and_parts (length (ends g) == 0) (length g.imms == 0) none in
        let no_paths = nothing-needed g.paths ((Decides-eqb (length (ends g)) 0).0 parts.0) in
        let no_imms = nothing-described g.imms ((Decides-eqb (length g.imms) 0).0 parts.1) in
        let same : length (with_record ns g)
        ≡ length ns = λ j. length (fold with_node ns (no_paths j ++ no_imms j)) in
        omega arith
    by false some = subst
        (λ (b : Bool). 2 * length (with_record ns g) ≤ 2 * length ns + length (text b))
        (sym some) (counted-record ns (codes "globals") g)

pub counted-nodes : (rs : Records)
    → 2 * length (with_record (nodes rs.rows) rs.globals) ≤ 24 + length (canonical_text rs)
unfolding built_in
counted-nodes rs =
    let rows = counted-rows rs.rows built_in in
    let globals = counted-globals (nodes rs.rows) rs.globals in
    let joined = length-append (rows_text built_in rs.rows)
    (globals_text (nodes rs.rows) rs.globals) in
    omega arith

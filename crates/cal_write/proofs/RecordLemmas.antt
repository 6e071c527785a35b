use Rattle.std.proofs.Common.{◌≡◌, ◌==◌, ℕ, ◌+◌, ◌<◌, Bool, true, false, ◌&&◌, List, [], ◌∷◌, ◌++◌, length, get_or, take, map, filter, option_to_list, Option, refl, sym, ap, ◌∙◌, subst, arith, fold, if◌then◌else◌}
use Rattle.std.specs.Prelude.{codes}
use Rattle.std.specs.List.{All, flat_map}
use Rattle.std.proofs.lemmas.Simd.{map-map}
use Rattle.std.proofs.lemmas.Bool.Decides.{nat_tests}
use Rattle.std.proofs.lemmas.List.{append_assoc, append-nil, map_more, map-append, length-map}
use Rattle.std.proofs.lemmas.List.Concat.{flat_map-append}
use Rattle.std.proofs.lemmas.List.Elements.{filter-append}
use Rattle.std.proofs.lemmas.Option.{get_or_from_slice_get, slice_get_within}
use Rattle.cal_context.proofs.CallerLemmas.{one_node}
use Rattle.std.proofs.lemmas.List.Sums.{fold-append}
use Rattle.cal_value.specs.declared.attribute.Entry.{Entry}
use Rattle.cal_value.specs.declared.record.Rec.{Rec}
use Rattle.cal_context.specs.Lists.{IsFront}
use Rattle.cal_context.specs.Snapshots.{IsBelowRoot, IsIn, entry_of, meaning}
use Rattle.cal_context.specs.Tree.{Tree, IsContext, attribute_at, path_at}
use Rattle.cal_context.specs.declared.numbers.NodeNumber.{NodeNumber}
use Rattle.cal_context.specs.declared.snapshot.Immediate.{Immediate}
use Rattle.cal_context.specs.declared.snapshot.Snapshot.{Snapshot}
use Rattle.cal_write.specs.Nodes.{Node, with_node, with_record, node_of_attribute, needed_by_attribute, needed_below, needed_by_record, built_in, nodes}
use Rattle.cal_write.specs.Lines.{record_line}
use Rattle.cal_write.specs.CanonicalText.{id_in, has_entry, ends, lines_of_new, line_of_record, record_text, rows_text}
use Rattle.cal_write.specs.Kept.{AreAt, IsKept, NeedsAttribute, NeedsNode}
use Rattle.cal_write.specs.Places.{HasAll, IsAt, IsParent}
use Rattle.cal_write.specs.SnapshotNeeds.{NeedsNodes, NeedsImmediates, needed_by_paths, needed_by_entries}
use Rattle.cal_write.specs.Writer.{WritesRecord, with_text_of, HasTaken, EndsWith}
use Rattle.cal_write.specs.Written.{Written, after, with_line, written}
use Rattle.cal_write.specs.declared.node_writer.NodeWriter.{NodeWriter}
use Rattle.cal_write.specs.declared.writer.Writer.{Writer}
use Rattle.cal_write.proofs.AfterLemmas.{after-append, after-known}
use Rattle.cal_write.proofs.PlaceLemmas.{fold-front, HasAll-grown, HasAll-append, id_in-grown}

-- ---- ids of many nodes

ids-grown : (old new : List Node) → IsFront old new → (ns : List Node) → HasAll old ns → map (id_in old) ns ≡ map (id_in new) ns
ids-grown old new g [] h = refl
ids-grown old new g (n ∷ ns) h =
    let first = sym (id_in-grown old new g n h.0) in
    let rest = ids-grown old new g ns h.1 in
    λ j. first j ∷ rest j

AreAt-grown : (old new : List Node) → IsFront old new → (ns : List Node) (ids : List ℕ) → AreAt old ns ids → AreAt new ns ids
AreAt-grown old new g ns ids at = record { has = HasAll-grown old new g ns at.has; are = at.are ∙ ids-grown old new g ns at.has }

AreAt-append : (all xs ys : List Node) (is js : List ℕ) → AreAt all xs is → AreAt all ys js → AreAt all (xs ++ ys) (is ++ js)
AreAt-append all xs ys is js g h = record {
  has = HasAll-append all xs ys g.has h.has;
  are = (λ j. g.are j ++ h.are j) ∙ sym (map-append (id_in all) xs ys);
}

-- a path is where it leads to, if it has an entry
end-at : (all : List Node) (path : Node) (id : Option ℕ) → IsParent all path id → AreAt all (filter has_entry (path ∷ [])) (option_to_list id)
end-at all [] id at = rw at.is (record { has = tt; are = refl })
end-at all (e ∷ path) id at = rw at.is (record { has = (at.there, tt); are = refl })

-- ---- nodes and immediates, one after another

flat_map-push : {A : Type 0} (f : A → List Node) (xs : List A) (x : A) → flat_map f (xs ++ x ∷ []) ≡ flat_map f xs ++ f x
flat_map-push f xs x = flat_map-append f xs (x ∷ []) ∙ ap (λ l. flat_map f xs ++ l) (append-nil (f x))

pub no-nodes : (t : Tree) (w : NodeWriter) → NeedsNodes t w w [] []
no-nodes t w = record {
  kept = λ s k. subst (IsKept t w) (sym (after-known s [] tt)) k;
  at = λ s k. record { has = tt; are = refl };
}

pub nodes-more : (t : Tree) (old mid new : NodeWriter) (nodes : List NodeNumber) (ids : List ℕ) (i : ℕ) (d : NodeNumber) (id : Option ℕ) → i < length nodes
    → NeedsNodes t old mid (take i nodes) ids → NeedsNode t mid new (get_or nodes i d) id → NeedsNodes t old new (take (i + 1) nodes) (ids ++ option_to_list id)
nodes-more t old mid new nodes ids i d id within first next = record {
  kept = λ s k. subst (IsKept t new) (sym (steps s)) (next.kept (before s) (first.kept s k));
  at = λ s k. subst (λ (v : Written). AreAt v.nodes (filter has_entry (map (path_at t) (take (i + 1) nodes))) (ids ++ option_to_list id)) (sym (steps s))
      (subst (λ ps. AreAt (last s).nodes ps (ids ++ option_to_list id)) (sym filtered)
      (AreAt-append (last s).nodes (filter has_entry paths) (filter has_entry (path_at t n ∷ [])) ids (option_to_list id)
      (AreAt-grown (before s).nodes (last s).nodes (fold-front (before s).nodes (needed_below [] (path_at t n))) (filter has_entry paths) ids (first.at s k))
      (end-at (last s).nodes (path_at t n) id (next.at (before s) (first.kept s k)))));
}
  where
    n : NodeNumber
    n = get_or nodes i d

    paths : List Node
    paths = map (path_at t) (take i nodes)

    more : map (path_at t) (take (i + 1) nodes) ≡ paths ++ path_at t n ∷ []
    more = map_more (path_at t) nodes i d within

    filtered : filter has_entry (map (path_at t) (take (i + 1) nodes))
        ≡ filter has_entry paths ++ filter has_entry (path_at t n ∷ [])
    filtered = ap (filter has_entry) more ∙ filter-append has_entry paths (path_at t n ∷ [])

    before : Written → Written
    before s = after s (needed_by_paths paths)

    last : Written → Written
    last s = after (before s) (needed_below [] (path_at t n))

    steps : (s : Written) → after s (needed_by_paths (map (path_at t) (take (i + 1) nodes))) ≡ last s
    steps s = ap (after s) (ap needed_by_paths more ∙ flat_map-push (needed_below []) paths (path_at t n)) ∙ after-append s (needed_by_paths paths) (needed_below [] (path_at t n))

pub no-immediates : (t : Tree) (w : NodeWriter) → NeedsImmediates t w w [] []
no-immediates t w = record {
  kept = λ s k. subst (IsKept t w) (sym (after-known s [] tt)) k;
  at = λ s k. record { has = tt; are = refl };
}

pub immediates-more : (t : Tree) (old mid new : NodeWriter) (imms : List Immediate) (ids : List ℕ) (i : ℕ) (imm : Immediate) (id : ℕ) → i < length imms → imm ≡ get_or imms i imm
    → NeedsImmediates t old mid (take i imms) ids → NeedsAttribute t mid new imm.attribute id → NeedsImmediates t old new (take (i + 1) imms) (ids ++ id ∷ [])
immediates-more t old mid new imms ids i imm id within is first next = record {
  kept = λ s k. subst (IsKept t new) (sym (steps s)) (next.kept (before s) (first.kept s k));
  at = λ s k. subst (λ (v : Written). AreAt v.nodes (map (λ e. node_of_attribute e.attr) (map (entry_of t) (take (i + 1) imms))) (ids ++ id ∷ [])) (sym (steps s))
      (subst (λ ns. AreAt (last s).nodes ns (ids ++ id ∷ [])) (sym named)
      (AreAt-append (last s).nodes (map (λ e. node_of_attribute e.attr) entries) (node_of_attribute (attribute_at t imm.attribute) ∷ []) ids (id ∷ [])
      (AreAt-grown (before s).nodes (last s).nodes (fold-front (before s).nodes (needed_by_attribute (attribute_at t imm.attribute))) (map (λ e. node_of_attribute e.attr) entries) ids (first.at s k))
      (one s (next.at (before s) (first.kept s k)))));
}
  where
    entries : List Entry
    entries = map (entry_of t) (take i imms)

    more : map (entry_of t) (take (i + 1) imms) ≡ entries ++ entry_of t imm ∷ []
    more = map_more (entry_of t) imms i imm within ∙ ap (λ m. map (entry_of t) (take i imms) ++ entry_of t m ∷ []) (sym is)

    named : map (λ (e : Entry). node_of_attribute e.attr) (map (entry_of t) (take (i + 1) imms))
        ≡ map (λ (e : Entry). node_of_attribute e.attr) entries ++ node_of_attribute (attribute_at t imm.attribute) ∷ []
    named = ap (map (λ (e : Entry). node_of_attribute e.attr)) more ∙ map-append (λ (e : Entry). node_of_attribute e.attr) entries (entry_of t imm ∷ [])

    before : Written → Written
    before s = after s (needed_by_entries entries)

    last : Written → Written
    last s = after (before s) (needed_by_attribute (attribute_at t imm.attribute))

    one : (s : Written) → IsAt (last s).nodes (node_of_attribute (attribute_at t imm.attribute)) id → AreAt (last s).nodes (node_of_attribute (attribute_at t imm.attribute) ∷ []) (id ∷ [])
    one s at = record { has = (at.has, tt); are = ap (λ j. j ∷ []) at.is }

    steps : (s : Written) → after s (needed_by_entries (map (entry_of t) (take (i + 1) imms))) ≡ last s
    steps s =
        ap (after s) (ap needed_by_entries more ∙ flat_map-push (λ (e : Entry). needed_by_attribute e.attr) entries (entry_of t imm))
        ∙ after-append s (needed_by_entries entries) (needed_by_attribute (attribute_at t imm.attribute))

-- ---- a record

-- a line more leaves what is kept
kept-line : (t : Tree) (w : NodeWriter) (s : Written) (line text : List ℕ) → text ≡ w.stream.lines.text ++ line → IsKept t w s
    → IsKept t (record w { stream = record w.stream { lines = record w.stream.lines { text = text } } }) (with_line s line)
kept-line t w s line text is k = record {
  stream = record {
    text = is ∙ ap (λ l. l ++ line) k.stream.text;
    next = k.stream.next;
    front = k.stream.front;
    closed = k.stream.closed;
    described = k.stream.described;
  };
  nodes = k.nodes;
  all = k.all;
  attributes = k.attributes;
}

written_one : (s t : Written) → s.nodes ≡ t.nodes → s.text ≡ t.text → s ≡ t
written_one s t a b = λ j. record { nodes = a j; text = b j }

pub record-written : (t : Tree) (old mid w : NodeWriter) (sort : List ℕ) (snap : Snapshot) (refs columns text : List ℕ)
    → NeedsNodes t old mid snap.nodes.items refs → NeedsImmediates t mid w snap.imms.items columns
    → text ≡ w.stream.lines.text ++ record_line sort refs columns (map (λ i. i.value) snap.imms.items)
    → WritesRecord t old (record w { stream = record w.stream { lines = record w.stream.lines { text = text } } }) sort (meaning t snap)
record-written t old mid w sort snap refs columns text nodes imms is s k =
    subst (IsKept t (record w { stream = record w.stream { lines = record w.stream.lines { text = text } } })) laid
    (kept-line t w s2 line text is (imms.kept s1 (nodes.kept s k)))
  where
    r : Rec
    r = meaning t snap

    s1 : Written
    s1 = after s (needed_by_paths r.paths)

    s2 : Written
    s2 = after s1 (needed_by_entries r.imms)

    line : List ℕ
    line = record_line sort refs columns (map (λ i. i.value) snap.imms.items)

    front : IsFront s1.nodes s2.nodes
    front = fold-front s1.nodes (needed_by_entries r.imms)

    same : s2.nodes ≡ with_record s.nodes r
    same = sym (fold-append with_node s.nodes (needed_by_paths r.paths) (needed_by_entries r.imms))

    lined : line ≡ line_of_record sort (with_record s.nodes r) r
    lined =
        let ids = (AreAt-grown s1.nodes s2.nodes front (ends r) refs (nodes.at s k)).are in
        let attributes = (imms.at s1 (nodes.kept s k)).are ∙ map-map (id_in s2.nodes) (λ (e : Entry). node_of_attribute e.attr) r.imms in
        let values : map (λ (i : Immediate). i.value) snap.imms.items ≡ map (λ (e : Entry). e.value) r.imms = sym (map-map (λ (e : Entry). e.value) (entry_of t) snap.imms.items) in
        (λ j. record_line sort (ids j) (attributes j) (values j)) ∙ ap (λ ns. line_of_record sort ns r) same

    laid : with_line s2 line ≡ with_text_of sort s r
    laid =
        written_one (with_line s2 line) (with_text_of sort s r) same
        (ap (λ v. v.text ++ line) (sym (after-append s (needed_by_paths r.paths) (needed_by_entries r.imms)))
        ∙ append_assoc s.text (lines_of_new s.nodes (needed_by_record r)) line
        ∙ ap (λ l. s.text ++ (lines_of_new s.nodes (needed_by_record r) ++ l)) lined)

-- ---- rows, and globals

pub rows_text-push : (ns : List Node) (rows : List Rec) (r : Rec) → rows_text ns (rows ++ r ∷ []) ≡ rows_text ns rows ++ record_text (codes "ctx") (fold with_record ns rows) r
rows_text-push ns [] r = append-nil (record_text (codes "ctx") ns r)
rows_text-push ns (q ∷ rows) r =
    ap (λ l. record_text (codes "ctx") ns q ++ l) (rows_text-push (with_record ns q) rows r)
    ∙ sym (append_assoc (record_text (codes "ctx") ns q) (rows_text (with_record ns q) rows) (record_text (codes "ctx") (fold with_record (with_record ns q) rows) r))

written-push : (rows : List Rec) (r : Rec) → with_text_of (codes "ctx") (written rows) r ≡ written (rows ++ r ∷ [])
written-push rows r =
    written_one (with_text_of (codes "ctx") (written rows) r) (written (rows ++ r ∷ []))
    (sym (fold-append with_record built_in rows (r ∷ []))) (sym (rows_text-push built_in rows r))

pub row-taken : (t : Tree) (old new : Writer) (r : Rec) (rows : List Rec) → old.refused ≡ false → new.refused ≡ old.refused → WritesRecord t old.nodes new.nodes (codes "ctx") r
    → HasTaken old t rows → HasTaken new t (rows ++ r ∷ [])
row-taken t old new r rows sound same writes had =
    record { sound = same ∙ sound; kept = subst (IsKept t new.nodes) (written-push rows r) (writes (written rows) had.kept) }

-- nodes below the root have paths with entries
below-entry : (t : Tree) → IsContext t → (n : NodeNumber) → IsBelowRoot t n → has_entry (path_at t n) ≡ true
below-entry t context n below = by (path_at t n) refl
  where
    root : NodeNumber
    root = record { 0 = 0 }

    by : (p : Node) → path_at t n ≡ p → has_entry p ≡ true
    by (e ∷ p) same = refl
    by [] same =
        let at : path_at t root ≡ [] = get_or_from_slice_get t.paths 0 [] [] context.root in
        let one : root ≡ n = one_node context root n (slice_get_within t.paths 0 [] context.root) below.within (at ∙ sym same) in
        let zero_number : 0 ≡ n.0 = ap (λ m. m.0) one in
        absurd (omega (arith, below.below, zero_number))

pub ends-length : (t : Tree) → IsContext t → (ns : List NodeNumber) → All (IsBelowRoot t) ns → (length (filter has_entry (map (path_at t) ns)) == 0) ≡ (length ns == 0)
ends-length t context [] below = refl
ends-length t context (n ∷ ns) below =
    let kept = below-entry t context n (below 0 n (omega arith)) in
    rw kept (grind (arith, nat_tests))

pub globals-written : (t : Tree) → IsContext t → (old new : Writer) (snap : Snapshot) → IsIn t snap → ((length snap.nodes.items == 0) && (length snap.imms.items == 0)) ≡ false
    → WritesRecord t old.nodes new.nodes (codes "globals") (meaning t snap) → EndsWith (HasTaken old t) (meaning t snap) new.nodes.stream.lines.text
globals-written t context old new snap in_it some writes rows had =
    let g = meaning t snap in
    let text = (writes (written rows) had.kept).stream.text in
    let none : ((length (ends g) == 0) && (length g.imms == 0)) ≡ false
    = (λ j. ends-length t context snap.nodes.items in_it.nodes j && (length-map snap.imms.items (entry_of t) j == 0)) ∙ some in
    text ∙ ap (λ (b : Bool). rows_text built_in rows ++ (if b then [] else record_text (codes "globals") (nodes rows) g)) (sym none)

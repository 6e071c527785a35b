-- A key means one record, and a record is meant by one key, as a seat knows.
use Rattle.std.proofs.Common.{◌≡◌, ℕ, zero, suc, ◌<◌, false, List, [], ◌∷◌, length, map}
use Rattle.std.proofs.Common.{get_or, refl, sym, ap, subst, ◌∙◌, arith, true≢false, All}
use Rattle.std.specs.Cmp.Lexicographic.{bytes_decides}
use Rattle.std.specs.List.{AllByRecursion, AllZip, IsDistinct}
use Rattle.std.proofs.lemmas.Bool.Decides.{same_from_decides}
use Rattle.std.proofs.lemmas.List.Elements.{All-head, All-tail}
use Rattle.cal_board.specs.PathBoards.{AreKnown, entry_in}
use Rattle.cal_board.specs.declared.opened.Opened.{Opened}
use Rattle.cal_channel.specs.Channels.{IsPathShown, Means}
use Rattle.cal_context.specs.Lists.{AreApart}
use Rattle.cal_context.specs.Tree.{no_attribute}
use Rattle.cal_keys.specs.Groups.{is_group}
use Rattle.cal_hand.specs.Nodes.{node_entry}
use Rattle.cal_once.specs.Seats.{view}
use Rattle.cal_once.specs.declared.seat.RowSeat.{RowSeat}
use Rattle.cal_rowset.specs.Texts.{is_same}
use Rattle.cal_script.specs.Parts.{attribute_names}
use Rattle.cal_script.specs.declared.script.Script.{Script}
use Rattle.cal_snap.specs.Numbered.{IsKnown, entry_of}
use Rattle.cal_snap.specs.declared.numbered.NumberedEntry.{NumberedEntry}
use Rattle.cal_table.specs.declared.key.TableKey.{TableKey}
use Rattle.cal_table_rows.proofs.Keys.{same_key, same_key-decides}
use Rattle.cal_table_rows.specs.Meanings.{NamesAreApart}
use Rattle.cal_tree.proofs.Ways.{one_end, one_path}
use Rattle.cal_tree.specs.Paths as tree_paths
use Rattle.cal_tree.specs.Paths.{HasPath, NodeEntry}
use Rattle.cal_tree.specs.Seats.{IsTreeSeat, plan_of, slots_of}
use Rattle.cal_tree.specs.declared.tree.Tree.{Tree}
use Rattle.cal_value.specs.ExactOrder.{exact_decides}
use Rattle.cal_value.specs.OrderLaws.{group_exact}
use Rattle.cal_value.specs.declared.attribute.Attribute.{Attribute}
use Rattle.cal_value.specs.declared.attribute.Entry.{Entry}
use Rattle.cal_value.specs.declared.record.Rec.{Rec}
use Rattle.cal_value.specs.declared.variant.Variant.{Variant}
use Rattle.cal_words.specs.declared.node.NodeId.{NodeId}
use Rattle.cal_words.specs.declared.sort.NodeSort.{NodeSort}

-- ---- attributes whose names are apart

-- a name stands at none of the places of other names
at_none : (name : List ℕ) (attributes : List Attribute) (i : ℕ) (d : Attribute)
    → AllByRecursion (λ other. is_same name other ≡ false) (attribute_names attributes)
    → i < length attributes → name ≡ (get_or attributes i d).name → ⊥
at_none name [] i d all within is = absurd (omega arith)
at_none name (a ∷ attributes) zero d all within is =
    true≢false (sym ((bytes_decides name a.name).1 is) ∙ all.0)
at_none name (a ∷ attributes) (suc i) d all within is =
    at_none name attributes i d all.1 (omega arith) is

-- no attribute stands at two places
pub places_apart : (attributes : List Attribute) → IsDistinct is_same (attribute_names attributes)
    → AreApart attributes
unfolding IsDistinct
places_apart [] once i j d one other is = absurd (omega arith)
places_apart (a ∷ attributes) once zero zero d one other is = refl
places_apart (a ∷ attributes) once zero (suc j) d one other is = absurd
    (at_none a.name attributes j d once.0 (omega arith) (ap (λ (x : Attribute). x.name) is))
places_apart (a ∷ attributes) once (suc i) zero d one other is = absurd
    (at_none a.name attributes i d once.0 (omega arith) (ap (λ (x : Attribute). x.name) (sym is)))
places_apart (a ∷ attributes) once (suc i) (suc j) d one other is =
    ap suc (places_apart attributes once.1 i j d (omega arith) (omega arith) is)

-- ---- open values and entries by numbers

module _ (attributes : List Attribute) (apart : AreApart attributes) where
  -- entries whose attributes are apart tell the numbers of these
  pub same_entries : (es fs : List NumberedEntry) → All (IsKnown attributes) es
      → All (IsKnown attributes) fs
      → map (entry_of attributes) es ≡ map (entry_of attributes) fs → es ≡ fs
  same_entries [] [] one other is = refl
  same_entries [] (f ∷ fs) one other is = absurd cc
  same_entries (e ∷ es) [] one other is = absurd cc
  same_entries (e ∷ es) (f ∷ fs) one other is =
      let first : entry_of attributes e ≡ entry_of attributes f = cc in
      let rest : map (entry_of attributes) es ≡ map (entry_of attributes) fs = cc in
      let number = apart e.attribute f.attribute no_attribute
      (All-head (IsKnown attributes) e es one) (All-head (IsKnown attributes) f fs other)
      (ap (λ (x : Entry). x.attr) first) in
      let value : e.value ≡ f.value = ap (λ (x : Entry). x.value) first in
      let more = same_entries es fs (All-tail (IsKnown attributes) e es one)
      (All-tail (IsKnown attributes) f fs other) rest in
      λ i. record { attribute = number i; value = value i } ∷ more i

  abbrev IsIn : Opened Variant → Type 0
  IsIn o = o.attribute < length attributes

  -- and so do the entries of open values
  same_opened : (os ps : List (Opened Variant)) → AreKnown attributes os → AreKnown attributes ps
      → map (entry_in attributes) os ≡ map (entry_in attributes) ps
      → map node_entry os ≡ map node_entry ps
  same_opened [] [] one other is = refl
  same_opened [] (p ∷ ps) one other is = absurd cc
  same_opened (o ∷ os) [] one other is = absurd cc
  same_opened (o ∷ os) (p ∷ ps) one other is =
      let first : entry_in attributes o ≡ entry_in attributes p = cc in
      let rest : map (entry_in attributes) os ≡ map (entry_in attributes) ps = cc in
      let number = apart o.attribute p.attribute no_attribute (All-head IsIn o os one)
      (All-head IsIn p ps other) (ap (λ (x : Entry). x.attr) first) in
      let value : o.value ≡ p.value = ap (λ (x : Entry). x.value) first in
      let more = same_opened os ps (All-tail IsIn o os one) (All-tail IsIn p ps other) rest in
      λ i. record { attr = number i; value = value i } ∷ more i

-- a node's path tells the entries of the open values
shown_by : (attributes : List Attribute) (os : List (Opened Variant))
    → map (tree_paths.entry_of attributes) (map node_entry os) ≡ map (entry_in attributes) os
shown_by attributes [] = refl
shown_by attributes (o ∷ os) = ap (λ es. entry_in attributes o ∷ es) (shown_by attributes os)

-- ---- keys

module _ (attributes : List Attribute) (script : Script) (tree : Tree)
    (seat : RowSeat NodeSort) where
  -- a key means a record
  abbrev pub KeyMeans : TableKey → Rec → Type 0
  KeyMeans key rec = Means attributes script tree seat key.refs key.imms rec

  abbrev IsShown : NodeId → List Entry → Type 0
  IsShown = IsPathShown attributes script tree seat

  module _ (sound : IsTreeSeat tree seat) (apart : NamesAreApart attributes script) where
    -- a node shows one path
    one_shown : (n : NodeId) (p q : List Entry) → IsShown n p → IsShown n q → p ≡ q
    one_shown n p q one other =
        let same = one_path (plan_of tree) (view seat) sound.sound (map node_entry one.opened)
        (map node_entry other.opened) n.0 one.is_node.has_path other.is_node.has_path in
        sym one.entries ∙ sym (shown_by script.attributes one.opened)
        ∙ ap (map (tree_paths.entry_of script.attributes)) same
        ∙ shown_by script.attributes other.opened ∙ other.entries

    -- a path is shown by one node
    one_node : (m n : NodeId) (p : List Entry) → IsShown m p → IsShown n p → m ≡ n
    one_node m n p one other =
        let opened = same_opened script.attributes
        (places_apart script.attributes apart.declared) one.opened other.opened one.known
        other.known (one.entries ∙ sym other.entries) in
        let number = one_end (plan_of tree) (view seat) sound.sound 0 0
        (map node_entry other.opened) m.0 n.0
        (subst (λ l. HasPath (slots_of tree) (view seat) l m.0) opened one.is_node.has_path)
        other.is_node.has_path in
        λ i. record { 0 = number i }

    shown_paths : (ns : List NodeId) (ps qs : List (List Entry)) → AllZip IsShown ns ps
        → AllZip IsShown ns qs → ps ≡ qs
    shown_paths [] [] [] one other = refl
    shown_paths [] [] (q ∷ qs) one other = absurd other
    shown_paths [] (p ∷ ps) qs one other = absurd one
    shown_paths (n ∷ ns) [] qs one other = absurd one
    shown_paths (n ∷ ns) (p ∷ ps) [] one other = absurd other
    shown_paths (n ∷ ns) (p ∷ ps) (q ∷ qs) one other =
        let first = one_shown n p q one.0 other.0 in
        let rest = shown_paths ns ps qs one.1 other.1 in
        λ i. first i ∷ rest i

    showing_nodes : (ms ns : List NodeId) (ps : List (List Entry)) → AllZip IsShown ms ps
        → AllZip IsShown ns ps → ms ≡ ns
    showing_nodes [] [] ps one other = refl
    showing_nodes [] (n ∷ ns) [] one other = absurd other
    showing_nodes [] (n ∷ ns) (p ∷ ps) one other = absurd one
    showing_nodes (m ∷ ms) ns [] one other = absurd one
    showing_nodes (m ∷ ms) [] (p ∷ ps) one other = absurd other
    showing_nodes (m ∷ ms) (n ∷ ns) (p ∷ ps) one other =
        let first = one_node m n p one.0 other.0 in
        let rest = showing_nodes ms ns ps one.1 other.1 in
        λ i. first i ∷ rest i

    -- a key means one record
    pub one_record : (k : TableKey) (r s : Rec) → KeyMeans k r → KeyMeans k s → r ≡ s
    one_record k r s one other =
        let paths = shown_paths k.refs r.paths s.paths one.paths other.paths in
        let imms = sym one.imms ∙ other.imms in
        λ i. record { paths = paths i; imms = imms i }

    -- a record is meant by one key
    pub one_key : (k l : TableKey) (r : Rec) → KeyMeans k r → KeyMeans l r → k ≡ l
    one_key k l r one other =
        let refs = showing_nodes k.refs l.refs r.paths one.paths other.paths in
        let imms = same_entries attributes (places_apart attributes apart.all) k.imms l.imms
        one.within other.within (one.imms ∙ sym other.imms) in
        λ i. record { refs = refs i; imms = imms i }

    -- so keys are the same where their records are
    pub tested_alike : (k l : TableKey) (r s : Rec) → KeyMeans k r → KeyMeans l s
        → same_key k l ≡ is_group r s
    tested_alike k l r s one other =
        same_from_decides (same_key k l) (is_group r s) (same_key-decides k l) (
          λ same. one_key k l s (subst (KeyMeans k) ((exact_decides group_exact r s).0 same) one)
              other,
          λ same. (exact_decides group_exact r s).1
              (one_record l r s (subst (λ key. KeyMeans key r) same one) other),
        )

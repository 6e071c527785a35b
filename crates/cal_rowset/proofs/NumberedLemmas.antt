-- Rows by numbers that lie one behind another.
use Rattle.std.proofs.Common.{◌≡◌, ℕ, zero, suc, ◌+◌, ◌-◌, ◌<◌, ◌≤◌, List, [], ◌∷◌, ◌++◌, drop, get_or, length, map, take, refl, sym, ap, subst, ◌∙◌, arith}
use Rattle.std.specs.List.{All, AllByRecursion}
use Rattle.std.proofs.lemmas.List.{drop-append-le, drop_at, get_or-map, length-append, length-drop, length-map, map-append, map_more, take-append-le, take_all}
use Rattle.std.proofs.lemmas.List.Elements.{All-nil, All-weaker, recursion_from_All}
use Rattle.cal_context.specs.Snapshots.{IsBelowRoot, IsIn}
use Rattle.cal_context.specs.Tree.{Tree}
use Rattle.cal_value.specs.declared.record.Rec.{Rec}
use Rattle.cal_context.specs.declared.numbers.NodeNumber.{NodeNumber}
use Rattle.cal_context.specs.declared.snapshot.Immediate.{Immediate}
use Rattle.cal_context.specs.declared.snapshot.Snapshot.{Snapshot}
use Rattle.cal_rowset.specs.NumberedRows.{IsExtent, IsWithin, NumberedRow, in_order, meant, nth_numbered, numbered, part, row_at}
use Rattle.cal_rowset.specs.declared.snapshot_list.Extent.{Extent}

-- a part stays while the list grows
part-append : {A : Type 0} (xs ys : List A) (first end : ℕ) → first ≤ end → end ≤ length xs → part (xs ++ ys) first end ≡ part xs first end
part-append xs ys first end l m =
    let left : end - first ≤ length (drop first xs) = omega (arith, length-drop first xs) in
    ap (take (end - first)) (drop-append-le first xs ys (omega arith))
    ∙ take-append-le (end - first) (drop first xs) ys left

-- what was added is the last part
part_last : {A : Type 0} (xs ys : List A) (first end : ℕ) → first ≡ length xs → end ≡ length (xs ++ ys) → part (xs ++ ys) first end ≡ ys
part_last xs ys first end e f =
    let left : length ys ≤ end - first = omega (arith, e, f, length-append xs ys) in
    ap (take (end - first)) (drop_at xs ys first (sym e)) ∙ take_all (end - first) ys left

-- extents stay within
pub extents_longer : (ns ms is js : ℕ) (es : List Extent) → All (IsExtent ns is) es → ns ≤ ms → is ≤ js → All (IsExtent ms js) es
extents_longer ns ms is js es all l m = All-weaker (IsExtent ns is) (IsExtent ms js)
    (λ e h. record {
      nodes_end = omega (arith, h.nodes_end, l);
      first_node = h.first_node;
      imms_end = omega (arith, h.imms_end, m);
      first_imm = h.first_imm;
    }) es all

module _ (ns ms : List NodeNumber) (is js : List Immediate) where
  rows_kept : (es : List Extent) → AllByRecursion (IsExtent (length ns) (length is)) es → map (row_at (ns ++ ms) (is ++ js)) es ≡ map (row_at ns is) es
  rows_kept [] all = refl
  rows_kept (e ∷ es) all = λ i. record {
    nodes = part-append ns ms e.first_node e.nodes_end all.0.first_node all.0.nodes_end i;
    imms = part-append is js e.first_imm e.imms_end all.0.first_imm all.0.imms_end i;
  } ∷ rows_kept es all.1 i

  -- one row more
  pub rows_more : (es : List Extent) (e : Extent) → All (IsExtent (length ns) (length is)) es
      → e.first_node ≡ length ns → e.nodes_end ≡ length (ns ++ ms) → e.first_imm ≡ length is → e.imms_end ≡ length (is ++ js)
      → map (row_at (ns ++ ms) (is ++ js)) (es ++ e ∷ []) ≡ map (row_at ns is) es ++ record { nodes = ms; imms = js } ∷ []
  rows_more es e all first_node nodes_end first_imm imms_end =
      map-append (row_at (ns ++ ms) (is ++ js)) es (e ∷ [])
      ∙ (λ i. rows_kept es (recursion_from_All (IsExtent (length ns) (length is)) es all) i
      ++ record {
        nodes = part_last ns ms e.first_node e.nodes_end first_node nodes_end i;
        imms = part_last is js e.first_imm e.imms_end first_imm imms_end i;
      } ∷ [])

-- each row is about the context, and so is none
pub nth_within : (t : Tree) (rows : List NumberedRow) (place : ℕ) → All (IsWithin t) rows → IsWithin t (nth_numbered rows place)
nth_within t rows place all = by rows place (recursion_from_All (IsWithin t) rows all)
  where
    by : (rows : List NumberedRow) (place : ℕ) → AllByRecursion (IsWithin t) rows → IsWithin t (nth_numbered rows place)
    by [] place h = record {
      nodes = All-nil (IsBelowRoot t);
      imms = All-nil (λ (i : Immediate). i.attribute.0 < length t.attributes);
    }
    by (r ∷ rows) zero h = h.0
    by (r ∷ rows) (suc n) h = by rows n h.1

-- a row is about the context where what was copied of it is
pub copied_within : (t : Tree) (rows : List NumberedRow) (place : ℕ) (row : Snapshot) → All (IsWithin t) rows → numbered row ≡ nth_numbered rows place → IsIn t row
copied_within t rows place row all is =
    let within = subst (IsWithin t) (sym is) (nth_within t rows place all) in
    record { nodes = within.nodes; imms = within.imms }

-- what one row more in the order means
pub meant_more : (t : Tree) (rows : List NumberedRow) (order : List ℕ) (n d : ℕ) → n < length order
    → map (meant t) (in_order rows (take (n + 1) order)) ≡ map (meant t) (in_order rows (take n order)) ++ meant t (nth_numbered rows (get_or order n d)) ∷ []
meant_more t rows order n d l =
    ap (map (meant t)) (map_more (nth_numbered rows) order n d l)
    ∙ map-append (meant t) (in_order rows (take n order)) (nth_numbered rows (get_or order n d) ∷ [])

-- the row at a place of the order
pub nth_in_order : (t : Tree) (rows : List NumberedRow) (order : List ℕ) (n place : ℕ) (d : Rec) → n < length order → place ≡ get_or order n place
    → meant t (nth_numbered rows place) ≡ get_or (map (meant t) (in_order rows order)) n d
nth_in_order t rows order n place d l is =
    let row = nth_numbered rows place in
    ap (λ (p : ℕ). meant t (nth_numbered rows p)) is
    ∙ ap (meant t) (sym (get_or-map (nth_numbered rows) order n place row l))
    ∙ sym (get_or-map (meant t) (in_order rows order) n row d (omega (arith, l, length-map order (nth_numbered rows))))

pub in_order-counted : (t : Tree) (rows : List NumberedRow) (order : List ℕ) → length (map (meant t) (in_order rows order)) ≡ length order
in_order-counted t rows order = length-map (in_order rows order) (meant t) ∙ length-map order (nth_numbered rows)

-- The lines of nodes and of rows.
use Rattle.std.proofs.Common.{◌≡◌, ℕ, suc, ◌-◌, ◌<◌, false, List, [], ◌∷◌, ◌++◌, length, get_or, map, drop, Option, None, Some, refl, sym, ap, ◌∙◌, subst, arith, append_assoc, drop-cons, if◌then◌else◌, All}
use Rattle.std.proofs.lemmas.List.{append-nil, map-append}
use Rattle.std.proofs.lemmas.List.Elements.{All-push}
use Rattle.std.proofs.lemmas.Option.{slice_get-get_or}
use Rattle.cal_value.specs.ExactOrder.{exact_decides}
use Rattle.cal_value.specs.OrderLaws.{path_exact}
use Rattle.cal_value.specs.Values.{value_text}
use Rattle.cal_value.specs.declared.attribute.Entry.{Entry}
use Rattle.cal_value.specs.declared.record.Rec.{Rec}
use Rattle.cal_value.specs.declared.variant.Variant.{Variant}
use Rattle.cal_context.specs.Tree.{Tree, IsContext, path_at}
use Rattle.cal_context.specs.declared.numbers.NodeNumber.{NodeNumber}
use Rattle.cal_context.proofs.CallerLemmas.{root_path, root_within}
use Rattle.cal_rowset.specs.Hierarchy.{hierarchy}
use Rattle.cal_treefmt.specs.Chains.{IsChained, IsNext, key_at}
use Rattle.cal_treefmt.specs.Lines as lines
use Rattle.cal_treefmt.specs.Lines.{indent, label, lines_of, node_lines, row_lines, rows_at}
use Rattle.cal_treefmt.specs.Nodes.{is_node}
use Rattle.cal_treefmt.specs.Orders.{AreRows, nodes_in}
use Rattle.cal_treefmt.specs.Plans.{IsPlaceOf, IsPlan, IsPlanOf, IsWithin, left_rows, shown}
use Rattle.cal_treefmt.specs.declared.chains.Chains.{Chains}
use Rattle.cal_treefmt.specs.declared.lines.Line.{Line}
use Rattle.cal_treefmt.specs.declared.plan.Plan.{Plan}
use Rattle.cal_treefmt.proofs.Keyed.{counted, node_same, passed_all, passed_to}
use Rattle.cal_treefmt.proofs.Ordering.{counted_in, nth_is, nth_node}

-- ---- labels

indent-push : (path : List Entry) (e : Entry) → indent (path ++ e ∷ []) ≡ 32 ∷ 32 ∷ indent path
indent-push [] e = refl
indent-push (f ∷ path) e = ap (λ spaces. 32 ∷ 32 ∷ spaces) (indent-push path e)

pub label-push : (path : List Entry) (e : Entry) → label (path ++ e ∷ []) ≡ indent path ++ value_text e.value
label-push [] e = refl
label-push (f ∷ []) e = refl
label-push (f ∷ g ∷ path) e = ap (λ rest. 32 ∷ 32 ∷ rest) (label-push (g ∷ path) e)

-- two spaces more, and one entry less to go
pub indent-more : (text new : List ℕ) (path up : List Entry) (e : Entry) → path ≡ up ++ e ∷ [] → new ≡ text ++ 32 ∷ 32 ∷ [] → new ++ indent up ≡ text ++ indent path
indent-more text new path up e is written =
    ap (λ front. front ++ indent up) written ∙ append_assoc text (32 ∷ 32 ∷ []) (indent up)
    ∙ ap (λ spaces. text ++ spaces) (sym (indent-push up e) ∙ ap indent (sym is))

-- ---- rows

abbrev no_row : Rec
no_row = record { paths = []; imms = [] }

abbrev row_at : List Rec → ℕ → Rec
row_at rows k = get_or rows k no_row

rows_at-here : (row : Rec) (rows : List Rec) (node : List Entry) → hierarchy row ≡ node → rows_at (row ∷ rows) node ≡ row ∷ rows_at rows node
rows_at-here row rows node e =
    ap (λ b. if b then row ∷ rows_at rows node else rows_at rows node) ((exact_decides path_exact (hierarchy row) node).1 e)

rows_at-other : (row : Rec) (rows : List Rec) (node : List Entry) → is_node (hierarchy row) node ≡ false → rows_at (row ∷ rows) node ≡ rows_at rows node
rows_at-other row rows node e = ap (λ b. if b then row ∷ rows_at rows node else rows_at rows node) e

-- a row, and the later ones at its node
left-here : (rows : List Rec) (k : ℕ) → k < length rows → left_rows rows (Some k) ≡ row_at rows k ∷ rows_at (drop (suc k) rows) (hierarchy (row_at rows k))
left-here rows k l =
    ap (λ rest. rows_at rest (hierarchy (row_at rows k))) (drop-cons rows k no_row l)
    ∙ rows_at-here (row_at rows k) (drop (suc k) rows) (hierarchy (row_at rows k)) refl

pub lines_of-left : (text : List ℕ) (rows : List Rec) (k : ℕ) → k < length rows → row_lines text (left_rows rows (Some k)) ≡ lines_of text (left_rows rows (Some k))
lines_of-left text rows k l = by (left_rows rows (Some k)) (left-here rows k l)
  where
    by : (left : List Rec) → left ≡ row_at rows k ∷ rows_at (drop (suc k) rows) (hierarchy (row_at rows k)) → row_lines text left ≡ lines_of text left
    by [] e = cc
    by (row ∷ rest) e = refl

module _ (t : Tree) (context : IsContext t) (rows : List Rec) (chains : Chains) (at : AreRows t rows chains) where
  abbrev numbers : List NodeNumber
  numbers = at.0

  pub long : length numbers ≡ length rows
  long = counted t context hierarchy rows numbers at.1 no_row

  pub places : length chains.next.items ≡ length rows
  places = at.2.places_counted ∙ long

  -- the rows at a node from one place on, by the first
  left-is : (i : ℕ) (n : NodeNumber) (next : Option ℕ) → n.0 < length t.paths → IsNext numbers i n.0 next → rows_at (drop i rows) (path_at t n) ≡ left_rows rows next
  left-is i n None within lacks =
      passed_all t context hierarchy rows numbers at.1 no_row n within (λ rest. rows_at rest (path_at t n)) (λ x rest e. rows_at-other x rest (path_at t n) e) i lacks
  left-is i n (Some k) within first =
      passed_to t context hierarchy rows numbers at.1 no_row n within (λ rest. rows_at rest (path_at t n)) (λ x rest e. rows_at-other x rest (path_at t n) e) i k first
      ∙ ap (λ rest. rows_at rest (path_at t n)) (sym (drop-cons rows k no_row (omega (arith, first.within, long))))
      ∙ ap (rows_at (drop k rows)) (sym (node_same t context hierarchy rows numbers at.1 no_row n k (omega (arith, first.within, long)) first.is))

  pub left-first : (n : NodeNumber) (next : Option ℕ) → n.0 < length t.paths → IsNext numbers 0 n.0 next → left_rows rows next ≡ rows_at rows (path_at t n)
  left-first n next within is = sym (left-is 0 n next within is)

  pub left-next : (k : ℕ) (next : Option ℕ) → k < length rows → IsNext numbers (suc k) (key_at numbers k) next → left_rows rows (Some k) ≡ row_at rows k ∷ left_rows rows next
  left-next k next l is =
      let n = get_or numbers k (record { 0 = 0 }) in
      let here = node_same t context hierarchy rows numbers at.1 no_row n k l refl in
      left-here rows k l
      ∙ ap (λ rest. row_at rows k ∷ rest) (
      ap (rows_at (drop (suc k) rows)) here
      ∙ left-is (suc k) n next (at.1.within k (record { 0 = 0 }) (omega (arith, l, long))) is)

-- ---- lines

-- a line with a row, and those that are left
pub row_lines-more : (t : Tree) (rows : List Rec) (n : NodeNumber) (old : List Line) (k : ℕ) (left : List Rec) (whole : List lines.Line) → k < length rows
    → map (shown t rows) old ++ row_lines (label (path_at t n)) (row_at rows k ∷ left) ≡ whole
    → map (shown t rows) (old ++ record { node = n; row = Some k } ∷ []) ++ row_lines (label (path_at t n)) left ≡ whole
row_lines-more t rows n old k left whole l before =
    let line : Line = record { node = n; row = Some k } in
    let text = label (path_at t n) in
    ap (λ front. front ++ row_lines text left) (map-append (shown t rows) old (line ∷ []))
    ∙ append_assoc (map (shown t rows) old) (shown t rows line ∷ []) (row_lines text left)
    ∙ ap (λ (first : lines.Line). map (shown t rows) old ++ first ∷ row_lines text left)
    (λ j. record { label = text; row = slice_get-get_or rows k no_row l j })
    ∙ before

-- how many places there are from one on
abbrev pub places_from : ℕ → Option ℕ → ℕ
places_from count None = 0
places_from count (Some place) = count - place

-- the next place, of which it is known that it follows in each reading of the plan
abbrev pub Follows : Plan → ℕ → Option ℕ → Type 0
Follows p k next = (keys : List NodeNumber) (count : ℕ) → IsChained keys count p.rows → k < length keys → IsNext keys (suc k) (key_at keys k) next

module _ (p : Plan) (k : ℕ) (next : Option ℕ) where
  follows : (rows : List Rec) (plan : IsPlan p rows) → k < length p.rows.next.items → Follows p k next → IsNext plan.at.0 (suc k) (key_at plan.at.0 k) next
  follows rows plan within is = is plan.at.0 (length p.context.paths) plan.at.2 (omega (arith, within, plan.at.2.places_counted))

  pub place-next : IsPlanOf p → k < length p.rows.next.items → Follows p k next → IsPlaceOf p next
  place-next of within is = by next (follows of.0 of.1 within is)
    where
      by : (o : Option ℕ) → IsNext of.1.at.0 (suc k) (key_at of.1.at.0 k) o → IsPlaceOf p o
      by None lacks = tt
      by (Some j) first = omega (arith, first.within, of.1.at.2.places_counted)

  pub place-smaller : IsPlanOf p → k < length p.rows.next.items → Follows p k next → places_from (length p.rows.next.items) next < length p.rows.next.items - k
  place-smaller of within is = by next (follows of.0 of.1 within is)
    where
      by : (o : Option ℕ) → IsNext of.1.at.0 (suc k) (key_at of.1.at.0 k) o → places_from (length p.rows.next.items) o < length p.rows.next.items - k
      by None lacks = omega (arith, within)
      by (Some j) first = omega (arith, within, first.within, first.later, of.1.at.2.places_counted)

  pub lines-more : (rows : List Rec) (n : NodeNumber) (old new : List Line) (whole : List lines.Line) (plan : IsPlan p rows) → k < length p.rows.next.items → Follows p k next
      → new ≡ old ++ record { node = n; row = Some k } ∷ []
      → map (shown p.context rows) old ++ row_lines (label (path_at p.context n)) (left_rows rows (Some k)) ≡ whole
      → map (shown p.context rows) new ++ row_lines (label (path_at p.context n)) (left_rows rows next) ≡ whole
  lines-more rows n old new whole plan within is written before =
      let places_is = places p.context plan.context rows p.rows plan.at in
      let text = label (path_at p.context n) in
      ap (λ l. map (shown p.context rows) l ++ row_lines text (left_rows rows next)) written
      ∙ row_lines-more p.context rows n old k (left_rows rows next) whole (omega (arith, within, places_is))
      (ap (λ left. map (shown p.context rows) old ++ row_lines text left) (sym (left-next p.context plan.context rows p.rows plan.at k next (omega (arith, within, places_is)) (follows rows plan within is))) ∙ before)

-- the first place, of which it is known that it is the first in each reading of the plan
abbrev pub Leads : Plan → ℕ → Option ℕ → Type 0
Leads p key first = (keys : List NodeNumber) (count : ℕ) → IsChained keys count p.rows → key < count → IsNext keys 0 key first

module _ (p : Plan) (n : NodeNumber) (first : Option ℕ) where
  leads : (rows : List Rec) (plan : IsPlan p rows) → n.0 < length p.context.paths → Leads p n.0 first → IsNext plan.at.0 0 n.0 first
  leads rows plan within is = is plan.at.0 (length p.context.paths) plan.at.2 within

  pub place-first : IsPlanOf p → n.0 < length p.context.paths → Leads p n.0 first → IsPlaceOf p first
  place-first of within is = by first (leads of.0 of.1 within is)
    where
      by : (o : Option ℕ) → IsNext of.1.at.0 0 n.0 o → IsPlaceOf p o
      by None lacks = tt
      by (Some j) head = omega (arith, head.within, of.1.at.2.places_counted)

  pub first-rows : (rows : List Rec) (plan : IsPlan p rows) → n.0 < length p.context.paths → Leads p n.0 first → left_rows rows first ≡ rows_at rows (path_at p.context n)
  first-rows rows plan within is = left-first p.context plan.context rows p.rows plan.at n first within (leads rows plan within is)

-- the lines of a node, by its first row
abbrev pub first_lines : List ℕ → List Rec → Option ℕ → List lines.Line
first_lines text rows None = record { label = text; row = None } ∷ []
first_lines text rows (Some k) = row_lines text (left_rows rows (Some k))

pub node_lines-first : (p : Plan) (rows : List Rec) (place : ℕ) (n : NodeNumber) (first : Option ℕ) → IsPlan p rows → place < length (nodes_in p.context) → n.0 ≡ suc place → Leads p n.0 first
    → first_lines (label (path_at p.context n)) rows first ≡ node_lines rows (nth_node p.context place)
node_lines-first p rows place n first plan within is head =
    lines_are ∙ ap (lines_of (label (path_at p.context n))) left
    ∙ ap (node_lines rows) (ap (λ (k : ℕ). path_at p.context (record { 0 = k })) is ∙ nth_is p.context place)
  where
    n_within : n.0 < length p.context.paths
    n_within = omega (arith, within, is, counted_in p.context plan.context)

    left : left_rows rows first ≡ rows_at rows (path_at p.context n)
    left = first-rows p n first rows plan n_within head

    text : List ℕ
    text = label (path_at p.context n)

    by : (o : Option ℕ) → IsNext plan.at.0 0 n.0 o → first_lines text rows o ≡ lines_of text (left_rows rows o)
    by None lacks = refl
    by (Some k) next = lines_of-left text rows k (omega (arith, next.within, long p.context plan.context rows p.rows plan.at))

    lines_are : first_lines text rows first ≡ lines_of text (left_rows rows first)
    lines_are = by first (leads p n first rows plan n_within head)

-- ---- what is written of a label, and at the start

pub label-written : (empty spaces out : List ℕ) (path up : List Entry) (e : Entry) (v : Variant) → path ≡ up ++ e ∷ [] → empty ≡ [] → spaces ≡ empty ++ indent up → v ≡ e.value → out ≡ spaces ++ value_text v
    → out ≡ label path
label-written empty spaces out path up e v is none indented same written =
    written
    ∙ (λ j. (indented ∙ ap (λ front. front ++ indent up) none) j ++ value_text (same j))
    ∙ sym (label-push up e) ∙ ap label (sym is)

pub lines-start : (p : Plan) (rows : List Rec) (first : Option ℕ) (old : List Line) (new : List lines.Line) → IsPlan p rows → Leads p 0 first → old ≡ []
    → new ≡ map (shown p.context rows) old ++ row_lines (label (path_at p.context (record { 0 = 0 }))) (left_rows rows first) → new ≡ row_lines (label []) (rows_at rows []) ++ []
lines-start p rows first old new plan leads none is =
    is
    ∙ (λ j. map (shown p.context rows) (none j) ++ row_lines (label (root_path plan.context j))
    ((first-rows p (record { 0 = 0 }) first rows plan (root_within plan.context) leads ∙ ap (rows_at rows) (root_path plan.context)) j))
    ∙ sym (append-nil (row_lines [] (rows_at rows [])))

-- lines with one more are those of nodes of the tree
pub within-more : (t : Tree) (old new : List Line) (line : Line) → new ≡ old ++ line ∷ [] → IsWithin t line → All (IsWithin t) old → All (IsWithin t) new
within-more t old new line is within all = subst (All (IsWithin t)) (sym is) (All-push (IsWithin t) old line all within)

-- The columns of lines that are measured one after another, and the whole.
use Rattle.std.proofs.Common.{◌≡◌, ℕ, zero, suc, ◌+◌, ◌<◌, ◌≤◌, Bool, true, false, List, [], ◌∷◌, ◌++◌, length, get_or, map, set, take, drop, max, Option, None, Some, slice_get, refl, true≢false, sym, ap, ap₂, ◌∙◌, add-one, append_assoc, arith}
use Rattle.std.specs.List.{flat_map}
use Rattle.std.proofs.lemmas.Grind.{flat_map-append}
use Rattle.std.proofs.lemmas.List.{append-nil, drop_all, get_or-map, length-map, map-append, take_all, take_more}
use Rattle.std.proofs.lemmas.Option.{slice_get-get_or}
use Rattle.cal_value.specs.declared.record.Rec.{Rec}
use Rattle.cal_rowset.specs.Answers.{nth_row}
use Rattle.cal_context.specs.Tree.{Tree}
use Rattle.std.specs.Prelude.{MatchOption}
use Rattle.cal_rowset.specs.Showing.{ShowsRow, nth_column}
use Rattle.cal_rowset.specs.declared.rowset.Column.{Column}
use Rattle.cal_tabfmt.specs.Grid.{grid, grid_line, nth_text, on_line, shape, shapes, widest, width}
use Rattle.cal_tabfmt.specs.Table.{cell_text}
use Rattle.cal_tabfmt.specs.declared.shape.Shape.{Shape}
use Rattle.cal_treefmt.specs.Columns.{columns_beside}
use Rattle.cal_treefmt.specs.Lines as lines
use Rattle.cal_treefmt.specs.Lines.{tree_lines}
use Rattle.cal_treefmt.specs.Plans.{shown}
use Rattle.cal_treefmt.specs.Shown.{ShowsLine}
use Rattle.cal_treefmt.specs.Tree.{header_texts, line_texts, rights, texts_beside, tree_of}
use Rattle.cal_treefmt.specs.declared.lines.Line.{Line}
use Rattle.cal_treefmt.specs.declared.shown_line.ShownLine.{ShownLine}

-- ---- the columns with one line more

-- the first ones of one list, and the others of another
abbrev pub mixed : {A : Type 0} → List A → List A → ℕ → List A
mixed new old k = take k new ++ drop k old

mixed-next : {A : Type 0} (new old : List A) (k : ℕ) (d : A) → length new ≡ length old → k < length old → set (mixed new old k) k (get_or new k d) ≡ mixed new old (suc k)
mixed-next [] [] k d counted within = absurd (omega (arith, within))
mixed-next [] (y ∷ old) k d counted within = absurd (omega (arith, counted))
mixed-next (x ∷ new) [] k d counted within = absurd (omega (arith, within))
mixed-next (x ∷ new) (y ∷ old) zero d counted within = refl
mixed-next {A} (x ∷ new) (y ∷ old) (suc k) d counted within = ap (λ (xs : List A). x ∷ xs) (mixed-next new old k d (omega (arith, counted)) (omega (arith, within)))

mixed-at : {A : Type 0} (new old : List A) (k : ℕ) (d : A) → length new ≡ length old → k < length old → get_or (mixed new old k) k d ≡ get_or old k d
mixed-at [] [] k d counted within = absurd (omega (arith, within))
mixed-at [] (y ∷ old) k d counted within = absurd (omega (arith, counted))
mixed-at (x ∷ new) [] k d counted within = absurd (omega (arith, within))
mixed-at (x ∷ new) (y ∷ old) zero d counted within = refl
mixed-at (x ∷ new) (y ∷ old) (suc k) d counted within = mixed-at new old k d (omega (arith, counted)) (omega (arith, within))

pub length-shapes : (before : List (List (List ℕ))) (k : ℕ) (aligned : List Bool) → length (shapes before k aligned) ≡ length aligned
length-shapes before k [] = refl
length-shapes before k (right ∷ aligned) = ap suc (length-shapes before (suc k) aligned)

get_or-shapes : (before : List (List (List ℕ))) (k i : ℕ) (aligned : List Bool) (d : Shape) → i < length aligned → get_or (shapes before k aligned) i d ≡ shape before (k + i) (get_or aligned i false)
get_or-shapes before k i [] d within = absurd (omega (arith, within))
get_or-shapes before k zero (right ∷ aligned) d within = ap (λ (n : ℕ). shape before n right) (omega arith)
get_or-shapes before k (suc i) (right ∷ aligned) d within =
    get_or-shapes before (suc k) i aligned d (omega (arith, within)) ∙ ap (λ (n : ℕ). shape before n (get_or aligned i false)) (omega arith)

nth-shape : (before : List (List (List ℕ))) (i : ℕ) (aligned : List Bool) (d : Shape) → i < length aligned → get_or (shapes before 0 aligned) i d ≡ shape before i (get_or aligned i false)
nth-shape before i aligned d within = get_or-shapes before 0 i aligned d within ∙ ap (λ (n : ℕ). shape before n (get_or aligned i false)) (omega arith)

widest-push : (texts : List (List ℕ)) (text : List ℕ) → widest (texts ++ text ∷ []) ≡ max (widest texts) (width text)
widest-push [] text = omega arith
widest-push (t ∷ texts) text = let more = widest-push texts text in omega (arith, more)

-- a column with one line more
abbrev wider : Shape → List ℕ → Shape
wider s text = record { width = max s.width (width text); right = s.right }

shape-push : (before : List (List (List ℕ))) (line : List (List ℕ)) (k : ℕ) (right : Bool) → wider (shape before k right) (nth_text line k) ≡ shape (before ++ line ∷ []) k right
shape-push before line k right =
    let nth : List (List ℕ) → List ℕ = λ l. nth_text l k in
    ap (λ (w : ℕ). record { width = w; right = right }) (sym (ap widest (map-append nth before (line ∷ [])) ∙ widest-push (map nth before) (nth line)))

module _ (before : List (List (List ℕ))) (line : List (List ℕ)) (aligned : List Bool) where
  -- the columns, of which the first ones are as wide as a line more asks
  abbrev pub widened : ℕ → List Shape
  widened k = mixed (shapes (before ++ line ∷ []) 0 aligned) (shapes before 0 aligned) k

  counted : length (shapes (before ++ line ∷ []) 0 aligned) ≡ length (shapes before 0 aligned)
  counted = length-shapes (before ++ line ∷ []) 0 aligned ∙ sym (length-shapes before 0 aligned)

  pub widened-more : (k w : ℕ) (s d : Shape) → k < length aligned → s ≡ get_or (widened k) k d → w ≡ width (nth_text line k)
      → set (widened k) k (record { width = max s.width w; right = s.right }) ≡ widened (k + 1)
  widened-more k w s d within is wide =
      let here : k < length (shapes before 0 aligned) = omega (arith, within, length-shapes before 0 aligned) in
      let old : s ≡ shape before k (get_or aligned k false) =
      is ∙ mixed-at (shapes (before ++ line ∷ []) 0 aligned) (shapes before 0 aligned) k d counted here ∙ nth-shape before k aligned d within in
      ap (set (widened k) k) (
      (λ j. record { width = max (old j).width (wide j); right = (old j).right })
      ∙ shape-push before line k (get_or aligned k false)
      ∙ sym (nth-shape (before ++ line ∷ []) k aligned d within))
      ∙ mixed-next (shapes (before ++ line ∷ []) 0 aligned) (shapes before 0 aligned) k d counted here
      ∙ ap widened (sym (add-one k))

  -- all columns
  pub widened-all : (k : ℕ) → length aligned ≤ k → widened k ≡ shapes (before ++ line ∷ []) 0 aligned
  widened-all k past =
      ap₂ (λ (front rest : List Shape). front ++ rest)
      (take_all k (shapes (before ++ line ∷ []) 0 aligned) (omega (arith, past, length-shapes (before ++ line ∷ []) 0 aligned)))
      (drop_all k (shapes before 0 aligned) (omega (arith, past, length-shapes before 0 aligned)))
      ∙ append-nil (shapes (before ++ line ∷ []) 0 aligned)

-- ---- lines

pub length-texts_beside : (columns : List Column) (row : Option Rec) → length (texts_beside columns row) ≡ length columns
length-texts_beside columns None = length-map columns (λ column. [])
length-texts_beside columns (Some row) = length-map columns _

pub length-rights : (columns : List Column) → length (rights columns) ≡ suc (length columns)
length-rights columns = ap suc (length-map columns (λ column. true))

-- the row at a place, if there is one
pub row-there : (rows : List Rec) (place : ℕ) → place < length rows → slice_get rows place ≡ Some (nth_row rows place)
row-there rows place within = slice_get-get_or rows place (record { paths = []; imms = [] }) within

pub row-past : (rows : List Rec) (place : ℕ) → length rows ≤ place → slice_get rows place ≡ None
row-past [] place past = refl
row-past (row ∷ rows) zero past = absurd (omega (arith, past))
row-past (row ∷ rows) (suc place) past = row-past rows place (omega (arith, past))

-- the row of a line that has one
pub row-of : (columns : List Column) (l : ShownLine) (line : lines.Line) → ShowsLine columns l line → l.has_row ≡ true → (r : Rec) × (line.row ≡ Some r) × ShowsRow l.cells columns r
row-of columns l line shows has = by line.row refl shows.beside.shows
  where
    by : (o : Option Rec) → line.row ≡ o → MatchOption o (l.has_row ≡ false) (λ r. (l.has_row ≡ true) × ShowsRow l.cells columns r) → (r : Rec) × (line.row ≡ Some r) × ShowsRow l.cells columns r
    by None e lacks = absurd (true≢false (sym has ∙ lacks))
    by (Some r) e row = (r, e, row.1)

-- the text beside a label, with a row and without one
pub beside-some : (columns : List Column) (line : lines.Line) (row : Rec) (k : ℕ) → line.row ≡ Some row → k < length columns → cell_text row (nth_column columns k) ≡ nth_text (texts_beside columns line.row) k
beside-some columns line row k is within =
    sym (get_or-map (cell_text row) columns k (record { header = []; name = [] }) [] within) ∙ ap (λ (o : Option Rec). nth_text (texts_beside columns o) k) (sym is)

pub beside-none : (columns : List Column) (l : ShownLine) (line : lines.Line) (k : ℕ) → ShowsLine columns l line → l.has_row ≡ false → k < length columns
    → on_line l.empty ≡ nth_text (texts_beside columns line.row) k
beside-none columns l line k shows lacks within = by line.row refl shows.beside.shows
  where
    by : (o : Option Rec) → line.row ≡ o → MatchOption o (l.has_row ≡ false) (λ r. (l.has_row ≡ true) × ShowsRow l.cells columns r) → on_line l.empty ≡ nth_text (texts_beside columns line.row) k
    by None e none =
        ap on_line shows.empty
        ∙ sym (get_or-map (λ (column : Column). []) columns k (record { header = []; name = [] }) [] within)
        ∙ ap (λ (o : Option Rec). nth_text (texts_beside columns o) k) (sym e)
    by (Some r) e row = absurd (true≢false (sym row.0 ∙ lacks))

-- one line more
pub lines-measured : {A : Type 0} (f : A → List (List ℕ)) (head : List (List ℕ)) (items : List A) (i : ℕ) (item : A) → i < length items → item ≡ get_or items i item
    → (head ∷ map f (take i items)) ++ f item ∷ [] ≡ head ∷ map f (take (i + 1) items)
lines-measured f head items i item within is =
    ap (λ rest. head ∷ rest) (
    sym (map-append f (take i items) (item ∷ [])) ∙ ap (map f) (ap (λ x. take i items ++ x ∷ []) is ∙ sym (take_more items i item within)))

pub written-more : {A : Type 0} (f : A → List ℕ) (items : List A) (i : ℕ) (item : A) (before out new : List ℕ) → i < length items → item ≡ get_or items i item
    → out ≡ before ++ flat_map f (take i items) → new ≡ out ++ f item → new ≡ before ++ flat_map f (take (i + 1) items)
written-more f items i item before out new within is so_far added =
    added ∙ ap (λ front. front ++ f item) so_far ∙ append_assoc before (flat_map f (take i items)) (f item)
    ∙ ap (λ rest. before ++ rest) (
    ap (λ last. flat_map f (take i items) ++ last) (sym (append-nil (f item)))
    ∙ sym (flat_map-append f (take i items) (item ∷ []))
    ∙ ap (flat_map f) (ap (λ x. take i items ++ x ∷ []) is ∙ sym (take_more items i item within)))

map-shown : (t : Tree) (rows : List Rec) (columns : List Column) (all : List Line) → map (λ line. line_texts columns (shown t rows line)) all ≡ map (line_texts columns) (map (shown t rows) all)
map-shown t rows columns [] = refl
map-shown t rows columns (line ∷ all) = ap (λ rest. line_texts columns (shown t rows line) ∷ rest) (map-shown t rows columns all)

flat_map-shown : {A : Type 0} (f : A → List (List ℕ)) (columns : List Shape) (all : List A) → flat_map (λ line. grid_line columns (f line)) all ≡ flat_map (grid_line columns) (map f all)
flat_map-shown f columns [] = refl
flat_map-shown f columns (x ∷ all) = ap (λ rest. grid_line columns (f x) ++ rest) (flat_map-shown f columns all)

-- the headers and all lines, in columns that are as wide as they ask
pub tree-written : (t : Tree) (rows : List Rec) (columns beside : List Column) (all : List Line) (made : List Shape) (out text : List ℕ)
    → beside ≡ columns_beside rows columns → map (shown t rows) all ≡ tree_lines rows
    → made ≡ shapes (header_texts beside ∷ map (λ line. line_texts beside (shown t rows line)) all) 0 (rights beside)
    → out ≡ grid_line made (header_texts beside)
    → text ≡ out ++ flat_map (λ line. grid_line made (line_texts beside (shown t rows line))) all
    → text ≡ tree_of (columns_beside rows columns) rows
tree-written t rows columns beside all made out text beside_is lines_are made_is first is =
    let line : Line → List (List ℕ) = λ line. line_texts beside (shown t rows line) in
    is
    ∙ ap₂ (λ (front rest : List ℕ). front ++ rest) first (flat_map-shown line made all)
    ∙ ap (λ (columns : List Shape). flat_map (grid_line columns) (header_texts beside ∷ map line all)) made_is
    ∙ ap (λ rest. grid (rights beside) (header_texts beside ∷ rest)) (map-shown t rows beside all ∙ ap (map (line_texts beside)) lines_are)
    ∙ ap (λ (shown_columns : List Column). tree_of shown_columns rows) beside_is

-- One row more of a table, and one column more.
use Rattle.std.proofs.Common.{◌≡◌, ◌≢◌, ℕ, zero, suc, ◌+◌, ◌<◌, Bool, true, false, ◌||◌, List, [], ◌∷◌, ◌++◌, length, get_or, take, set, map, not, max, flat_map, refl, sym, ap, ap₂, subst, ◌∙◌, append_assoc, append-nil, length-append, add-one, drop_of_length-le, ◌≤◌, arith}
use Rattle.std.specs.List.{list_any}
use Rattle.std.proofs.lemmas.Grind.{flat_map-append}
use Rattle.std.proofs.lemmas.List.{get_or-map, map-append, take_all, take_more}
use Rattle.std.proofs.lemmas.List.Folds.{list_any-append}
use Rattle.cal_value.specs.declared.record.Rec.{Rec}
use Rattle.cal_rowset.specs.Answers.{nth_row}
use Rattle.cal_rowset.specs.Cells.{content, shown_values}
use Rattle.cal_rowset.specs.Filling.{Shows, is_nothing}
use Rattle.cal_rowset.specs.declared.cell.Cell.{Cell}
use Rattle.cal_rowset.specs.declared.cell.Content.{Content}
use Rattle.cal_rowset.specs.declared.rowset.Column.{Column}
use Rattle.cal_rowset.specs.Showing.{nth_column}
use Rattle.cal_tabfmt.specs.Grid.{grid, grid_line, nth_text, on_line, shapes, widest, width}
use Rattle.cal_tabfmt.specs.Table.{cell_text, header_line, is_right, is_words, row_line, table_lines}
use Rattle.cal_tabfmt.specs.Tables.{held, held_before, shape_of}
use Rattle.cal_tabfmt.specs.declared.held.Held.{Held}
use Rattle.cal_tabfmt.specs.declared.shape.Shape.{Shape}
use Rattle.cal_tabfmt.proofs.GridLemmas.{widest-push}

-- what stands at the place of an item
nth_of_map : {X : Type 0} (f : X → List ℕ) (front rest : List X) (x : X) (k : ℕ) → length front ≡ k → nth_text (map f (front ++ x ∷ rest)) k ≡ f x
nth_of_map f [] rest x zero counted = refl
nth_of_map f [] rest x (suc k) counted = absurd (omega (arith, counted))
nth_of_map f (y ∷ front) rest x zero counted = absurd (omega (arith, counted))
nth_of_map f (y ∷ front) rest x (suc k) counted = nth_of_map f front rest x k (omega (arith, counted))

or_none : (a b : Bool) → (a || (b || false)) ≡ (a || b)
or_none true b = refl
or_none false true = refl
or_none false false = refl

-- what a column holds with one row more
any_more : (p : Rec → Bool) (rows : List Rec) (row : Rec) → list_any p (rows ++ row ∷ []) ≡ (list_any p rows || p row)
any_more p rows row = list_any-append p rows (row ∷ []) ∙ or_none (list_any p rows) (p row)

pub held-push : (rows : List Rec) (row : Rec) (column : Column) (new : Held) → new.width ≡ max (held rows column).width (width (cell_text row column))
    → new.some ≡ ((held rows column).some || not (is_nothing (content row column.name))) → new.words ≡ ((held rows column).words || is_words (content row column.name))
    → new ≡ held (rows ++ row ∷ []) column
held-push rows row column new wide some words =
    let shown : Rec → List ℕ = λ r. cell_text r column in
    let widths : new.width ≡ (held (rows ++ row ∷ []) column).width =
    wide ∙ sym (ap (λ (texts : List (List ℕ)). widest (on_line column.header ∷ texts)) (map-append shown rows (row ∷ []))
    ∙ widest-push (on_line column.header ∷ map shown rows) (shown row)) in
    let somes = some ∙ sym (any_more (λ r. not (is_nothing (content r column.name))) rows row) in
    let those = words ∙ sym (any_more (λ r. is_words (content r column.name)) rows row) in
    λ i. record { width = widths i; some = somes i; words = those i }

-- what a column holds without a row
pub held-none : (column : Column) (wide : ℕ) → wide ≡ width (on_line column.header) → record { width = wide; some = false; words = false } ≡ held [] column
held-none column wide is =
    let widths : wide ≡ max (width (on_line column.header)) 0 = omega (arith, is) in
    λ i. record { width = widths i; some = false; words = false }

-- the column at a place has a row more
before-set : (rows : List Rec) (row : Rec) (columns : List Column) (k : ℕ) (new : Held) → k < length columns → new ≡ held (rows ++ row ∷ []) (nth_column columns k)
    → set (held_before rows row columns k) k new ≡ held_before rows row columns (suc k)
before-set rows row [] k new within same = absurd (omega (arith, within))
before-set rows row (c ∷ columns) zero new within same = ap (λ (h : Held). h ∷ map (held rows) columns) same
before-set rows row (c ∷ columns) (suc k) new within same = ap (λ (rest : List Held). held (rows ++ row ∷ []) c ∷ rest) (before-set rows row columns k new (omega (arith, within)) same)

pub held_before-set : (rows : List Rec) (row : Rec) (columns : List Column) (k : ℕ) (new : Held) → k < length columns → new ≡ held (rows ++ row ∷ []) (nth_column columns k)
    → set (held_before rows row columns k) k new ≡ held_before rows row columns (k + 1)
held_before-set rows row columns k new within same = rw (add-one k) (before-set rows row columns k new within same)

-- what is held at that place before
pub held_before-at : (rows : List Rec) (row : Rec) (columns : List Column) (k : ℕ) (d : Held) → k < length columns → get_or (held_before rows row columns k) k d ≡ held rows (nth_column columns k)
held_before-at rows row [] k d within = absurd (omega (arith, within))
held_before-at rows row (c ∷ columns) zero d within = refl
held_before-at rows row (c ∷ columns) (suc k) d within = held_before-at rows row columns k d (omega (arith, within))

-- the cell at that place is added
pub hold_more : (rows : List Rec) (row : Rec) (columns : List Column) (k : ℕ) (all : List Held) (old new : Held) (cell : Cell) → k < length columns → all ≡ held_before rows row columns k
    → old ≡ get_or all k old → Shows cell (shown_values row (nth_column columns k).name)
    → new.width ≡ max old.width (width (on_line cell.text)) → new.some ≡ (old.some || not (is_nothing cell.content)) → new.words ≡ (old.words || is_words cell.content)
    → set all k new ≡ held_before rows row columns (k + 1)
hold_more rows row columns k all old new cell within is read shows wide some words =
    let before : old ≡ held rows (nth_column columns k) =
    read ∙ ap (λ (hs : List Held). get_or hs k old) is ∙ held_before-at rows row columns k old within in
    let added = held-push rows row (nth_column columns k) new
    (wide ∙ ap₂ (λ (h : Held) (text : List ℕ). max h.width (width (on_line text))) before shows.text)
    (some ∙ ap₂ (λ (h : Held) (in_cell : Content). h.some || not (is_nothing in_cell)) before shows.content)
    (words ∙ ap₂ (λ (h : Held) (in_cell : Content). h.words || is_words in_cell) before shows.content) in
    ap (λ (hs : List Held). set hs k new) is ∙ held_before-set rows row columns k new within added

-- after the last column each has the row
pub held_before-all : (rows : List Rec) (row : Rec) (columns : List Column) (k : ℕ) → length columns ≤ k → held_before rows row columns k ≡ map (held (rows ++ row ∷ [])) columns
held_before-all rows row columns k past =
    ap₂ (λ (front rest : List Column). map (held (rows ++ row ∷ [])) front ++ map (held rows) rest) (take_all k columns past) (drop_of_length-le columns past)
    ∙ append-nil (map (held (rows ++ row ∷ [])) columns)

-- a line with one header more
pub headers-more : (columns : List Column) (k : ℕ) (column : Column) (before line : List (List ℕ)) (text : List ℕ) → k < length columns → column ≡ get_or columns k column
    → line ≡ before ++ header_line (take k columns) → text ≡ on_line column.header → line ++ text ∷ [] ≡ before ++ header_line (take (k + 1) columns)
headers-more columns k column before line text within is so_far same =
    let shown : Column → List ℕ = λ c. on_line c.header in
    ap₂ (λ (l : List (List ℕ)) (t : List ℕ). l ++ t ∷ []) so_far same
    ∙ append_assoc before (map shown (take k columns)) (shown column ∷ [])
    ∙ ap (λ (rest : List (List ℕ)). before ++ rest)
    (sym (map-append shown (take k columns) (column ∷ []))
    ∙ ap (λ (c : Column). map shown (take k columns ++ c ∷ [])) is
    ∙ ap (map shown) (sym (take_more columns k column within)))

-- a column's texts are those at its place
column_texts : (front rest : List Column) (column : Column) (rows : List Rec) (k : ℕ) → length front ≡ k
    → map (λ line. nth_text line k) (map (row_line (front ++ column ∷ rest)) rows) ≡ map (λ row. cell_text row column) rows
column_texts front rest column [] k counted = refl
column_texts front rest column (row ∷ rows) k counted =
    ap₂ (λ (text : List ℕ) (texts : List (List ℕ)). text ∷ texts)
    (nth_of_map (cell_text row) front rest column k counted) (column_texts front rest column rows k counted)

-- the columns of a table
shapes_are-from : (front columns : List Column) (rows : List Rec) (k : ℕ) → length front ≡ k
    → map shape_of (map (held rows) columns) ≡ shapes (header_line (front ++ columns) ∷ map (row_line (front ++ columns)) rows) k (map (is_right rows) columns)
shapes_are-from front [] rows k counted = refl
shapes_are-from front (column ∷ columns) rows k counted =
    let all = front ++ column ∷ columns in
    let texts : on_line column.header ∷ map (λ row. cell_text row column) rows ≡ map (λ line. nth_text line k) (header_line all ∷ map (row_line all) rows) =
    sym (ap₂ (λ (text : List ℕ) (rest : List (List ℕ)). text ∷ rest)
    (nth_of_map (λ (c : Column). on_line c.header) front columns column k counted) (column_texts front columns column rows k counted)) in
    let next : map shape_of (map (held rows) columns) ≡ shapes (header_line all ∷ map (row_line all) rows) (suc k) (map (is_right rows) columns) =
    subst (λ (those : List Column). map shape_of (map (held rows) columns) ≡ shapes (header_line those ∷ map (row_line those) rows) (suc k) (map (is_right rows) columns))
    (append_assoc front (column ∷ []) columns)
    (shapes_are-from (front ++ column ∷ []) columns rows (suc k) (omega (arith, counted, length-append front (column ∷ [])))) in
    ap₂ (λ (first : Shape) (rest : List Shape). first ∷ rest)
    (ap (λ (ts : List (List ℕ)). record { width = widest ts; right = is_right rows column }) texts) next

pub shapes_are : (columns : List Column) (rows : List Rec) → map shape_of (map (held rows) columns) ≡ shapes (header_line columns ∷ map (row_line columns) rows) 0 (map (is_right rows) columns)
shapes_are columns rows = shapes_are-from [] columns rows 0 refl

-- the lines of rows, with one more
pub rows-more : (made : List Shape) (columns : List Column) (rows : List Rec) (k : ℕ) → k < length rows
    → flat_map (grid_line made) (map (row_line columns) (take k rows)) ++ grid_line made (row_line columns (nth_row rows k)) ≡ flat_map (grid_line made) (map (row_line columns) (take (k + 1) rows))
rows-more made columns rows k within =
    let line : Rec → List ℕ = λ r. grid_line made (row_line columns r) in
    let before = map (row_line columns) (take k rows) in
    ap (λ (t : List ℕ). flat_map (grid_line made) before ++ t) (sym (append-nil (line (nth_row rows k))))
    ∙ sym (flat_map-append (grid_line made) before (row_line columns (nth_row rows k) ∷ []))
    ∙ ap (flat_map (grid_line made)) (sym (map-append (row_line columns) (take k rows) (nth_row rows k ∷ [])))
    ∙ ap (λ (rs : List Rec). flat_map (grid_line made) (map (row_line columns) rs)) (sym (take_more rows k _ within))

-- the table of some columns
pub table_lines-some : (columns : List Column) (rows : List Rec) → length columns ≢ 0 → table_lines columns rows ≡ grid (map (is_right rows) columns) (header_line columns ∷ map (row_line columns) rows)
table_lines-some [] rows some = absurd (some refl)
table_lines-some (column ∷ columns) rows some = refl

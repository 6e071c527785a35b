-- One row more, and one column more.
use Rattle.std.proofs.Common.{◌≡◌, ℕ, ◌+◌, ◌<◌, List, [], ◌∷◌, ◌++◌, length, get_or, take, Option, None, Some, refl, sym, ap, ◌∙◌}
use Rattle.std.specs.Prelude.{option_to_list}
use Rattle.std.specs.List.{filter_map}
use Rattle.std.proofs.lemmas.Grind.{flat_map-append}
use Rattle.std.proofs.lemmas.List.{append-nil, get_or_default, take_more}
use Rattle.std.proofs.lemmas.List.Elements.{filter_map-append}
use Rattle.cal_value.specs.declared.record.Rec.{Rec}
use Rattle.cal_rowset.specs.Answers.{nth_row}
use Rattle.cal_rowset.specs.declared.rowset.Column.{Column}
use Rattle.cal_tabfmt.specs.Expand.{expand_line, expand_lines, part_of}

pub lines_more : (columns : Option (List Column)) (rows : List Rec) (i : ℕ) (row : Rec) → i < length rows → row ≡ get_or rows i row
    → expand_lines columns (take i rows) ++ (expand_line columns row ++ 10 ∷ []) ≡ expand_lines columns (take (i + 1) rows)
lines_more columns rows i row l is =
    let line : Rec → List ℕ = λ r. expand_line columns r ++ 10 ∷ [] in
    ap (λ (t : List ℕ). expand_lines columns (take i rows) ++ t) (sym (append-nil (expand_line columns row ++ 10 ∷ [])))
    ∙ sym (flat_map-append line (take i rows) (row ∷ []))
    ∙ ap (λ (r : Rec). expand_lines columns (take i rows ++ r ∷ [])) is
    ∙ ap (expand_lines columns) (sym (take_more rows i row l))

pub lines_at : (columns : Option (List Column)) (rows : List Rec) (i : ℕ) → i < length rows
    → expand_lines columns (take i rows) ++ (expand_line columns (nth_row rows i) ++ 10 ∷ []) ≡ expand_lines columns (take (i + 1) rows)
lines_at columns rows i l = lines_more columns rows i (nth_row rows i) l (get_or_default rows i _ (nth_row rows i) l)

option_one : (o : Option (List ℕ)) → filter_map (λ (x : Option (List ℕ)). x) (o ∷ []) ≡ option_to_list o
option_one None = refl
option_one (Some x) = refl

pub parts_more : (row : Rec) (columns : List Column) (place : ℕ) (column : Column) → place < length columns → column ≡ get_or columns place column
    → filter_map (part_of row) (take (place + 1) columns) ≡ filter_map (part_of row) (take place columns) ++ option_to_list (part_of row column)
parts_more row columns place column l is =
    ap (filter_map (part_of row)) (take_more columns place column l)
    ∙ ap (λ (k : Column). filter_map (part_of row) (take place columns ++ k ∷ [])) (sym is)
    ∙ filter_map-append (part_of row) (take place columns) (column ∷ [])
    ∙ ap (λ (last : List (List ℕ)). filter_map (part_of row) (take place columns) ++ last) (option_one (part_of row column))

-- one row more behind others
pub lines_push : (rows : List Rec) (row : Rec) → expand_lines None rows ++ (expand_line None row ++ 10 ∷ []) ≡ expand_lines None (rows ++ row ∷ [])
lines_push rows row =
    let line : Rec → List ℕ = λ r. expand_line None r ++ 10 ∷ [] in
    ap (λ (t : List ℕ). expand_lines None rows ++ t) (sym (append-nil (expand_line None row ++ 10 ∷ []))) ∙ sym (flat_map-append line rows (row ∷ []))

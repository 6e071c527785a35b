-- The part of a name, by what its name is.
use Rattle.std.proofs.Common.{◌≡◌, ℕ, Bool, true, false, List, [], ◌∷◌, ◌++◌, refl, ap, ◌∙◌, append_assoc, map, Option, None, Some}
use Rattle.std.specs.Prelude.{option_map, option_to_list}
use Rattle.std.specs.List.{cons_option, filter_map, join_with_byte}
use Rattle.std.proofs.lemmas.Bool.{cond-true, cond-false}
use Rattle.std.proofs.lemmas.List.Elements.{filter_map-append}
use Rattle.cal_value.specs.Flat.{flat}
use Rattle.cal_value.specs.declared.record.Rec.{Rec}
use Rattle.cal_value.specs.declared.variant.Variant.{Variant}
use Rattle.cal_rowset.specs.Cells.{cell_of, is_path, values, values_with}
use Rattle.cal_rowset.specs.Filling.{nth_name}
use Rattle.cal_rowset.specs.Hierarchy.{hierarchy}
use Rattle.cal_rowset.specs.Names.{names_of}
use Rattle.cal_tabfmt.specs.Expand.{expand_line, own_column, part, part_of}
use Rattle.cal_tabfmt.specs.Parts.{HasParts}

pub part_of-path : (row : Rec) (name : List ℕ) → is_path name ≡ true → part_of row (own_column name) ≡ option_map (part name) (cell_of (values (hierarchy row)))
part_of-path row name is = ap (λ (vs : List Variant). option_map (part name) (cell_of vs)) (cond-true (is_path name) (values (hierarchy row)) (values_with name (flat row)) is)

pub part_of-other : (row : Rec) (name : List ℕ) → is_path name ≡ false → part_of row (own_column name) ≡ option_map (part name) (cell_of (values_with name (flat row)))
part_of-other row name is = ap (λ (vs : List Variant). option_map (part name) (cell_of vs)) (cond-false (is_path name) (values (hierarchy row)) (values_with name (flat row)) is)

-- the parts of names, by their places
abbrev pub parts_at : Rec → List (List ℕ) → List ℕ → List (List ℕ)
parts_at row names places = filter_map (λ place. part_of row (own_column (nth_name names place))) places

option_one : {A : Type 0} (o : Option A) → filter_map (λ (x : Option A). x) (o ∷ []) ≡ option_to_list o
option_one None = refl
option_one (Some x) = refl

pub parts_at-push : (row : Rec) (names : List (List ℕ)) (places : List ℕ) (place : ℕ)
    → parts_at row names (places ++ place ∷ []) ≡ parts_at row names places ++ option_to_list (part_of row (own_column (nth_name names place)))
parts_at-push row names places place =
    filter_map-append (λ p. part_of row (own_column (nth_name names p))) places (place ∷ [])
    ∙ ap (λ (last : List (List ℕ)). parts_at row names places ++ last) (option_one (part_of row (own_column (nth_name names place))))

-- as the line has them
pub parts_at-names : (row : Rec) (names : List (List ℕ)) (places : List ℕ) → parts_at row names places ≡ filter_map (part_of row) (map own_column (map (nth_name names) places))
parts_at-names row names [] = refl
parts_at-names row names (place ∷ places) = ap (cons_option (part_of row (own_column (nth_name names place)))) (parts_at-names row names places)

-- a line with the part of a name at a place
module _ (row : Rec) (names : List (List ℕ)) (place : ℕ) (name before new : List ℕ) (first : Bool) (parts : List (List ℕ)) (is : name ≡ nth_name names place) where
  pub HasParts-path : is_path name ≡ true → HasParts before new first (parts ++ option_to_list (option_map (part name) (cell_of (values (hierarchy row)))))
      → HasParts before new first (parts ++ option_to_list (part_of row (own_column (nth_name names place))))
  HasParts-path path has = rw (← is, part_of-path row name path) has

  pub HasParts-other : is_path name ≡ false → HasParts before new first (parts ++ option_to_list (option_map (part name) (cell_of (values_with (nth_name names place) (flat row)))))
      → HasParts before new first (parts ++ option_to_list (part_of row (own_column (nth_name names place))))
  HasParts-other other has =
      let same : HasParts before new first (parts ++ option_to_list (option_map (part name) (cell_of (values_with name (flat row))))) = rw (← is) at has in
      rw (← is, part_of-other row name other) same

-- the line of all names, with its newline
pub line_written : (row : Rec) (names : List (List ℕ)) (used : List ℕ) (before out new : List ℕ) (first : Bool) → map (nth_name names) used ≡ names_of row
    → HasParts before out first (parts_at row names used) → new ≡ out ++ 10 ∷ [] → new ≡ before ++ (expand_line None row ++ 10 ∷ [])
line_written row names used before out new first seen has is =
    let parts : parts_at row names used ≡ filter_map (part_of row) (map own_column (names_of row)) =
    parts_at-names row names used ∙ ap (λ (ns : List (List ℕ)). filter_map (part_of row) (map own_column ns)) seen in
    is ∙ ap (λ (t : List ℕ). t ++ 10 ∷ []) has.is ∙ append_assoc before (join_with_byte 44 (parts_at row names used)) (10 ∷ [])
    ∙ ap (λ (ps : List (List ℕ)). before ++ (join_with_byte 44 ps ++ 10 ∷ [])) parts

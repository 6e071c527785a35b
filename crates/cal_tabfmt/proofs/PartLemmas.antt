-- A line with one part more.
use Rattle.std.proofs.Common.{◌≡◌, ℕ, Bool, true, false, List, [], ◌∷◌, ◌++◌, refl, sym, ap, ◌∙◌, append_assoc, if◌then◌else◌}
use Rattle.std.specs.Prelude.{option_map, option_to_list}
use Rattle.std.specs.List.{join_with_byte}
use Rattle.std.proofs.lemmas.List.{append-nil}
use Rattle.cal_value.specs.declared.variant.Variant.{Variant}
use Rattle.cal_rowset.specs.Cells.{cell_of, joined_texts}
use Rattle.cal_rowset.specs.Filling.{Shows, is_nothing}
use Rattle.cal_rowset.specs.declared.cell.Cell.{Cell}
use Rattle.cal_rowset.proofs.Showing.{some_is_something, join-push}
use Rattle.cal_tabfmt.specs.Expand.{part}
use Rattle.cal_tabfmt.specs.Parts.{HasParts, no_part}

-- the comma before a part
abbrev pub comma : Bool → List ℕ
comma is_first = if is_first then [] else 44 ∷ []

some_part : (parts : List (List ℕ)) (p : List ℕ) → false ≡ no_part (parts ++ p ∷ [])
some_part [] p = refl
some_part (q ∷ parts) p = refl

-- one part more
pub HasParts-push : (before text : List ℕ) (is_first : Bool) (parts : List (List ℕ)) (p new : List ℕ) → HasParts before text is_first parts → new ≡ text ++ (comma is_first ++ p)
    → HasParts before new false (parts ++ p ∷ [])
HasParts-push before text is_first [] p new has is = record {
  is = is ∙ ap (λ (front : List ℕ). front ++ (comma is_first ++ p)) (has.is ∙ append-nil before) ∙ ap (λ (b : Bool). before ++ (comma b ++ p)) has.first;
  first = refl;
}
HasParts-push before text is_first (q ∷ parts) p new has is = record {
  is = is ∙ ap (λ (front : List ℕ). front ++ (comma is_first ++ p)) has.is
      ∙ ap (λ (b : Bool). (before ++ join_with_byte 44 (q ∷ parts)) ++ (comma b ++ p)) has.first
      ∙ append_assoc before (join_with_byte 44 (q ∷ parts)) (44 ∷ p)
      ∙ ap (λ (rest : List ℕ). before ++ rest) (sym (join-push 44 q parts p));
  first = some_part (q ∷ parts) p;
}

-- nothing of an absent cell
pub HasParts-absent : (before text : List ℕ) (is_first : Bool) (parts : List (List ℕ)) (cell : Cell) (header : List ℕ) (vs : List Variant) → Shows cell vs → is_nothing cell.content ≡ true
    → HasParts before text is_first parts → HasParts before text is_first (parts ++ option_to_list (option_map (part header) (cell_of vs)))
HasParts-absent before text is_first parts cell header [] shows nothing has = rw (append-nil parts) has
HasParts-absent before text is_first parts cell header (v ∷ vs) shows nothing has =
    let told : true ≡ false = sym nothing ∙ ap is_nothing shows.content ∙ some_is_something v vs in cc

-- the part of a cell that is there
pub HasParts-part : (before text new : List ℕ) (is_first : Bool) (parts : List (List ℕ)) (cell : Cell) (header : List ℕ) (vs : List Variant) → Shows cell vs → is_nothing cell.content ≡ false
    → HasParts before text is_first parts → new ≡ text ++ (comma is_first ++ part header cell.text)
    → HasParts before new false (parts ++ option_to_list (option_map (part header) (cell_of vs)))
HasParts-part before text new is_first parts cell header [] shows something has is =
    let told : true ≡ false = sym (ap is_nothing shows.content) ∙ something in cc
HasParts-part before text new is_first parts cell header (v ∷ vs) shows something has is =
    HasParts-push before text is_first parts (part header (joined_texts (v ∷ vs))) new has (is ∙ ap (λ (t : List ℕ). text ++ (comma is_first ++ part header t)) shows.text)

-- what three calls appended
pub part_appended : (out one two three : List ℕ) (k h t : List ℕ) → one ≡ out ++ k → two ≡ one ++ (h ++ 61 ∷ []) → three ≡ two ++ t → three ≡ out ++ (k ++ (h ++ 61 ∷ t))
part_appended out one two three k h t a b c =
    c ∙ ap (λ (x : List ℕ). x ++ t) (b ∙ ap (λ (x : List ℕ). x ++ (h ++ 61 ∷ [])) a) ∙ simp append_assoc

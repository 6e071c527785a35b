-- The cells of a row in the columns of an answer.
use Rattle.std.proofs.Common.{◌≡◌, ℕ, ◌+◌, ◌<◌, ◌≤◌, true, List, [], ◌∷◌, ◌++◌, ◌⊎◌, inl, inr, Option, None, Some, is_none, length, get_or, refl, sym, ap, ◌∙◌, subst, arith}
use Rattle.std.proofs.lemmas.Bool.{cases_lt, cond-true, cond-false}
use Rattle.std.proofs.lemmas.List.{get_or_append_left, get_or_push}
use Rattle.std.proofs.lemmas.List.Folds.{list_any_at}
use Rattle.std.proofs.lemmas.Option.{get_or_from_slice_get, slice_get_within}
use Rattle.cal_value.specs.Flat.{flat}
use Rattle.cal_value.specs.declared.attribute.Entry.{Entry}
use Rattle.cal_value.specs.declared.record.Rec.{Rec}
use Rattle.cal_value.specs.declared.variant.Variant.{Variant}
use Rattle.cal_context.specs.Lists.{IsFront}
use Rattle.cal_context.proofs.ListLemmas.{slice_get-IsFront}
use Rattle.cal_rowset.specs.Cells.{is_path, shown_values, values, values_with}
use Rattle.cal_rowset.specs.Filling.{Holds, Shows, names, nth_cell, nth_name}
use Rattle.cal_rowset.specs.Hierarchy.{hierarchy}
use Rattle.cal_rowset.specs.Known.{is_known, known_entries}
use Rattle.cal_rowset.specs.Showing.{IsFor, IsPlaceOf, ShowsRow, cell_for, nth_column}
use Rattle.cal_rowset.specs.Texts.{is_same}
use Rattle.cal_rowset.specs.declared.rowset.Column.{Column}
use Rattle.cal_rowset.specs.declared.shown_row.ShownRow.{ShownRow}
use Rattle.cal_rowset.proofs.Knowing.{known_at}
use Rattle.cal_rowset.proofs.Seen.{either_way, same_text}

-- a place stays one while names are added
pub IsPlaceOf-front : (old new : List (List ℕ)) (name : List ℕ) (place : Option ℕ) → IsFront old new → IsPlaceOf old name place → IsPlaceOf new name place
IsPlaceOf-front old new name None front is = is
IsPlaceOf-front old new name (Some p) front is = (is.0, slice_get-IsFront old new p name front is.1)

-- one column more
pub placed-push : (columns : List Column) (old new : List (List ℕ)) (places : List (Option ℕ)) (place : Option ℕ) (n : ℕ) → length places ≡ n → IsFront old new
    → ((k : ℕ) → k < n → IsPlaceOf old (nth_column columns k).name (get_or places k None)) → IsPlaceOf new (nth_column columns n).name place
    → (k : ℕ) → k < n + 1 → IsPlaceOf new (nth_column columns k).name (get_or (places ++ place ∷ []) k None)
placed-push columns old new places place n counted front before here k l = by (cases_lt k n)
  where
    by : ((k < n) ⊎ (n ≤ k)) → IsPlaceOf new (nth_column columns k).name (get_or (places ++ place ∷ []) k None)
    by (inl less) = rw (get_or_append_left places (place ∷ []) None k (omega (arith, less, counted))) (IsPlaceOf-front old new (nth_column columns k).name (get_or places k None) front (before k less))
    by (inr past) =
        let is : n ≡ k = omega (arith, l, past) in
        rw (get_or_push places place None k (counted ∙ is)) (subst (λ (m : ℕ). IsPlaceOf new (nth_column columns m).name place) is here)

-- the entries whose names are known have all that have a known name
pub values_with-known : (names : List (List ℕ)) (name : List ℕ) → is_known names name ≡ true → (es : List Entry) → values_with name (known_entries names es) ≡ values_with name es
values_with-known names name known [] = refl
values_with-known names name known (e ∷ es) =
    elim (either_way (is_same e.attr.name name)) [
      | inl same ↦ (
          let kept : is_known names e.attr.name ≡ true = ap (is_known names) (same_text e.attr.name name same) ∙ known in
          rw (kept, same) (ap (λ (vs : List Variant). e.value ∷ vs) (values_with-known names name known es)))
      | inr other ↦ elim (either_way (is_known names e.attr.name)) [
        | inl kept ↦ rw (kept, other) (values_with-known names name known es)
        | inr left ↦ rw (left, other) (values_with-known names name known es)
      ]
    ]

-- the cell of a place shows what the name shows of the row
pub place_shows : (s : ShownRow) (row : Rec) (name : List ℕ) (place : Option ℕ) → IsPlaceOf (names s.cells) name place → (place ≡ None → Shows s.hierarchy (values (hierarchy row)))
    → Holds s.cells (known_entries (names s.cells) (flat row)) → Shows (cell_for s place) (shown_values row name)
place_shows s row name None is shows holds = rw (cond-true (is_path name) (values (hierarchy row)) (values_with name (flat row)) is) (shows refl)
place_shows s row name (Some p) is shows holds =
    let within = slice_get_within (names s.cells) p name is.1 in
    let named : nth_name (names s.cells) p ≡ name = get_or_from_slice_get (names s.cells) p name [] is.1 in
    let known = known_at (names s.cells) name p is.1 in
    let all : values_with (nth_name (names s.cells) p) (known_entries (names s.cells) (flat row)) ≡ shown_values row name =
    ap (λ (n : List ℕ). values_with n (known_entries (names s.cells) (flat row))) named ∙ values_with-known (names s.cells) name known (flat row)
    ∙ sym (cond-false (is_path name) (values (hierarchy row)) (values_with name (flat row)) is.0) in
    subst (Shows (nth_cell s.cells.cells.items p)) all (holds.shows p within)

-- so all columns show the row
pub row_shows : (s : ShownRow) (columns : List Column) (row : Rec) → IsFor s columns → (s.shows_path ≡ true → Shows s.hierarchy (values (hierarchy row)))
    → Holds s.cells (known_entries (names s.cells) (flat row)) → ShowsRow s columns row
row_shows s columns row is shows holds = record {
  is = is;
  shows = λ k l. place_shows s row (nth_column columns k).name (get_or s.places.items k None) (is.places k l)
      (λ none. shows (is.path ∙ list_any_at is_none s.places.items k None (omega (arith, is.counted, l)) (ap is_none none))) holds;
}

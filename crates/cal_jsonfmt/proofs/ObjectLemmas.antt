-- What is written of an object while its keys are gone through, and of an array with its rows.
use Rattle.std.proofs.Common.{◌≡◌, ℕ, ◌+◌, ◌<◌, List, [], ◌∷◌, ◌++◌, length, get_or, map, take, Option, None, Some, sym, ap, ◌∙◌, subst, arith}
use Rattle.std.proofs.lemmas.List.{append-nil, length-map, length-take-le, map-append, take_more}
use Rattle.json.specs.Written.{Written}
use Rattle.cal_value.specs.declared.record.Rec.{Rec}
use Rattle.cal_rowset.specs.declared.rowset.Column.{Column}
use Rattle.cal_jsonfmt.specs.Choosing.{members_of, value_at}
use Rattle.cal_jsonfmt.specs.Json.{member_json, row_json}
use Rattle.cal_jsonfmt.specs.Writing.{WritesEach, WritesIf, WritesValue}
use Rattle.cal_jsonfmt.proofs.ChoosingLemmas.{members_of-push}
use Rattle.cal_jsonfmt.proofs.WritingLemmas.{WritesEach-more}

-- the texts of the members of keys, for which these columns are chosen
abbrev pub texts_of : List Column → Rec → List (List ℕ) → List (Option ℕ) → List (List ℕ)
texts_of columns row keys chosen = map member_json (members_of keys (map (value_at columns row) chosen))

module _ (columns : List Column) (row : Rec) (keys : List (List ℕ)) (chosen : List (Option ℕ)) (place : ℕ) (key : List ℕ) (column : Option ℕ) (within : place < length keys)
    (counted : length chosen ≡ length keys) (is_key : key ≡ get_or keys place key) (is_column : column ≡ get_or chosen place None) where
  abbrev value : Option ℕ → Option (List ℕ)
  value = value_at columns row

  abbrev before : List (List ℕ)
  before = texts_of columns row (take place keys) (take place chosen)

  keys-more : take (place + 1) keys ≡ take place keys ++ key ∷ []
  keys-more = take_more keys place key within ∙ ap (λ k. take place keys ++ k ∷ []) (sym is_key)

  chosen-more : take (place + 1) chosen ≡ take place chosen ++ column ∷ []
  chosen-more = take_more chosen place None (omega (arith, within, counted)) ∙ ap (λ k. take place chosen ++ k ∷ []) (sym is_column)

  texts-more : texts_of columns row (take (place + 1) keys) (take (place + 1) chosen) ≡ before ++ map member_json (members_of (key ∷ []) (value column ∷ []))
  texts-more =
      (λ j. texts_of columns row (keys-more j) (chosen-more j))
      ∙ ap (λ values. map member_json (members_of (take place keys ++ key ∷ []) values)) (map-append value (take place chosen) (column ∷ []))
      ∙ ap (map member_json) (members_of-push (take place keys) (map value (take place chosen)) key (value column)
      (length-take-le place keys (omega (arith, within))
      ∙ sym (length-map (take place chosen) value ∙ length-take-le place chosen (omega (arith, within, counted)))))
      ∙ map-append member_json (members_of (take place keys) (map value (take place chosen))) (members_of (key ∷ []) (value column ∷ []))

  pub object-more : (start now new : Written) → WritesEach start now before → WritesIf now new key (value column)
      → WritesEach start new (texts_of columns row (take (place + 1) keys) (take (place + 1) chosen))
  object-more start now new each writes = subst (λ texts. WritesEach start new texts) (sym texts-more) (by (value column) writes)
    where
      by : (v : Option (List ℕ)) → WritesIf now new key v → WritesEach start new (before ++ map member_json (members_of (key ∷ []) (v ∷ [])))
      by None same = subst (λ written. WritesEach start written (before ++ [])) (sym same) (subst (λ texts. WritesEach start now texts) (sym (append-nil before)) each)
      by (Some v) writes = WritesEach-more start now new before (member_json (key, v)) each writes

-- one row more
pub rows-more : (columns : List Column) (rows : List Rec) (place : ℕ) (start now new : Written) → place < length rows → WritesEach start now (map (row_json columns) (take place rows))
    → WritesValue now new (row_json columns (get_or rows place (record { paths = []; imms = [] }))) → WritesEach start new (map (row_json columns) (take (place + 1) rows))
rows-more columns rows place start now new within each writes =
    let row : Rec = record { paths = []; imms = [] } in
    subst (λ texts. WritesEach start new texts)
    (sym (ap (map (row_json columns)) (take_more rows place row within) ∙ map-append (row_json columns) (take place rows) (get_or rows place row ∷ [])))
    (WritesEach-more start now new (map (row_json columns) (take place rows)) (row_json columns (get_or rows place row)) each writes)

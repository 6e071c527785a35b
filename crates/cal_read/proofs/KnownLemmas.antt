-- Attributes of a row that are known by their text.
use Rattle.std.proofs.Common.{◌≡◌, ◌≢◌, ◌≤◌, ℕ, List, [], ◌∷◌, ◌++◌, length, drop, sym, ap, ◌∙◌, subst, arith}
use Rattle.std.specs.Prelude.{Ok, codes}
use Rattle.std.specs.List.{between}
use Rattle.std.proofs.lemmas.List.{append_cancel_right, length-append, length-drop}
use Rattle.std.proofs.lemmas.List.Folds.{drop_split}
use Rattle.cal_line.specs.Fields.{IsFields}
use Rattle.cal_line.proofs.FieldSteps.{fields_of-IsFields}
use Rattle.cal_line.proofs.Written.{IsFields-written}
use Rattle.cal_read.specs.Fields.{each, id_of, values_of}
use Rattle.cal_read.specs.Known.{NamesIds, SpellsIds, fields_or_none, texts_in}
use Rattle.cal_read.specs.Usual.{AreValues, IsThere, written_values}
use Rattle.cal_read.proofs.UsualRowLemmas.{attr_field, pieces-values, some_byte}

-- the values are those that were written
texts_in-written : (texts : List (List ℕ)) → texts ≢ [] → texts_in (written_values texts) ≡ texts
unfolding texts_in
texts_in-written texts some =
    ap (λ o. values_of (codes "attr") (fields_or_none o))
    (fields_of-IsFields (codes "attr" ++ written_values texts) (attr_field texts ∷ [])
    (subst (λ (l : List ℕ). IsFields l (attr_field texts ∷ [])) (pieces-values (codes "attr") texts)
    (IsFields-written (attr_field texts) [] (record { key = some_byte 97 _; values = some }, tt))))

module _ (line : List ℕ) (start end : ℕ) (texts : List (List ℕ)) (within : start ≤ length line) (are : AreValues line start end texts) where
  pub values_order : start ≤ end
  values_order = omega (arith, ap length are.read, length-drop start line, length-drop end line, length-append (written_values texts) (drop end line), are.within, within)

  pub values_between : between start end line ≡ written_values texts
  values_between = append_cancel_right (between start end line) (written_values texts) (drop end line) (sym (drop_split line start end values_order) ∙ are.read)

-- what stands between two places is kept
module _ (line : List ℕ) (start end : ℕ) (ids : List ℕ) (within : start ≤ length line) (is : SpellsIds line start end ids) where
  kept_text : between start end line ≡ written_values is.read.texts
  kept_text = values_between line start end is.read.texts within is.read.values

  pub kept_texts : texts_in (between start end line) ≡ is.read.texts
  kept_texts = ap texts_in kept_text ∙ texts_in-written is.read.texts is.some

  pub kept_written : written_values (texts_in (between start end line)) ≡ between start end line
  kept_written = ap written_values kept_texts ∙ sym kept_text

  pub kept_some : texts_in (between start end line) ≢ []
  kept_some none = is.some (sym kept_texts ∙ none)

  pub kept_read : each id_of (texts_in (between start end line)) ≡ Ok ids
  kept_read = ap (each id_of) kept_texts ∙ is.read.read

-- what is known stands in a line
pub known_there : (line text : List ℕ) (start last end : ℕ) (ids : List ℕ) → written_values (texts_in text) ≡ text → texts_in text ≢ [] → each id_of (texts_in text) ≡ Ok ids
    → IsThere line start text last → IsThere line last (codes ",data") end → NamesIds line start end ids
known_there line text start last end ids written some read there key = record {
  last = last;
  spelled = record {
    read = record {
      texts = texts_in text;
      values = record { within = there.within; read = there.read ∙ ap (λ (l : List ℕ). l ++ drop last line) (sym written) };
      read = read;
    };
    some = some;
  };
  key = key;
}

-- Rows that are read in one go: what stands in their lines.
use Rattle.std.proofs.Common.{◌≡◌, ◌≢◌, ◌<◌, ◌≤◌, ℕ, ◌+◌, Bool, true, false, true≢false, ◌||◌, eqb, List, [], ◌∷◌, ◌++◌, length, map, get_or, drop, Some, refl, sym, ap, ◌∙◌, subst, append_assoc, append-nil, length-append, arith}
use Rattle.std.specs.Prelude.{Ok}
use Rattle.std.specs.List.{All, between, zip}
use Rattle.std.proofs.lemmas.List.{drop_more, length-drop, length-map, map-append}
use Rattle.std.proofs.lemmas.List.Edits.{between_more, between_none}
use Rattle.std.proofs.lemmas.List.Elements.{All-push}
use Rattle.std.proofs.lemmas.List.Folds.{drop_split}
use Rattle.cal_context.specs.Snapshots.{entry_of as imm_entry}
use Rattle.cal_context.specs.Tree.{Tree, attribute_at}
use Rattle.cal_context.specs.declared.numbers.AttributeNumber.{AttributeNumber}
use Rattle.cal_context.specs.declared.snapshot.Immediate.{Immediate}
use Rattle.cal_line.specs.Escapes.{escaped, escaped_byte}
use Rattle.cal_line.proofs.EscapeSteps.{escaped-append}
use Rattle.cal_value.specs.Reading.{value_of}
use Rattle.cal_value.specs.declared.attribute.Attribute.{Attribute}
use Rattle.cal_value.specs.declared.variant.Variant.{Variant}
use Rattle.cal_read.specs.Fields.{each, id_of, or_fault}
use Rattle.cal_read.specs.RecordLines.{entry_of}
use Rattle.cal_read.specs.Usual.{IsPlain, AreValues, ReadsIds, ReadsImms, written_values}
use Rattle.cal_read.specs.declared.kind.StreamKind.TheVariants as kind
use Rattle.cal_read.proofs.ColumnLemmas.{entry_made}
use Rattle.cal_read.proofs.EachLemmas.{each-push}

-- ---- text that is written as it is

or_first : (p q : Bool) → (p || q) ≡ false → p ≡ false
or_first true q h = h
or_first false q h = refl

or_second : (p q : Bool) → (p || q) ≡ false → q ≡ false
or_second true q h = absurd (true≢false h)
or_second false q h = h

plain_byte : (b : ℕ) → (eqb b 10 || (eqb b 92 || eqb b 44 || eqb b 61)) ≡ false → escaped_byte b ≡ b ∷ []
plain_byte b none =
    let newline : eqb b 10 ≡ false = or_first (eqb b 10) (eqb b 92 || eqb b 44 || eqb b 61) none in
    let special : (eqb b 92 || eqb b 44 || eqb b 61) ≡ false = or_second (eqb b 10) (eqb b 92 || eqb b 44 || eqb b 61) none in
    simp (newline, special)

pub plain_none : (line : List ℕ) (start : ℕ) → escaped (between start start line) ≡ between start start line
plain_none line start = ap escaped (between_none line start) ∙ sym (between_none line start)

pub plain_more : (line : List ℕ) (start place : ℕ) → start ≤ place → place < length line → (eqb (get_or line place 0) 10 || (eqb (get_or line place 0) 92 || eqb (get_or line place 0) 44 || eqb (get_or line place 0) 61)) ≡ false
    → escaped (between start place line) ≡ between start place line → escaped (between start (place + 1) line) ≡ between start (place + 1) line
plain_more line start place order within none so_far =
    let more = between_more line start place 0 order within in
    let byte = plain_byte (get_or line place 0) none in
    ap escaped more
    ∙ escaped-append (between start place line) (get_or line place 0 ∷ [])
    ∙ (λ j. so_far j ++ (byte j ++ []))
    ∙ sym more

-- ---- values, each behind an equals sign

written_values-push : (texts : List (List ℕ)) (text : List ℕ) → written_values (texts ++ text ∷ []) ≡ written_values texts ++ (61 ∷ escaped text)
written_values-push [] text = ap (λ (l : List ℕ). 61 ∷ l) (append-nil (escaped text))
written_values-push (first ∷ texts) text =
    ap (λ (l : List ℕ). 61 ∷ (escaped first ++ l)) (written_values-push texts text)
    ∙ ap (λ (l : List ℕ). 61 ∷ l) (sym (append_assoc (escaped first) (written_values texts) (61 ∷ escaped text)))

pub values_none : (line : List ℕ) (start : ℕ) → start ≤ length line → AreValues line start start []
values_none line start within = record { within = within; read = refl }

pub values_more : (line : List ℕ) (start place end : ℕ) (texts : List (List ℕ)) → AreValues line start place texts → place < length line → get_or line place 0 ≡ 61 → IsPlain line (place + 1) end
    → AreValues line start end (texts ++ between (place + 1) end line ∷ [])
values_more line start place end texts so_far within sign plain =
    let text = between (place + 1) end line in
    let rest = drop end line in
    record {
      within = plain.within;
      read = so_far.read
          ∙ ap (λ (l : List ℕ). written_values texts ++ l)
          (drop_more line place 0 within ∙ ap (λ (b : ℕ). b ∷ drop (place + 1) line) sign
          ∙ ap (λ (l : List ℕ). 61 ∷ l) (drop_split line (place + 1) end plain.order ∙ ap (λ (l : List ℕ). l ++ rest) (sym plain.written)))
          ∙ sym (ap (λ (l : List ℕ). l ++ rest) (written_values-push texts text) ∙ append_assoc (written_values texts) (61 ∷ escaped text) rest);
    }

-- values that end where they begin are none
pub some_values : (line : List ℕ) (start end : ℕ) (texts : List (List ℕ)) → start ≤ length line → AreValues line start end texts → end ≢ start → texts ≢ []
some_values line start end texts within are apart none =
    let same : drop start line ≡ drop end line = are.read ∙ ap (λ (l : List (List ℕ)). written_values l ++ drop end line) none in
    apart (same_place line start end within are.within (ap length same))
  where
    same_place : (line : List ℕ) (start end : ℕ) → start ≤ length line → end ≤ length line → length (drop start line) ≡ length (drop end line) → end ≡ start
    same_place line start end within at same = omega (arith, length-drop start line, length-drop end line)

-- ---- ids

pub ids_more : (line : List ℕ) (start place end : ℕ) (ids new : List ℕ) (id : ℕ) → ReadsIds line start place ids → place < length line → get_or line place 0 ≡ 61 → IsPlain line (place + 1) end
    → id_of (between (place + 1) end line) ≡ Ok id → new ≡ ids ++ id ∷ [] → ReadsIds line start end new
ids_more line start place end ids new id so_far within sign plain is items = record {
  texts = so_far.texts ++ between (place + 1) end line ∷ [];
  values = values_more line start place end so_far.texts so_far.values within sign plain;
  read = each-push id_of so_far.texts (between (place + 1) end line) ids id so_far.read is ∙ ap Ok (sym items);
}

-- ---- immediates

zip-push : {A B : Type 0} (xs : List A) (ys : List B) (x : A) (y : B) → length ys ≡ length xs → zip (xs ++ x ∷ []) (ys ++ y ∷ []) ≡ zip xs ys ++ (x, y) ∷ []
zip-push [] [] x y e = refl
zip-push [] (z ∷ ys) x y e = absurd (omega arith)
zip-push (z ∷ xs) [] x y e = absurd (omega arith)
zip-push (w ∷ xs) (z ∷ ys) x y e = ap (λ l. (w, z) ∷ l) (zip-push xs ys x y (omega arith))

pub imms_none : (t : Tree) (numbers : List AttributeNumber) (line : List ℕ) (start : ℕ) (imms : List Immediate) → start ≤ length line → numbers ≡ [] → imms ≡ [] → ReadsImms t numbers line start start imms
imms_none t numbers line start imms within no_number none =
    rw (no_number, none) (record { texts = []; values = values_none line start within; count = refl; known = λ i x h. absurd (omega (arith, h)); read = refl })

module _ (t : Tree) (numbers : List AttributeNumber) (number : AttributeNumber) where
  pub imms_more : (line : List ℕ) (start place end : ℕ) (imms new : List Immediate) (v : Variant) → ReadsImms t numbers line start place imms → number.0 < length t.attributes
      → place < length line → get_or line place 0 ≡ 61 → IsPlain line (place + 1) end → value_of (attribute_at t number).kind (between (place + 1) end line) ≡ Some v
      → new ≡ imms ++ record { attribute = number; value = v } ∷ [] → ReadsImms t (numbers ++ number ∷ []) line start end new
  imms_more line start place end imms new v so_far known within sign plain is items =
      let text = between (place + 1) end line in
      let front = map (attribute_at t) numbers in
      let even : length so_far.texts ≡ length front = so_far.count ∙ sym (length-map numbers (attribute_at t)) in
      let pairs : zip (map (attribute_at t) (numbers ++ number ∷ [])) (so_far.texts ++ text ∷ []) ≡ zip front so_far.texts ++ (attribute_at t number, text) ∷ [] =
      ap (λ (l : List Attribute). zip l (so_far.texts ++ text ∷ [])) (map-append (attribute_at t) numbers (number ∷ []))
      ∙ zip-push front so_far.texts (attribute_at t number) text even
      in
      record {
        texts = so_far.texts ++ text ∷ [];
        values = values_more line start place end so_far.texts so_far.values within sign plain;
        count = length-append so_far.texts (text ∷ []) ∙ ap (λ (n : ℕ). n + 1) so_far.count ∙ sym (length-append numbers (number ∷ []));
        known = subst (All (λ i. i.attribute.0 < length t.attributes)) (sym items)
            (All-push (λ i. i.attribute.0 < length t.attributes) imms (record { attribute = number; value = v }) so_far.known known);
        read = ap (each entry_of) pairs
            ∙ each-push entry_of (zip front so_far.texts) (attribute_at t number, text) (map (imm_entry t) imms) (record { attr = attribute_at t number; value = v }) so_far.read
            (entry_made (attribute_at t number) text v (ap (or_fault kind.BadValue) is))
            ∙ ap Ok (sym (ap (map (imm_entry t)) items ∙ map-append (imm_entry t) imms (record { attribute = number; value = v } ∷ [])));
      }

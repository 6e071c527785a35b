-- Rows that are read in one go: their fields, and the record that they are.
use Rattle.std.proofs.Common.{◌≡◌, ◌≢◌, ℕ, false, List, [], ◌∷◌, ◌++◌, length, map, drop, take, Some, refl, sym, ap, ◌∙◌, subst, append_assoc, append-nil, arith}
use Rattle.std.specs.Prelude.{Result, Ok, codes}
use Rattle.std.specs.List.{zip}
use Rattle.std.proofs.lemmas.List.{append_cancel_right, length-map, take-append-drop}
use Rattle.cal_context.specs.Snapshots.{entry_of as imm_entry}
use Rattle.cal_context.specs.Tree.{Tree, attribute_at}
use Rattle.cal_context.specs.declared.numbers.AttributeNumber.{AttributeNumber}
use Rattle.cal_context.specs.declared.snapshot.Snapshot.{Snapshot}
use Rattle.cal_line.specs.Escapes.{escaped}
use Rattle.cal_line.specs.Fields.{IsFields, fields_of}
use Rattle.cal_line.specs.Lines.{HasNoNewline}
use Rattle.cal_line.specs.WrittenFields.{written_pieces, written_fields}
use Rattle.cal_line.specs.declared.field.Field.{Field}
use Rattle.cal_line.proofs.FieldSteps.{fields_of-IsFields}
use Rattle.cal_line.proofs.Written.{IsFields-written}
use Rattle.cal_value.specs.declared.attribute.Attribute.{Attribute}
use Rattle.cal_read.specs.Columns.{AreEnds, AreNumbers}
use Rattle.cal_read.specs.Fields.{each, id_of, repeats_key, sort_of}
use Rattle.cal_read.specs.NodeLines.{known, as_attribute}
use Rattle.cal_read.specs.Nodes.{Named, Node}
use Rattle.cal_read.specs.RecordLines.{entry_of, record_of_ids, record_of}
use Rattle.cal_read.specs.Usual.{AreColumns, IsLineEnd, IsUsualRow, ReadsImms, written_head, written_values}
use Rattle.cal_read.specs.declared.end.LineEnd as ends
use Rattle.cal_read.specs.declared.sort.Sort.TheVariants.{OfRow}
use Rattle.cal_read.proofs.EachLemmas.{each-length}
use Rattle.cal_read.proofs.NewlineLemmas.{no_newline-fields}
use Rattle.cal_read.proofs.RecordLemmas.{by_ids, filled}

-- the fields of such a row
abbrev rec_field : Field
rec_field = record { key = codes "__rec"; values = codes "ctx" ∷ [] }

abbrev ref_field : List (List ℕ) → Field
ref_field texts = record { key = codes "ref"; values = texts }

abbrev pub attr_field : List (List ℕ) → Field
attr_field texts = record { key = codes "attr"; values = texts }

abbrev data_field : List (List ℕ) → Field
data_field texts = record { key = codes "data"; values = texts }

abbrev usual_fields : List (List ℕ) → List (List ℕ) → List (List ℕ) → List Field
usual_fields [] ids texts = rec_field ∷ attr_field ids ∷ data_field texts ∷ []
usual_fields (ref ∷ refs) ids texts = rec_field ∷ ref_field (ref ∷ refs) ∷ attr_field ids ∷ data_field texts ∷ []

-- how they are written
pub pieces-values : (key : List ℕ) (values : List (List ℕ)) → written_pieces key values ≡ escaped key ++ written_values values
pieces-values key [] = sym (append-nil (escaped key))
pieces-values key (value ∷ values) = ap (λ (l : List ℕ). escaped key ++ 61 ∷ l) (pieces-values value values)

module _ (ids texts : List (List ℕ)) where
  behind_head : written_fields (attr_field ids) (data_field texts ∷ []) ≡ codes "attr" ++ (written_values ids ++ (codes ",data" ++ written_values texts))
  behind_head = λ j. pieces-values (codes "attr") ids j ++ 44 ∷ pieces-values (codes "data") texts j

  without_refs : written_head [] ++ (codes "attr" ++ (written_values ids ++ (codes ",data" ++ written_values texts)))
      ≡ written_fields rec_field (attr_field ids ∷ data_field texts ∷ [])
  without_refs = ap (λ (l : List ℕ). codes "__rec=ctx," ++ l) (sym behind_head)

  with_refs : (ref : List ℕ) (refs : List (List ℕ)) → written_head (ref ∷ refs) ++ (codes "attr" ++ (written_values ids ++ (codes ",data" ++ written_values texts)))
      ≡ written_fields rec_field (ref_field (ref ∷ refs) ∷ attr_field ids ∷ data_field texts ∷ [])
  with_refs ref refs =
      ap (λ (l : List ℕ). codes "__rec=ctx,ref" ++ l)
      (append_assoc (written_values (ref ∷ refs)) (44 ∷ []) (codes "attr" ++ (written_values ids ++ (codes ",data" ++ written_values texts)))
      ∙ ap (λ (l : List ℕ). written_values (ref ∷ refs) ++ 44 ∷ l) (sym behind_head))
      ∙ sym (ap (λ (l : List ℕ). codes "__rec=ctx," ++ (l ++ 44 ∷ written_fields (attr_field ids) (data_field texts ∷ []))) (pieces-values (codes "ref") (ref ∷ refs)))

pub some_byte : (b : ℕ) (bytes : List ℕ) → (b ∷ bytes) ≢ []
some_byte b bytes e = cc

some_text : (text : List ℕ) (texts : List (List ℕ)) → (text ∷ texts) ≢ []
some_text text texts e = cc

fields_are : (line : List ℕ) (refs ids texts : List (List ℕ)) → line ≡ written_head refs ++ (codes "attr" ++ (written_values ids ++ (codes ",data" ++ written_values texts)))
    → ids ≢ [] → texts ≢ [] → fields_of line ≡ Some (usual_fields refs ids texts)
fields_are line [] ids texts is some_id some =
    fields_of-IsFields line (usual_fields [] ids texts)
    (subst (λ (l : List ℕ). IsFields l (usual_fields [] ids texts)) (sym (is ∙ without_refs ids texts))
    (IsFields-written rec_field (attr_field ids ∷ data_field texts ∷ []) (
      record { key = some_byte 95 _; values = some_text _ _ },
      (record { key = some_byte 97 _; values = some_id }, (record { key = some_byte 100 _; values = some }, tt)),
    )))
fields_are line (ref ∷ refs) ids texts is some_id some =
    fields_of-IsFields line (usual_fields (ref ∷ refs) ids texts)
    (subst (λ (l : List ℕ). IsFields l (usual_fields (ref ∷ refs) ids texts)) (sym (is ∙ with_refs ids texts ref refs))
    (IsFields-written rec_field (ref_field (ref ∷ refs) ∷ attr_field ids ∷ data_field texts ∷ []) (
      record { key = some_byte 95 _; values = some_text _ _ },
      (record { key = some_byte 114 _; values = some_text _ _ }, (record { key = some_byte 97 _; values = some_id }, (record { key = some_byte 100 _; values = some }, tt))),
    )))

some_head : (refs : List (List ℕ)) (rest : List ℕ) → (written_head refs ++ rest) ≢ []
some_head [] rest = some_byte 95 _
some_head (ref ∷ refs) rest = some_byte 95 _

-- and no newline stands in such a row
no_newline-row : (line : List ℕ) (refs ids texts : List (List ℕ)) → line ≡ written_head refs ++ (codes "attr" ++ (written_values ids ++ (codes ",data" ++ written_values texts))) → HasNoNewline line
no_newline-row line [] ids texts is = subst HasNoNewline (sym (is ∙ without_refs ids texts)) (no_newline-fields rec_field (attr_field ids ∷ data_field texts ∷ []))
no_newline-row line (ref ∷ refs) ids texts is =
    subst HasNoNewline (sym (is ∙ with_refs ids texts ref refs)) (no_newline-fields rec_field (ref_field (ref ∷ refs) ∷ attr_field ids ∷ data_field texts ∷ []))

once : (refs ids texts : List (List ℕ)) → repeats_key (usual_fields refs ids texts) ≡ false
once [] ids texts = refl
once (ref ∷ refs) ids texts = refl

sorted : (refs ids texts : List (List ℕ)) → sort_of (usual_fields refs ids texts) ≡ Ok OfRow
sorted [] ids texts = refl
sorted (ref ∷ refs) ids texts = refl

record_is : (named : List Named) (refs_texts ids_texts texts : List (List ℕ)) (refs ids : List ℕ) → length ids_texts ≡ length texts → each id_of refs_texts ≡ Ok refs → each id_of ids_texts ≡ Ok ids
    → record_of named (usual_fields refs_texts ids_texts texts) ≡ record_of_ids named refs ids texts
record_is named [] ids_texts texts refs ids even is are = by_ids named (usual_fields [] ids_texts texts) even refs ids is are
record_is named (ref ∷ refs_texts) ids_texts texts refs ids even is are = by_ids named (usual_fields (ref ∷ refs_texts) ids_texts texts) even refs ids is are

some_as_many : (xs ys : List (List ℕ)) → length xs ≡ length ys → xs ≢ [] → ys ≢ []
some_as_many [] ys even some = absurd (some refl)
some_as_many (x ∷ xs) [] even some = absurd (omega (arith, even))
some_as_many (x ∷ xs) (y ∷ ys) even some = some_text y ys

-- the front of a text up to a place is what is written up to it
front_is : (text written : List ℕ) (end : ℕ) → text ≡ written ++ drop end text → take end text ≡ written
front_is text written end is = append_cancel_right (take end text) written (drop end text) (take-append-drop end text ∙ is)

module _ (t : Tree) (text : List ℕ) (start end : ℕ) (refs ids : List ℕ) (numbers : List AttributeNumber) (snapshot : Snapshot)
    (columns : AreColumns text start refs ids) (imms : ReadsImms t numbers text start end snapshot.imms.items) where
  front_row : take end text ≡ written_head columns.refs_texts ++ (codes "attr" ++ (written_values columns.texts ++ (codes ",data" ++ written_values imms.texts)))
  front_row =
      front_is text (written_head columns.refs_texts ++ (codes "attr" ++ (written_values columns.texts ++ (codes ",data" ++ written_values imms.texts)))) end
      (columns.whole ∙ ap (λ (l : List ℕ). written_head columns.refs_texts ++ (codes "attr" ++ (written_values columns.texts ++ (codes ",data" ++ l)))) imms.values.read ∙ sym (simp append_assoc))

  pub is_line_end : IsLineEnd text end
  is_line_end = record { within = imms.values.within; some = subst (λ l. l ≢ []) (sym front_row) (some_head columns.refs_texts _); line = no_newline-row (take end text) columns.refs_texts columns.texts imms.texts front_row }

  -- a line whose columns and values were read is that of a row
  pub is_usual_row : (named : List Named) (below : List Node) → each (known named) refs ≡ Ok below → AreEnds t snapshot.nodes.items below
      → (nodes : List Node) → each (known named) ids ≡ Ok nodes → (attributes : List Attribute) → each as_attribute nodes ≡ Ok attributes → AreNumbers t numbers attributes
      → IsUsualRow t named (take end text) snapshot
  is_usual_row named below refs_known at nodes ids_known attributes have are =
      let line = take end text in
      let texts = imms.texts in
      let even : length columns.texts ≡ length texts =
      sym (imms.count ∙ sym (length-map numbers (attribute_at t)) ∙ ap length are.are ∙ each-length as_attribute nodes attributes have
      ∙ each-length (known named) ids nodes ids_known ∙ each-length id_of columns.texts ids columns.read)
      in
      let res : Result (Unit {0}) ends.LineEnd = Ok tt in
      let it = filled named refs ids texts below refs_known nodes ids_known attributes have t snapshot at imms.known res
      (map (imm_entry t) snapshot.imms.items, subst (λ (l : List Attribute). each entry_of (zip l texts) ≡ Ok (map (imm_entry t) snapshot.imms.items)) are.are imms.read, refl)
      in
      record {
        fields = usual_fields columns.refs_texts columns.texts texts;
        are = fields_are line columns.refs_texts columns.texts texts front_row columns.some (some_as_many columns.texts texts even columns.some);
        once = once columns.refs_texts columns.texts texts;
        sorted = sorted columns.refs_texts columns.texts texts;
        row = it.0;
        read = record_is named columns.refs_texts columns.texts texts refs ids even columns.refs_read columns.read ∙ it.1;
        within = it.2.0;
        means = it.2.1;
      }

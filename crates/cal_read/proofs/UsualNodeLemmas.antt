-- Nodes that are read in one go: their fields, and what they make.
use Rattle.std.proofs.Common.{◌≡◌, ◌≢◌, ◌≤◌, ◌<◌, ◌+◌, ℕ, false, List, [], ◌∷◌, ◌++◌, length, get_or, drop, Option, None, Some, refl, sym, ap, ◌∙◌, subst, append_assoc, append-nil}
use Rattle.std.specs.Prelude.{Ok, codes}
use Rattle.std.specs.List.{between}
use Rattle.std.proofs.lemmas.List.{drop_all, drop_more}
use Rattle.std.proofs.lemmas.List.Folds.{drop_split}
use Rattle.cal_line.specs.FirstFault.{◌>>=◌}
use Rattle.cal_line.specs.Escapes.{escaped}
use Rattle.cal_line.specs.Fields.{IsFields}
use Rattle.cal_line.specs.WrittenFields.{written_fields}
use Rattle.cal_line.specs.declared.field.Field.{Field}
use Rattle.cal_line.proofs.FieldSteps.{fields_of-IsFields}
use Rattle.cal_line.proofs.Written.{IsFields-written}
use Rattle.cal_read.specs.Fields.{id_of, if_there, repeats_key, sort_of}
use Rattle.cal_read.specs.NodeLines.{node_step, with_ids}
use Rattle.cal_read.specs.Nodes.{Named}
use Rattle.cal_read.specs.Usual.{IsNumberAt, IsPlain, IsThere}
use Rattle.cal_read.specs.UsualNodes.{IsIdBehind, IsParentAt, IsUsualNode, written_parent}
use Rattle.cal_read.specs.declared.sort.Sort.TheVariants.{OfNode}
use Rattle.cal_read.proofs.NumberLemmas.{id_is}

-- ---- an id behind bytes

pub id_there : (line : List ℕ) (place start end : ℕ) (bytes : List ℕ) (id : ℕ) → IsThere line place bytes start → IsNumberAt line start end id → IsIdBehind line place bytes end id
id_there line place start end bytes id there number = record {
  text = between start end line;
  within = number.plain.within;
  read = there.read ∙ ap (λ (l : List ℕ). bytes ++ l) (drop_split line start end number.plain.order ∙ ap (λ (l : List ℕ). l ++ drop end line) (sym number.plain.written));
  is = id_is line start end id number;
}

-- the same behind more bytes
pub id_behind_both : (line : List ℕ) (place start end : ℕ) (xs ys : List ℕ) (id : ℕ) → IsThere line place xs start → IsIdBehind line start ys end id → IsIdBehind line place (xs ++ ys) end id
id_behind_both line place start end xs ys id first it = record {
  text = it.text;
  within = it.within;
  read = first.read ∙ ap (λ (l : List ℕ). xs ++ l) it.read ∙ sym (append_assoc xs ys (escaped it.text ++ drop end line));
  is = it.is;
}

pub no_parent : (line : List ℕ) (place : ℕ) → length line ≤ place → IsParentAt line place None
no_parent line place past = record { text = None; read = drop_all place line past; is = refl }

pub parent_there : (line : List ℕ) (place end id : ℕ) → IsIdBehind line place (codes ",parent=") end id → length line ≤ end → IsParentAt line place (Some id)
parent_there line place end id it past = record {
  text = Some it.text;
  read = it.read ∙ ap (λ (l : List ℕ). codes ",parent=" ++ (escaped it.text ++ l)) (drop_all end line past) ∙ ap (λ (l : List ℕ). codes ",parent=" ++ l) (append-nil (escaped it.text));
  is = ap (λ o. o >>= (λ given. Ok (Some given))) it.is;
}

-- ---- the fields of such a node

abbrev rec_field : Field
rec_field = record { key = codes "__rec"; values = codes "node" ∷ [] }

abbrev id_field : List ℕ → Field
id_field text = record { key = codes "id"; values = text ∷ [] }

abbrev attr_field : List ℕ → Field
attr_field text = record { key = codes "attr"; values = text ∷ [] }

abbrev data_field : List ℕ → Field
data_field text = record { key = codes "data"; values = text ∷ [] }

abbrev parent_field : List ℕ → Field
parent_field text = record { key = codes "parent"; values = text ∷ [] }

abbrev behind_data : Option (List ℕ) → List Field
behind_data None = []
behind_data (Some parent) = parent_field parent ∷ []

abbrev node_fields : List ℕ → List ℕ → List ℕ → Option (List ℕ) → List Field
node_fields id attribute text parent = rec_field ∷ id_field id ∷ attr_field attribute ∷ data_field text ∷ behind_data parent

abbrev written_node : List ℕ → List ℕ → List ℕ → List ℕ → List ℕ
written_node id attribute text rest =
    codes "__rec=node,id=" ++ (escaped id ++ (codes ",attr=" ++ (escaped attribute ++ (codes ",data=" ++ (escaped text ++ rest)))))

some_byte : (b : ℕ) (bytes : List ℕ) → (b ∷ bytes) ≢ []
some_byte b bytes e = cc

some_text : (text : List ℕ) (texts : List (List ℕ)) → (text ∷ texts) ≢ []
some_text text texts e = cc

module _ (id attribute text : List ℕ) where
  node_written : (parent : Option (List ℕ)) → written_node id attribute text (written_parent parent)
      ≡ written_fields rec_field (id_field id ∷ attr_field attribute ∷ data_field text ∷ behind_data parent)
  node_written None = ap (λ (l : List ℕ). codes "__rec=node,id=" ++ (escaped id ++ (codes ",attr=" ++ (escaped attribute ++ (codes ",data=" ++ l))))) (append-nil (escaped text))
  node_written (Some parent) = refl

  node_is_fields : (parent : Option (List ℕ)) → IsFields (written_fields rec_field (id_field id ∷ attr_field attribute ∷ data_field text ∷ behind_data parent)) (node_fields id attribute text parent)
  node_is_fields None =
      IsFields-written rec_field (id_field id ∷ attr_field attribute ∷ data_field text ∷ []) (
        record { key = some_byte 95 _; values = some_text _ _ },
        (record { key = some_byte 105 _; values = some_text _ _ }, (record { key = some_byte 97 _; values = some_text _ _ }, (record { key = some_byte 100 _; values = some_text _ _ }, tt))),
      )
  node_is_fields (Some parent) =
      IsFields-written rec_field (id_field id ∷ attr_field attribute ∷ data_field text ∷ parent_field parent ∷ []) (
        record { key = some_byte 95 _; values = some_text _ _ },
        (
          record { key = some_byte 105 _; values = some_text _ _ },
          (
            record { key = some_byte 97 _; values = some_text _ _ },
            (record { key = some_byte 100 _; values = some_text _ _ }, (record { key = some_byte 112 _; values = some_text _ _ }, tt)),
          ),
        ),
      )

  node_once : (parent : Option (List ℕ)) → repeats_key (node_fields id attribute text parent) ≡ false
  node_once None = refl
  node_once (Some parent) = refl

  node_sorted : (parent : Option (List ℕ)) → sort_of (node_fields id attribute text parent) ≡ Ok OfNode
  node_sorted None = refl
  node_sorted (Some parent) = refl

  node_steps : (parent : Option (List ℕ)) (i a : ℕ) (p : Option ℕ) → id_of id ≡ Ok i → id_of attribute ≡ Ok a → if_there id_of parent ≡ Ok p
      → (nodes : List Named) → node_step nodes (node_fields id attribute text parent) ≡ with_ids nodes (record { id = i; attribute = a; parent = p }) text
  node_steps None i a p is_i is_a is_p nodes = λ j.
      (is_i j >>= (λ x. is_a j >>= (λ y. is_p j >>= (λ z. Ok (record { id = x; attribute = y; parent = z }))))) >>= (λ ids. with_ids nodes ids text)
  node_steps (Some parent) i a p is_i is_a is_p nodes = λ j.
      (is_i j >>= (λ x. is_a j >>= (λ y. is_p j >>= (λ z. Ok (record { id = x; attribute = y; parent = z }))))) >>= (λ ids. with_ids nodes ids text)

-- a line whose parts were read is that of a node
pub is_usual_node : (line : List ℕ) (id_end attribute_end place end i a : ℕ) (p : Option ℕ) → IsIdBehind line 0 (codes "__rec=node,id=") id_end i → IsIdBehind line id_end (codes ",attr=") attribute_end a
    → IsThere line attribute_end (codes ",data") place → place < length line → get_or line place 0 ≡ 61 → IsPlain line (place + 1) end → IsParentAt line end p
    → IsUsualNode line (record { id = i; attribute = a; parent = p }) (between (place + 1) end line)
is_usual_node line id_end attribute_end place end i a p id attribute there within sign plain parent =
    let text = between (place + 1) end line in
    let value : drop place line ≡ 61 ∷ (escaped text ++ written_parent parent.text) =
    drop_more line place 0 within ∙ ap (λ (b : ℕ). b ∷ drop (place + 1) line) sign
    ∙ ap (λ (l : List ℕ). 61 ∷ l) (drop_split line (place + 1) end plain.order ∙ (λ j. sym plain.written j ++ parent.read j))
    in
    let whole : line ≡ written_node id.text attribute.text text (written_parent parent.text) =
    id.read ∙ ap (λ (l : List ℕ). codes "__rec=node,id=" ++ (escaped id.text ++ l))
    (attribute.read ∙ ap (λ (l : List ℕ). codes ",attr=" ++ (escaped attribute.text ++ l)) (there.read ∙ ap (λ (l : List ℕ). codes ",data" ++ l) value))
    in
    let fields = node_fields id.text attribute.text text parent.text in
    record {
      fields = fields;
      are = fields_of-IsFields line fields (subst (λ (l : List ℕ). IsFields l fields) (sym (whole ∙ node_written id.text attribute.text text parent.text)) (node_is_fields id.text attribute.text text parent.text));
      once = node_once id.text attribute.text text parent.text;
      sorted = node_sorted id.text attribute.text text parent.text;
      step = node_steps id.text attribute.text text parent.text i a p id.is attribute.is parent.is;
    }

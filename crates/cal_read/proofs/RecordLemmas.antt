-- The record of a line, step by step.
use Rattle.std.proofs.Common.{◌≡◌, ◌≢◌, ◌<◌, ℕ, List, length, map, ap, ◌∙◌, if◌then◌else◌}
use Rattle.std.specs.Prelude.{Result, Ok, Err, codes}
use Rattle.std.specs.List.{All, zip}
use Rattle.std.proofs.lemmas.Bool.{ne_eqb}
use Rattle.std.proofs.lemmas.Bool.Decides.{Decides-eqb}
use Rattle.cal_context.specs.Snapshots.{IsIn, meaning, entry_of as imm_entry}
use Rattle.cal_context.specs.Tree.{Tree}
use Rattle.cal_context.specs.declared.snapshot.Snapshot.{Snapshot}
use Rattle.cal_line.specs.FirstFault.{◌>>=◌}
use Rattle.cal_line.specs.declared.field.Field.{Field}
use Rattle.cal_value.specs.declared.attribute.Attribute.{Attribute}
use Rattle.cal_read.specs.Columns.{AreEnds}
use Rattle.cal_read.specs.Fields.{each, values_of, id_of}
use Rattle.cal_read.specs.NodeLines.{known, as_attribute}
use Rattle.cal_read.specs.Nodes.{Node, Named, path_of}
use Rattle.cal_read.specs.RecordLines.{entry_of, record_of_ids, record_of}
use Rattle.cal_read.specs.Steps.{AnswersFor}
use Rattle.cal_read.specs.declared.end.LineEnd as ends
use Rattle.cal_read.specs.declared.end.LineEnd.TheVariants as end
use Rattle.cal_read.specs.declared.kind.StreamKind.{StreamKind}
use Rattle.cal_read.specs.declared.kind.StreamKind.TheVariants as kind

module _ (named : List Named) (refs ids : List ℕ) (texts : List (List ℕ)) where
  pub refs_fault : (k : StreamKind) → each (known named) refs ≡ Err k → record_of_ids named refs ids texts ≡ Err k
  refs_fault k e =
      ap (λ o. o >>= (λ below. each (known named) ids >>= (λ nodes. each as_attribute nodes >>= (λ attributes. each entry_of (zip attributes texts) >>= (λ imms. Ok (record { paths = map path_of below; imms = imms }))))))
      e

  module _ (below : List Node) (are : each (known named) refs ≡ Ok below) where
    first : record_of_ids named refs ids texts
        ≡ (each (known named) ids >>= (λ nodes. each as_attribute nodes >>= (λ attributes. each entry_of (zip attributes texts) >>= (λ imms. Ok (record { paths = map path_of below; imms = imms })))))
    first =
        ap (λ o. o >>= (λ b. each (known named) ids >>= (λ nodes. each as_attribute nodes >>= (λ attributes. each entry_of (zip attributes texts) >>= (λ imms. Ok (record { paths = map path_of b; imms = imms }))))))
        are

    pub ids_fault : (k : StreamKind) → each (known named) ids ≡ Err k → record_of_ids named refs ids texts ≡ Err k
    ids_fault k e = first ∙ ap (λ o. o >>= (λ nodes. each as_attribute nodes >>= (λ attributes. each entry_of (zip attributes texts) >>= (λ imms. Ok (record { paths = map path_of below; imms = imms }))))) e

    module _ (nodes : List Node) (so : each (known named) ids ≡ Ok nodes) where
      second : record_of_ids named refs ids texts
          ≡ (each as_attribute nodes >>= (λ attributes. each entry_of (zip attributes texts) >>= (λ imms. Ok (record { paths = map path_of below; imms = imms }))))
      second = first ∙ ap (λ o. o >>= (λ ns. each as_attribute ns >>= (λ attributes. each entry_of (zip attributes texts) >>= (λ imms. Ok (record { paths = map path_of below; imms = imms }))))) so

      pub attributes_fault : (k : StreamKind) → each as_attribute nodes ≡ Err k → record_of_ids named refs ids texts ≡ Err k
      attributes_fault k e = second ∙ ap (λ o. o >>= (λ attributes. each entry_of (zip attributes texts) >>= (λ imms. Ok (record { paths = map path_of below; imms = imms })))) e

      module _ (attributes : List Attribute) (have : each as_attribute nodes ≡ Ok attributes) where
        third : record_of_ids named refs ids texts ≡ (each entry_of (zip attributes texts) >>= (λ imms. Ok (record { paths = map path_of below; imms = imms })))
        third = second ∙ ap (λ o. o >>= (λ list. each entry_of (zip list texts) >>= (λ imms. Ok (record { paths = map path_of below; imms = imms })))) have

        -- a snapshot with these ends and these entries
        pub filled : (t : Tree) (snapshot : Snapshot) → AreEnds t snapshot.nodes.items below → All (λ i. i.attribute.0 < length t.attributes) snapshot.imms.items
            → (res : Result (Unit {0}) ends.LineEnd)
            → AnswersFor (λ _ entries. map (imm_entry t) snapshot.imms.items ≡ entries) res (each entry_of (zip attributes texts))
            → AnswersFor (λ _ r. IsIn t snapshot × (meaning t snapshot ≡ r)) res (record_of_ids named refs ids texts)
        filled t snapshot at within (Ok u) h = (
          record { paths = map path_of below; imms = h.0 },
          third ∙ ap (λ o. o >>= (λ imms. Ok (record { paths = map path_of below; imms = imms }))) h.1,
          (record { nodes = at.below; imms = within }, λ j. record { paths = at.paths j; imms = h.2 j }),
        )
        filled t snapshot at within (Err (end.Bad k)) h = third ∙ ap (λ o. o >>= (λ imms. Ok (record { paths = map path_of below; imms = imms }))) h
        filled t snapshot at within (Err end.OutOfMemory) h = tt

module _ (named : List Named) (fields : List Field) where
  module _ (even : length (values_of (codes "attr") fields) ≡ length (values_of (codes "data") fields)) where
    evenly : record_of named fields
        ≡ (each id_of (values_of (codes "ref") fields) >>= (λ refs. each id_of (values_of (codes "attr") fields) >>= (λ columns. record_of_ids named refs columns (values_of (codes "data") fields))))
    evenly =
        ap (λ b. if b
        then (each id_of (values_of (codes "ref") fields) >>= (λ refs. each id_of (values_of (codes "attr") fields) >>= (λ columns. record_of_ids named refs columns (values_of (codes "data") fields))))
        else Err kind.Uneven) ((Decides-eqb (length (values_of (codes "attr") fields)) (length (values_of (codes "data") fields))).1 even)

    pub by_ids : (refs ids : List ℕ) → each id_of (values_of (codes "ref") fields) ≡ Ok refs → each id_of (values_of (codes "attr") fields) ≡ Ok ids
        → record_of named fields ≡ record_of_ids named refs ids (values_of (codes "data") fields)
    by_ids refs ids is are =
        evenly ∙ ap (λ o. o >>= (λ rs. each id_of (values_of (codes "attr") fields) >>= (λ columns. record_of_ids named rs columns (values_of (codes "data") fields)))) is
        ∙ ap (λ o. o >>= (λ columns. record_of_ids named refs columns (values_of (codes "data") fields))) are

-- Globals are put into a context.
use Rattle.std.proofs.Common.{◌≡◌, List, [], ◌∷◌, map, filter, refl, ap, ◌∙◌}
use Rattle.cal_context.specs.Tree.{Tree}
use Rattle.cal_context.specs.declared.snapshot.Snapshot.{Snapshot}
use Rattle.cal_records.specs.Globals.{Means}
use Rattle.cal_records.specs.Records.{globals_of}
use Rattle.cal_value.specs.Props.{is_reference}
use Rattle.cal_value.specs.declared.attribute.Entry.{Entry}
use Rattle.cal_value.specs.declared.record.Rec.{Rec}
use Rattle.cal_write.specs.CanonicalText.{has_entry}
use Rattle.cal_write.specs.Interning.{Means as MeansButEmpty, without_empty}

-- the path of one entry has an entry
singles : (entries : List Entry)
    → filter has_entry (map (λ (e : Entry). e ∷ []) entries) ≡ map (λ (e : Entry). e ∷ []) entries
singles [] = refl
singles (e ∷ entries) = ap (λ ps. (e ∷ []) ∷ ps) (singles entries)

-- so a snapshot means the globals whole
pub means-globals : (t : Tree) (s : Snapshot) (entries : List Entry) (r : Rec)
    → r ≡ globals_of entries → MeansButEmpty t s r → Means t s (globals_of entries)
means-globals t s entries r is interned = record {
  within = interned.within;
  means = interned.means ∙ ap without_empty is
      ∙ (λ i. record {
        paths = singles (filter (λ (e : Entry). is_reference e.attr.props) entries) i;
        imms = (globals_of entries).imms;
      });
}

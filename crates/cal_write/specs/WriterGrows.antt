use Rattle.std.specs.Prelude.{List, Some}
use Rattle.std.proofs.Common.{sym, subst, ◌∙◌}
use Rattle.cal_context.specs.Tree.{Tree, Grows}
use Rattle.cal_context.proofs.CallerLemmas.{path_at-Grows, attribute_at-Grows}
use Rattle.cal_context.proofs.CallerLemmas.{within_paths, within_attributes}
use Rattle.cal_value.specs.declared.record.Rec.{Rec}
use Rattle.cal_write.specs.Kept.{IsKept}
use Rattle.cal_write.specs.Places.{IsParent, KnowsAttribute}
use Rattle.cal_write.specs.Writer.{HasTaken}
use Rattle.cal_write.specs.Written.{Written, written}
use Rattle.cal_write.specs.declared.node_writer.NodeWriter.{NodeWriter}
use Rattle.cal_write.specs.declared.writer.Writer.{Writer}

-- what is noted stays right while the context grows
pub IsKept-stays : (old new : Tree) (w : NodeWriter) (s : Written) → Grows old new
    → IsKept old w s → IsKept new w s
IsKept-stays old new w s grows k = record {
  stream = k.stream;
  nodes = λ n id h. let note = k.nodes n id h in
      record {
        within = within_paths grows n.0 note.within;
        at = subst (λ p. IsParent s.nodes p (Some id)) (sym (path_at-Grows grows n note.within)) note.at;
      };
  all = λ up e h large. let note = k.all up e h large in
      record {
        number = note.number;
        within = within_paths grows note.number.0 note.within;
        path = path_at-Grows grows note.number note.within ∙ note.path;
        noted = note.noted;
      };
  attributes = λ a id h. let known = k.attributes a id h in
      let same = sym (attribute_at-Grows grows a known.within) in
      record {
        within = within_attributes grows a.0 known.within;
        knows = subst (λ b. KnowsAttribute s.nodes b id) same known.knows;
      };
}

-- what a writer has taken stays so while the context grows
pub HasTaken-stays : (w : Writer) (old new : Tree) (rows : List Rec) → HasTaken w old rows
    → Grows old new → HasTaken w new rows
HasTaken-stays w old new rows h grows =
    record { sound = h.sound; kept = IsKept-stays old new w.nodes (written rows) grows h.kept }

use Rattle.std.proofs.Common.{◌≡◌, ◌==◌, ◌&&◌, ◌+◌, ◌<◌, get_or, List, [], ◌∷◌, ◌++◌, length, take, map, filter, fold, refl, sym, ap, ◌∙◌, subst, if◌then◌else◌}
use Rattle.std.specs.Prelude.{codes, ℕ}
use Rattle.std.specs.List.{flat_map}
use Rattle.std.proofs.lemmas.List.{map_more}
use Rattle.cal_value.specs.declared.attribute.Entry.{Entry}
use Rattle.cal_value.specs.declared.record.Rec.{Rec}
use Rattle.cal_value.specs.declared.record.Records.{Records}
use Rattle.cal_context.specs.Snapshots.{meaning}
use Rattle.cal_context.specs.Taking.{TakesMore}
use Rattle.cal_context.specs.Tree.{Tree, Grows}
use Rattle.cal_context.specs.declared.snapshot.Snapshot.{Snapshot}
use Rattle.cal_write.specs.Writer.{EndsWith, HasTaken}
use Rattle.cal_write.specs.WriterGrows.{HasTaken-stays}
use Rattle.cal_write.specs.declared.writer.Writer.{Writer}
use Rattle.cal_write.specs.Nodes.{Node, built_in, node_of_attribute, needed_below, needed_by_attribute, needed_by_record, nodes, with_node, with_record}
use Rattle.cal_write.specs.Lines.{record_line}
use Rattle.cal_write.specs.CanonicalText.{id_in, has_entry, lines_of_new, record_text, rows_text, globals_text, canonical_text}
use Rattle.cal_write.specs.Interning.{Means, without_empty}

-- ---- paths without entries say nothing

needed-kept : (ps : List Node) → flat_map (needed_below []) (filter has_entry ps) ≡ flat_map (needed_below []) ps
needed-kept [] = refl
needed-kept ([] ∷ ps) = needed-kept ps
needed-kept ((e ∷ p) ∷ ps) = ap (λ l. needed_below [] (e ∷ p) ++ l) (needed-kept ps)

ends-kept : (ps : List Node) → filter has_entry (filter has_entry ps) ≡ filter has_entry ps
ends-kept [] = refl
ends-kept ([] ∷ ps) = ends-kept ps
ends-kept ((e ∷ p) ∷ ps) = ap (λ l. (e ∷ p) ∷ l) (ends-kept ps)

needed-same : (r : Rec) → needed_by_record (without_empty r) ≡ needed_by_record r
needed-same r = ap (λ l. l ++ flat_map (λ (e : Entry). needed_by_attribute e.attr) r.imms) (needed-kept r.paths)

record_text-same : (sort : List ℕ) (ns : List Node) (r : Rec) → record_text sort ns (without_empty r) ≡ record_text sort ns r
record_text-same sort ns r = λ j. lines_of_new ns (needed-same r j) ++ record_line sort (map (id_in (fold with_node ns (needed-same r j))) (ends-kept r.paths j))
    (map (λ (e : Entry). id_in (fold with_node ns (needed-same r j)) (node_of_attribute e.attr)) r.imms) (map (λ (e : Entry). e.value) r.imms)

rows_text-same : (ns : List Node) (rows : List Rec) → rows_text ns (map without_empty rows) ≡ rows_text ns rows
rows_text-same ns [] = refl
rows_text-same ns (r ∷ rows) =
    (λ j. record_text-same (codes "ctx") ns r j ++ rows_text (fold with_node ns (needed-same r j)) (map without_empty rows))
    ∙ ap (λ l. record_text (codes "ctx") ns r ++ l) (rows_text-same (with_record ns r) rows)

nodes-same : (ns : List Node) (rows : List Rec) → fold with_record ns (map without_empty rows) ≡ fold with_record ns rows
nodes-same ns [] = refl
nodes-same ns (r ∷ rows) =
    (λ j. fold with_record (fold with_node ns (needed-same r j)) (map without_empty rows)) ∙ nodes-same (with_record ns r) rows

globals_text-same : (ns : List Node) (g : Rec) → globals_text ns (without_empty g) ≡ globals_text ns g
globals_text-same ns g = λ j. if (length (ends-kept g.paths j) == 0) && (length g.imms == 0) then [] else record_text-same (codes "globals") ns g j

pub canonical_text-same : (rs : Records) → canonical_text (record { rows = map without_empty rs.rows; globals = without_empty rs.globals }) ≡ canonical_text rs
canonical_text-same rs =
    (λ j. rows_text-same built_in rs.rows j ++ globals_text (nodes-same built_in rs.rows j) (without_empty rs.globals))
    ∙ ap (λ l. rows_text built_in rs.rows ++ l) (globals_text-same (nodes rs.rows) rs.globals)

-- ---- rows, one after another

pub rows-more : (t now : Tree) (old new : Writer) (rows : List Rec) (i : ℕ) (r : Rec) (snap : Snapshot) → i < length rows → r ≡ get_or rows i r → HasTaken old t (map without_empty (take i rows)) → Grows t now
    → Means now snap r → TakesMore (HasTaken old now) (HasTaken new now) (meaning now snap ∷ []) → HasTaken new now (map without_empty (take (i + 1) rows))
rows-more t now old new rows i r snap within is had grows means takes =
    let more : map without_empty (take (i + 1) rows) ≡ map without_empty (take i rows) ++ meaning now snap ∷ [] =
    map_more without_empty rows i r within ∙ (λ j. map without_empty (take i rows) ++ without_empty (sym is j) ∷ []) ∙ (λ j. map without_empty (take i rows) ++ sym means.means j ∷ []) in
    subst (HasTaken new now) (sym more) (takes (map without_empty (take i rows)) (HasTaken-stays old t now (map without_empty (take i rows)) had grows))

pub whole-text : (t : Tree) (w : Writer) (rs : Records) (snap : Snapshot) (text : List ℕ) → HasTaken w t (map without_empty rs.rows)
    → Means t snap rs.globals → EndsWith (HasTaken w t) (meaning t snap) text → text ≡ canonical_text rs
whole-text t w rs snap text had means ends_with =
    ends_with (map without_empty rs.rows) had
    ∙ (λ j. canonical_text (record { rows = map without_empty rs.rows; globals = means.means j })) ∙ canonical_text-same rs

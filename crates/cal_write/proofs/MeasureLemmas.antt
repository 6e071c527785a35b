-- The text of records is counted piece by piece, and none of it is kept.
use Rattle.std.proofs.Common.{◌≡◌, ℕ, ◌+◌, Bool, true, false, ◌&&◌, ◌==◌, List, [], ◌∷◌, ◌++◌, length, refl}
use Rattle.std.proofs.Common.{sym, ap, subst, ◌∙◌, arith, if◌then◌else◌}
use Rattle.std.specs.Prelude.{codes}
use Rattle.std.proofs.lemmas.List.{length-append, length-map, append-nil}
use Rattle.std.proofs.lemmas.List.Sums.{fold-append}
use Rattle.cal_context.specs.Snapshots.{IsIn, entry_of, meaning}
use Rattle.cal_context.specs.Tree.{IsContext, Tree}
use Rattle.cal_context.specs.declared.snapshot.Snapshot.{Snapshot}
use Rattle.cal_value.specs.declared.record.Rec.{Rec}
use Rattle.cal_write.specs.CanonicalText.{canonical_text, ends, record_text, rows_text}
use Rattle.cal_write.specs.Kept.{IsKept}
use Rattle.cal_write.specs.Measuring.{CountsBytes, HasMeasured, MeasuresWith, no_text}
use Rattle.cal_write.specs.Nodes.{Node, built_in, nodes, with_record}
use Rattle.cal_write.specs.Writer.{HasTaken, WritesRecord}
use Rattle.cal_write.specs.Written.{Written}
use Rattle.cal_write.specs.declared.measurer.Measure.{Measure}
use Rattle.cal_write.specs.declared.measurer.Measurer.{Measurer}
use Rattle.cal_write.specs.declared.node_writer.NodeWriter.{NodeWriter}
use Rattle.cal_write.specs.declared.writer.Writer.{Writer}
use Rattle.cal_write.proofs.RecordLemmas.{ends-length, rows_text-push}

-- ---- a text that is dropped

abbrev pub with_text : NodeWriter → List ℕ → NodeWriter
with_text w text =
    record w { stream = record w.stream { lines = record w.stream.lines { text = text } } }

pub kept-dropped : (t : Tree) (w : NodeWriter) (s : Written) → IsKept t w s
    → IsKept t (with_text w []) (no_text s.nodes)
kept-dropped t w s k = record {
  stream = record {
    text = refl;
    next = k.stream.next;
    front = k.stream.front;
    closed = k.stream.closed;
    described = k.stream.described;
  };
  nodes = k.nodes;
  all = k.all;
  attributes = k.attributes;
}

-- a record was written, and its text counted and dropped
pub record-counted : (t : Tree) (old mid new : Measurer) (sort : List ℕ) (r : Rec)
    → WritesRecord t old.writer.nodes mid.writer.nodes sort r
    → new.writer.nodes ≡ with_text mid.writer.nodes []
    → new.so_far.bytes ≡ old.so_far.bytes + length mid.writer.nodes.stream.lines.text
    → CountsBytes t old new sort r
record-counted t old mid new sort r writes dropped counted = record {
  kept = λ ns k. subst (λ (w : NodeWriter). IsKept t w (no_text (with_record ns r))) (sym dropped)
      (kept-dropped t mid.writer.nodes _ (writes (no_text ns) k));
  bytes = λ ns k. counted
      ∙ ap (λ text. old.so_far.bytes + length text) (writes (no_text ns) k).stream.text;
}

-- ---- rows, and globals

-- nothing was taken yet
pub nothing-measured : (t : Tree) (m : Measurer) → HasTaken m.writer t [] → m.so_far.rows ≡ 0
    → m.so_far.bytes ≡ 0 → HasMeasured m t []
nothing-measured t m had rows bytes = record {
  kept = had.kept;
  rows = rows;
  bytes = bytes;
}

pub row-measured : (t : Tree) (old mid new : Measurer) (r : Rec)
    → CountsBytes t old mid (codes "ctx") r → mid.so_far.rows ≡ old.so_far.rows
    → new.writer ≡ mid.writer → new.so_far.bytes ≡ mid.so_far.bytes
    → new.so_far.rows ≡ mid.so_far.rows + 1
    → (rows : List Rec) → HasMeasured old t rows → HasMeasured new t (rows ++ r ∷ [])
row-measured t old mid new r counts same writer bytes more rows had = record {
  kept = subst (λ (w : Writer). IsKept t w.nodes (no_text (nodes (rows ++ r ∷ [])))) (sym writer)
      (subst (λ (ns : List Node). IsKept t mid.writer.nodes (no_text ns))
      (sym (fold-append with_record built_in rows (r ∷ [])))
      (counts.kept (nodes rows) had.kept));
  rows = (let before = had.rows in let long = length-append rows (r ∷ []) in
      omega (arith, more, same, before, long));
  bytes = (let before = had.bytes in
      let now = counts.bytes (nodes rows) had.kept in
      let text = ap length (rows_text-push built_in rows r) in
      let long = length-append (rows_text built_in rows)
      (record_text (codes "ctx") (nodes rows) r) in
      omega (arith, bytes, now, before, text, long));
}

measure_one : (m n : Measure) → m.rows ≡ n.rows → m.bytes ≡ n.bytes → m ≡ n
measure_one m n rows bytes = λ j. record { rows = rows j; bytes = bytes j }

-- globals with an entry
pub globals-measured : (t : Tree) → IsContext t → (old new : Measurer) (snap : Snapshot)
    → IsIn t snap → ((length snap.nodes.items == 0) && (length snap.imms.items == 0)) ≡ false
    → CountsBytes t old new (codes "globals") (meaning t snap)
    → new.so_far.rows ≡ old.so_far.rows
    → MeasuresWith (HasMeasured old t) (meaning t snap) new.so_far
globals-measured t context old new snap in_it some counts same rows had =
    let g = meaning t snap in
    let none : ((length (ends g) == 0) && (length g.imms == 0)) ≡ false
    = (λ j. ends-length t context snap.nodes.items in_it.nodes j
    && (length-map snap.imms.items (entry_of t) j == 0)) ∙ some in
    let text : canonical_text (record { rows = rows; globals = g })
    ≡ rows_text built_in rows ++ record_text (codes "globals") (nodes rows) g =
    ap (λ (b : Bool). rows_text built_in rows
    ++ (if b then [] else record_text (codes "globals") (nodes rows) g)) none in
    let long = length-append (rows_text built_in rows)
    (record_text (codes "globals") (nodes rows) g) in
    let before = had.bytes in
    let now = counts.bytes (nodes rows) had.kept in
    let whole = ap length text in
    measure_one new.so_far _ (same ∙ had.rows) (omega (arith, long, before, now, whole))

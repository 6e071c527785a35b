-- How much is written, of which nothing is kept.
use Rattle.std.specs.Prelude.{◌≡◌, ◌+◌, ℕ, List, [], length}
use Rattle.cal_context.specs.Tree.{Grows, Tree}
use Rattle.cal_value.specs.declared.record.Rec.{Rec}
use Rattle.cal_write.specs.CanonicalText.{canonical_text, record_text, rows_text}
use Rattle.cal_write.specs.Kept.{IsKept}
use Rattle.cal_write.specs.Nodes.{Node, built_in, nodes, with_record}
use Rattle.cal_write.specs.WriterGrows.{IsKept-stays}
use Rattle.cal_write.specs.Written.{Written}
use Rattle.cal_write.specs.declared.measurer.Measure.{Measure}
use Rattle.cal_write.specs.declared.measurer.Measurer.{Measurer}

-- a stream of which the nodes alone are known
abbrev pub no_text : List Node → Written
no_text ns = record { nodes = ns; text = [] }

-- Rows were counted, from a context as it stands, and so were the bytes of their text; what is kept
-- beside are the nodes that they need.
pub record HasMeasured (m : Measurer) (t : Tree) (rs : List Rec) : Type 0 where
  pub kept : IsKept t m.writer.nodes (no_text (nodes rs))
  pub rows : m.so_far.rows ≡ length rs
  pub bytes : m.so_far.bytes ≡ length (rows_text built_in rs)

-- the bytes of a record were counted, whatever nodes were written before
pub record CountsBytes (t : Tree) (old new : Measurer) (sort : List ℕ) (r : Rec) : Type 0 where
  pub kept : (ns : List Node) → IsKept t old.writer.nodes (no_text ns)
      → IsKept t new.writer.nodes (no_text (with_record ns r))
  pub bytes : (ns : List Node) → IsKept t old.writer.nodes (no_text ns)
      → new.so_far.bytes ≡ old.so_far.bytes + length (record_text sort ns r)

-- how much the rows are that had been counted, whichever they are, with these globals
abbrev pub MeasuresWith : (List Rec → Type 0) → Rec → Measure → Type 0
MeasuresWith had globals measure = (rows : List Rec) → had rows → measure ≡ record {
  rows = length rows;
  bytes = length (canonical_text (record { rows = rows; globals = globals }));
}

-- what was counted stays so while the context grows
pub HasMeasured-stays : (m : Measurer) (old new : Tree) (rs : List Rec) → HasMeasured m old rs
    → Grows old new → HasMeasured m new rs
HasMeasured-stays m old new rs had grows = record {
  kept = IsKept-stays old new m.writer.nodes (no_text (nodes rs)) grows had.kept;
  rows = had.rows;
  bytes = had.bytes;
}

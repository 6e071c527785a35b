use Rattle.std.specs.Prelude.{◌≡◌, List, None}
use Rattle.cal_context.specs.Tree.{Tree}
use Rattle.cal_value.specs.declared.record.Rec.{Rec}
use Rattle.cal_tabfmt.specs.Expand.{expand_lines}
use Rattle.cal_tabfmt.specs.Snapshots.{AreReady}
use Rattle.cal_tabfmt.specs.declared.writer.ExpandWriter.{ExpandWriter}

-- The writer has taken these records from a context as it stands: its text is their plain lines,
-- and what it noted of attributes is right.
pub record HasTaken (w : ExpandWriter) (t : Tree) (rows : List Rec) : Type 0 where
  pub text : w.text ≡ expand_lines None rows
  pub ready : AreReady t w.cells

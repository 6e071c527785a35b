use Rattle.std.specs.Prelude.{◌≡◌, ℕ, true, false, List, ◌++◌}
use Rattle.cal_context.specs.Tree.{Tree}
use Rattle.cal_value.specs.declared.record.Rec.{Rec}
use Rattle.cal_write.specs.Nodes.{with_record}
use Rattle.cal_write.specs.CanonicalText.{canonical_text, record_text}
use Rattle.cal_write.specs.Kept.{IsKept}
use Rattle.cal_write.specs.Written.{Written, written}
use Rattle.cal_write.specs.declared.node_writer.NodeWriter.{NodeWriter}
use Rattle.cal_write.specs.declared.writer.Writer.{Writer}

-- a stream with one record more
abbrev pub with_text_of : List ℕ → Written → Rec → Written
with_text_of sort s r = record {
  nodes = with_record s.nodes r;
  text = s.text ++ record_text sort s.nodes r;
}

-- a record was written, whatever was written before
abbrev pub WritesRecord : Tree → NodeWriter → NodeWriter → List ℕ → Rec → Type 0
WritesRecord t old new sort r =
    (s : Written) → IsKept t old s → IsKept t new (with_text_of sort s r)

-- The writer has taken these records from a context as it stands: its text is theirs, and it knows
-- the nodes that they need.
pub record HasTaken (w : Writer) (t : Tree) (rows : List Rec) : Type 0 where
  pub sound : w.refused ≡ false
  pub kept : IsKept t w.nodes (written rows)

-- the writer ran out of memory once, and takes nothing more
abbrev pub IsRefused : Writer → Type 0
IsRefused w = w.refused ≡ true

-- a text is that of the rows that had been taken, whichever they are, and of these globals
abbrev pub EndsWith : (List Rec → Type 0) → Rec → List ℕ → Type 0
EndsWith had globals text =
    (rows : List Rec) → had rows → text ≡ canonical_text (record { rows = rows; globals = globals })

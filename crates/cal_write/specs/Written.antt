use Rattle.std.specs.Prelude.{ℕ, List, ◌++◌, fold}
use Rattle.cal_value.specs.declared.record.Rec.{Rec}
use Rattle.cal_write.specs.Nodes.{Node, built_in, with_node, nodes}
use Rattle.cal_write.specs.CanonicalText.{lines_of_new, rows_text}

-- a stream so far: its nodes in the order of their ids, and its text
pub record Written : Type 0 where
  pub nodes : List Node
  pub text : List ℕ

-- what is written of rows
abbrev pub written : List Rec → Written
written rows = record { nodes = nodes rows; text = rows_text built_in rows }

-- a stream once these nodes were needed
abbrev pub after : Written → List Node → Written
after s needed = record {
  nodes = fold with_node s.nodes needed;
  text = s.text ++ lines_of_new s.nodes needed;
}

-- a stream with a line more
abbrev pub with_line : Written → List ℕ → Written
with_line s line = record { nodes = s.nodes; text = s.text ++ line }

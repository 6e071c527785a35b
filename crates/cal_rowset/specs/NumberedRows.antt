-- Rows by numbers, one behind another.
use Rattle.std.specs.Prelude.{ℕ, ◌<◌, ◌≤◌, ◌-◌, List, [], drop, length, map, slice_index_or, take}
use Rattle.std.specs.List.{All}
use Rattle.cal_value.specs.declared.record.Rec.{Rec}
use Rattle.cal_context.specs.Snapshots.{IsBelowRoot, entry_of}
use Rattle.cal_context.specs.Tree.{Tree, path_at}
use Rattle.cal_context.specs.declared.numbers.NodeNumber.{NodeNumber}
use Rattle.cal_context.specs.declared.snapshot.Immediate.{Immediate}
use Rattle.cal_context.specs.declared.snapshot.Snapshot.{Snapshot}
use Rattle.cal_rowset.specs.declared.snapshot_list.Extent.{Extent}

-- a row by its nodes and immediates, as a snapshot has them
pub record NumberedRow : Type 0 where
  pub nodes : List NodeNumber
  pub imms : List Immediate

abbrev pub numbered : Snapshot → NumberedRow
numbered s = record { nodes = s.nodes.items; imms = s.imms.items }

-- the record that it means in a context
abbrev pub meant : Tree → NumberedRow → Rec
meant t row = record { paths = map (path_at t) row.nodes; imms = map (entry_of t) row.imms }

-- It is about this context: each of its nodes is one below the root, and each immediate has one of
-- the attributes.
pub record IsWithin (t : Tree) (row : NumberedRow) : Type 0 where
  pub nodes : All (IsBelowRoot t) row.nodes
  pub imms : All (λ i. i.attribute.0 < length t.attributes) row.imms

-- the row at a place of a list; past the end one of no node
abbrev pub nth_numbered : List NumberedRow → ℕ → NumberedRow
nth_numbered rows place = slice_index_or rows place (record { nodes = []; imms = [] })

-- rows in the order of these places
abbrev pub in_order : List NumberedRow → List ℕ → List NumberedRow
in_order rows order = map (nth_numbered rows) order

-- the part of a list from one place up to another
abbrev pub part : {A : Type 0} → List A → ℕ → ℕ → List A
part xs first end = take (end - first) (drop first xs)

-- the row whose nodes and immediates lie there
abbrev pub row_at : List NodeNumber → List Immediate → Extent → NumberedRow
row_at nodes imms e = record {
  nodes = part nodes e.first_node e.nodes_end;
  imms = part imms e.first_imm e.imms_end;
}

-- it lies among so many nodes and immediates
pub record IsExtent (nodes imms : ℕ) (e : Extent) : Type 0 where
  pub nodes_end : e.nodes_end ≤ nodes
  pub first_node : e.first_node ≤ e.nodes_end
  pub imms_end : e.imms_end ≤ imms
  pub first_imm : e.first_imm ≤ e.imms_end

use Rattle.std.specs.Prelude.{ℕ, List, [], map, filter}
use Rattle.std.specs.List.{flat_map}
use Rattle.cal_context.specs.Snapshots.{entry_of}
use Rattle.cal_context.specs.Tree.{Tree, path_at}
use Rattle.cal_context.specs.declared.numbers.NodeNumber.{NodeNumber}
use Rattle.cal_context.specs.declared.snapshot.Immediate.{Immediate}
use Rattle.cal_value.specs.declared.attribute.Entry.{Entry}
use Rattle.cal_write.specs.Nodes.{Node, node_of_attribute, needed_by_attribute, needed_below}
use Rattle.cal_write.specs.CanonicalText.{has_entry}
use Rattle.cal_write.specs.Kept.{AreAt, IsKept}
use Rattle.cal_write.specs.Written.{Written, after}
use Rattle.cal_write.specs.declared.node_writer.NodeWriter.{NodeWriter}

-- what these nodes' paths need
abbrev pub needed_by_paths : List Node → List Node
needed_by_paths = flat_map (needed_below [])

-- what the attributes of these entries need
abbrev pub needed_by_entries : List Entry → List Node
needed_by_entries = flat_map (λ e. needed_by_attribute e.attr)

-- what nodes need is there, and they have these ids, whatever was written before
pub record NeedsNodes (t : Tree) (old new : NodeWriter) (nodes : List NodeNumber) (ids : List ℕ)
    : Type 0 where
  pub kept : (s : Written) → IsKept t old s
      → IsKept t new (after s (needed_by_paths (map (path_at t) nodes)))
  pub at : (s : Written) → IsKept t old s
      → AreAt (after s (needed_by_paths (map (path_at t) nodes))).nodes
      (filter has_entry (map (path_at t) nodes)) ids

-- what immediates need is there, and their attributes' nodes have these ids
pub record NeedsImmediates (t : Tree) (old new : NodeWriter) (imms : List Immediate) (ids : List ℕ)
    : Type 0 where
  pub kept : (s : Written) → IsKept t old s
      → IsKept t new (after s (needed_by_entries (map (entry_of t) imms)))
  pub at : (s : Written) → IsKept t old s
      → AreAt (after s (needed_by_entries (map (entry_of t) imms))).nodes
      (map (λ e. node_of_attribute e.attr) (map (entry_of t) imms)) ids

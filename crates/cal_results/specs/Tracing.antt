-- What the snapshots of a trace mean where a context has the numbers of their attributes.
use Rattle.std.specs.Prelude.{◌≡◌, List, Option, Some}
use Rattle.std.specs.List.{AllZip}
use Rattle.cal_channel.specs.Channels.{IsTraced}
use Rattle.cal_channel.specs.Traces.{ShownSnap}
use Rattle.cal_context.specs.Lists.{IsFront}
use Rattle.cal_context.specs.Tree as contexts
use Rattle.cal_context.specs.declared.numbers.NodeNumber.{NodeNumber}
use Rattle.cal_nodes.specs.Numbers.{number_in}
use Rattle.cal_once.specs.declared.seat.RowSeat.{RowSeat}
use Rattle.cal_script.specs.declared.script.Script.{Script}
use Rattle.cal_tree.specs.declared.tree.Tree.{Tree}
use Rattle.cal_value.specs.declared.attribute.Attribute.{Attribute}
use Rattle.cal_value.specs.declared.record.Rec.{Rec}
use Rattle.cal_words.specs.declared.node.NodeId.{NodeId}
use Rattle.cal_words.specs.declared.sort.NodeSort.{NodeSort}

-- By a context, by the run's script, and by what a seat knows of the tree:
module _ (context : contexts.Tree) (script : Script) (tree : Tree)
    (seat : RowSeat NodeSort) where
  -- a snapshot means a record, by attributes that are the first of the context
  pub record SnapMeans (snap : ShownSnap) (rec : Rec) : Type 0 where
    pub attributes : List Attribute
    pub front : IsFront attributes context.attributes
    pub traced : IsTraced attributes script tree seat snap rec

  -- snapshots mean these records, in their order
  pub record TraceMeans (snaps : List ShownSnap) (recs : List Rec) : Type 0 where
    pub attributes : List Attribute
    pub front : IsFront attributes context.attributes
    pub traced : AllZip (IsTraced attributes script tree seat) snaps recs

-- these are the numbers of nodes, in their order
abbrev pub AreNumbersOf : List (Option NodeNumber) → List NodeNumber → List NodeId → Type 0
AreNumbersOf numbers given nodes =
    AllZip (λ (n : NodeNumber) (node : NodeId). number_in numbers node ≡ Some n) given nodes

-- The snapshots of a trace, which stand one behind another in two flat lists.
use Rattle.std.specs.Prelude.{◌≡◌, ◌≤◌, List, [], ◌∷◌, length, slice_range}
use Rattle.cal_channel.specs.declared.ends.TraceEnd.{TraceEnd}
use Rattle.cal_channel.specs.declared.shown.ShownEntry.{ShownEntry}
use Rattle.cal_words.specs.declared.node.NodeId.{NodeId}

-- a snapshot as a thread keeps it: its nodes, and its entries
pub record ShownSnap : Type 0 where
  pub nodes : List NodeId
  pub entries : List ShownEntry

-- nothing stands before the first snapshot
abbrev pub no_end : TraceEnd
no_end = record { nodes = 0; entries = 0 }

module _ (nodes : List NodeId) (entries : List ShownEntry) where
  -- what stands in both lists from one end to another
  abbrev pub snap_between : TraceEnd → TraceEnd → ShownSnap
  snap_between from to = record {
    nodes = slice_range nodes from.nodes to.nodes;
    entries = slice_range entries from.entries to.entries;
  }

  -- the snapshots that have these ends, the first of them from an end on
  abbrev pub snaps_from : TraceEnd → List TraceEnd → List ShownSnap
  snaps_from from [] = []
  snaps_from from (to ∷ ends) = snap_between from to ∷ snaps_from to ends

  -- the ends rise from an end on, and the last one is that of both lists
  abbrev pub CoverFrom : TraceEnd → List TraceEnd → Type 0
  CoverFrom from [] = (from.nodes ≡ length nodes) × (from.entries ≡ length entries)
  CoverFrom from (to ∷ ends) =
      (from.nodes ≤ to.nodes) × (from.entries ≤ to.entries) × CoverFrom to ends

use Rattle.std.specs.Prelude.{◌≡◌, ℕ, ◌<◌, List, [], length, slice_index_or, All}
use Rattle.cal_value.specs.WellFormed.{IsPath}
use Rattle.cal_value.specs.declared.attribute.Attribute.{Attribute}
use Rattle.cal_value.specs.declared.record.Rec.{Rec}
use Rattle.cal_words.specs.declared.node.NodeId.{NodeId}
use Rattle.cal_words.specs.declared.sort.NodeSort.{NodeSort}
use Rattle.cal_snap.specs.declared.snap.Snap.{Snap}
use Rattle.cal_once.specs.declared.view.View.{View}
use Rattle.cal_tree.specs.Paths.{NodeEntry, HasPath, entries_of}

-- The record that a snapshot by nodes means: in place of each node its path, in their order, and
-- the same immediates.
pub record IsExpanded (slots : ℕ) (v : View NodeSort) (attrs : List Attribute) (snap : Snap)
    (rec : Rec) : Type 0 where
  pub same_length : length rec.paths ≡ length snap.refs
  pub paths : (k : ℕ) (path : List NodeEntry) → k < length snap.refs
      → HasPath slots v path (slice_index_or snap.refs k (record { 0 = 0 })).0
      → slice_index_or rec.paths k [] ≡ entries_of attrs path
  pub are_paths : All IsPath rec.paths
  pub imms : rec.imms ≡ snap.imms

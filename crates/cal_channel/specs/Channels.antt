-- What a channel of a thread has taken: the records that its trace and its table mean.
use Rattle.std.specs.Prelude.{◌≡◌, List, ◌++◌, map, flat_map, All, Option, IfSome, IsPermutation}
use Rattle.std.specs.List.{AllZip}
use Rattle.std.specs.Option.{ForSome}
use Rattle.cal_agg.specs.RowLimits.{IsOf64}
use Rattle.cal_board.specs.PathBoards.{AreKnown, entry_in}
use Rattle.cal_board.specs.declared.opened.Opened.{Opened}
use Rattle.cal_channel.specs.Shown.{numbered_entry}
use Rattle.cal_channel.specs.Traces.{ShownSnap}
use Rattle.cal_channel.specs.Values.{ChannelValue}
use Rattle.cal_filter.specs.Numbers.{number_in}
use Rattle.cal_hand.specs.Nodes.{NodeAt}
use Rattle.cal_once.specs.declared.seat.RowSeat.{RowSeat}
use Rattle.cal_run.specs.Held.{Shows}
use Rattle.cal_run.specs.Snapshots.{Sight, snapshot_of}
use Rattle.cal_run.specs.declared.moment.Moment.{Moment}
use Rattle.cal_run.specs.declared.operation.Operation.{Operation}
use Rattle.cal_script.specs.declared.script.Channel.{Channel}
use Rattle.cal_script.specs.declared.script.Script.{Script}
use Rattle.cal_snap.specs.Numbered.{IsKnown, entry_of}
use Rattle.cal_snap.specs.declared.numbered.NumberedEntry.{NumberedEntry}
use Rattle.cal_snap.specs.declared.numbered.NumberedSnap.{NumberedSnap}
use Rattle.cal_table.specs.Snapshots.{StandsFor}
use Rattle.cal_table.specs.Tables.{TableValue}
use Rattle.cal_tree.specs.declared.tree.Tree.{Tree}
use Rattle.cal_value.specs.declared.attribute.Attribute.{Attribute}
use Rattle.cal_value.specs.declared.attribute.Entry.{Entry}
use Rattle.cal_value.specs.declared.record.Rec.{Rec}
use Rattle.cal_value.specs.declared.variant.Variant.{Variant}
use Rattle.cal_words.specs.declared.node.NodeId.{NodeId}
use Rattle.cal_words.specs.declared.sort.NodeSort.{NodeSort}

-- By the attributes of a run's numbers, by its script, and by what a seat knows of the tree:
module _ (attributes : List Attribute) (script : Script) (tree : Tree)
    (seat : RowSeat NodeSort) where
  -- a node stands for open values, and these are their entries
  pub record IsPathShown (node : NodeId) (path : List Entry) : Type 0 where
    pub opened : List (Opened Variant)
    pub is_node : NodeAt tree seat node opened
    pub known : AreKnown script.attributes opened
    pub entries : map (entry_in script.attributes) opened ≡ path

  -- nodes and numbered entries mean a record
  pub record Means (nodes : List NodeId) (entries : List NumberedEntry) (rec : Rec) : Type 0 where
    pub paths : AllZip IsPathShown nodes rec.paths
    pub within : All (IsKnown attributes) entries
    pub imms : map (entry_of attributes) entries ≡ rec.imms

  -- a snapshot of a trace means a record
  abbrev pub IsTraced : ShownSnap → Rec → Type 0
  IsTraced snap rec = Means snap.nodes (map (numbered_entry script.values) snap.entries) rec

  -- a snapshot by numbers, as a table takes it, means a record
  abbrev pub IsCounted : NumberedSnap → Rec → Type 0
  IsCounted snap rec = Means snap.refs.items snap.imms.items rec

  -- a table stands for snapshots that mean these records
  pub record Counts (table : TableValue) (recs : List Rec) : Type 0 where
    pub snaps : List NumberedSnap
    pub means : AllZip IsCounted snaps recs
    pub stands : StandsFor snaps table

  -- Tables count these records together: each counts some of them, and these are all there are, in
  -- whatever order.
  pub record CountTogether (tables : List TableValue) (recs : List Rec) : Type 0 where
    pub parts : List (List Rec)
    pub each : AllZip Counts tables parts
    pub whole : IsPermutation (flat_map (λ (part : List Rec). part) parts) recs

  -- The channel's trace, if it has one, means the records that were taken; and its table, if it has
  -- one, stands for those that weren't flushed.
  pub record HasTaken (c : ChannelValue) (taken unflushed : List Rec) : Type 0 where
    pub trace : IfSome c.trace (λ snaps. AllZip IsTraced snaps taken)
    pub table : IfSome c.table (λ table. Counts table unflushed)

  -- whatever records a channel had taken, with these at the end it has taken them now
  abbrev pub TakesMore : (old new : ChannelValue) → List Rec → Type 0
  TakesMore old new more = (taken unflushed : List Rec) → HasTaken old taken unflushed
      → HasTaken new (taken ++ more) (unflushed ++ more)

-- a number of 64 bits, if it is a number at all
abbrev pub HasSmallNumber : Entry → Type 0
HasSmallNumber e = ForSome (number_in e.value) IsOf64

-- What a moment shows can be taken: the numbers of the snapshot are of 64 bits.
pub record CanTake (tree : Tree) (seat : RowSeat NodeSort) (script : Script)
    (moment : Moment NodeId) (channel : Channel) (op : Option Operation) : Type 0 where
  pub sight : Sight
  pub shows : Shows (NodeAt tree seat) script moment sight
  pub small : All HasSmallNumber (snapshot_of script sight channel op).imms

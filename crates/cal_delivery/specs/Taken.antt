-- What the threads of a run have taken in its channels, by what a seat knows of the tree.
use Rattle.std.specs.Prelude.{◌≡◌, ◌≤◌, ◌^◌, ℕ, true, List, [], ◌++◌, All, flat_map, length}
use Rattle.std.specs.Prelude.{IfSome, Some, if◌then◌else◌, is_some, slice_get}
use Rattle.std.specs.List.{AllZip}
use Rattle.std.specs.declared.random_state.RandomState.{RandomState}
use Rattle.cal_channel.specs.Channels.{CountTogether, IsTraced}
use Rattle.cal_channel.specs.Places.{at_place}
use Rattle.cal_channel.specs.Values.{ChannelValue}
use Rattle.cal_context.specs.Lists.{IsFront}
use Rattle.cal_context.specs.Tree as contexts
use Rattle.cal_filter.specs.Named.{HasSmallNumbers}
use Rattle.cal_once.specs.declared.seat.RowSeat.{RowSeat}
use Rattle.cal_profile.specs.Declared.{IsTrace}
use Rattle.cal_profile.specs.Groups.{channel_query, group_records}
use Rattle.cal_script.specs.declared.script.Channel.{Channel}
use Rattle.cal_script.specs.declared.script.Script.{Script}
use Rattle.cal_table.specs.Shapes.{shape_of}
use Rattle.cal_table.specs.Tables.{TableValue}
use Rattle.cal_table_rows.specs.Meanings.{NamesAreApart}
use Rattle.cal_table_rows.specs.PartSums.{HasPartSums}
use Rattle.cal_tree.specs.declared.tree.Tree.{Tree}
use Rattle.cal_value.specs.declared.attribute.Attribute.{Attribute}
use Rattle.cal_value.specs.declared.record.Rec.{Rec}
use Rattle.cal_words.specs.declared.sort.NodeSort.{NodeSort}

-- The rows of a channel in which these records were taken: with trace the records, and then, with
-- aggregate, the records of their groups.
abbrev pub rows_of : Channel → List Rec → List Rec
rows_of channel recs = (if channel.trace then recs else [])
    ++ (if channel.aggregate then group_records (channel_query channel.query) recs else [])

module _ (attributes : List Attribute) (script : Script) (tree : Tree)
    (seat : RowSeat NodeSort) where
  -- a thread's channel has a trace where the script's has one: of exactly these records
  pub record HasTrace (channel : Channel) (c : ChannelValue) (taken : List Rec) : Type 0 where
    pub has : is_some c.trace ≡ channel.trace
    pub means : IfSome c.trace (λ snaps. AllZip (IsTraced attributes script tree seat) snaps taken)

  -- tables of the channel's shape count these records together
  pub record HasTables (channel : Channel) (tables : List TableValue) (recs : List Rec) : Type 0
    where
      pub hashers : RandomState
      pub shape : All (λ (table : TableValue).
          table.shape ≡ shape_of hashers channel.query.keys channel.query.values attributes) tables
      pub counts : CountTogether attributes script tree seat tables recs

  -- All threads have taken these records in a channel, one thread's behind another's. Each has its
  -- trace of its own; where the channel aggregates the tables count all of them; and they are what a
  -- channel takes in a run: a trace of at most 2^20 records, no number of which is above 2^86 in
  -- magnitude, and no sum over a part of which is too large.
  pub record HaveTaken (channel : Channel) (kept : List ChannelValue) (tables : List TableValue)
      (recs : List Rec) : Type 0 where
    pub takens : List (List Rec)
    pub whole : flat_map (λ (taken : List Rec). taken) takens ≡ recs
    pub traces : AllZip (HasTrace channel) kept takens
    pub counted : channel.aggregate ≡ true → HasTables channel tables recs
    pub known : List Attribute
    pub trace : IsTrace known channel.query recs
    pub few : length recs ≤ 2 ^ 20
    pub small : All HasSmallNumbers recs
    pub sums : HasPartSums channel.query recs

  -- So it is with all channels of the script; each thread has one for each of them, and there is a
  -- list of tables for each.
  pub record HaveAllTaken (of : Channel → List Rec) (channels : List (List ChannelValue))
      (tables : List (List TableValue)) : Type 0 where
    pub many : length tables ≡ length script.channels
    pub own : All (λ (kept : List ChannelValue). length kept ≡ length script.channels) channels
    pub each : (place : ℕ) (channel : Channel) (own : List TableValue)
        → slice_get script.channels place ≡ Some channel → slice_get tables place ≡ Some own
        → HaveTaken channel (at_place place channels) own (of channel)

-- What was taken in each channel of a run, by the attributes of the run's numbers: those of the
-- script are the first of them, they are the first of the context's, and their names are apart.
pub record IsTaken (script : Script) (tree : Tree) (seat : RowSeat NodeSort)
    (context : contexts.Tree) (of : Channel → List Rec) (channels : List (List ChannelValue))
    (tables : List (List TableValue)) : Type 0 where
  pub attributes : List Attribute
  pub declared : IsFront script.attributes attributes
  pub numbered : IsFront attributes context.attributes
  pub apart : NamesAreApart attributes script
  pub taken : HaveAllTaken attributes script tree seat of channels tables

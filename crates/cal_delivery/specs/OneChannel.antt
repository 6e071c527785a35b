-- What was taken in one channel of a run (private).
use Rattle.std.specs.Prelude.{◌≡◌, true, List, IfSome, is_some}
use Rattle.cal_channel.specs.Values.{ChannelValue}
use Rattle.cal_context.specs.Lists.{IsFront}
use Rattle.cal_context.specs.Tree as contexts
use Rattle.cal_delivery.specs.Taken.{HaveTaken}
use Rattle.cal_once.specs.declared.seat.RowSeat.{RowSeat}
use Rattle.cal_results.specs.Tracing.{TraceMeans}
use Rattle.cal_script.specs.declared.script.Channel.{Channel}
use Rattle.cal_script.specs.declared.script.Script.{Script}
use Rattle.cal_table.specs.Tables.{TableValue}
use Rattle.cal_table_rows.specs.Meanings.{NamesAreApart}
use Rattle.cal_tree.specs.declared.tree.Tree.{Tree}
use Rattle.cal_value.specs.declared.attribute.Attribute.{Attribute}
use Rattle.cal_value.specs.declared.record.Rec.{Rec}
use Rattle.cal_words.specs.declared.sort.NodeSort.{NodeSort}

module _ (context : contexts.Tree) (script : Script) (tree : Tree)
    (seat : RowSeat NodeSort) where
  -- all threads have taken these records in a channel, as `IsTaken` says it of all channels
  pub record IsTakenIn (channel : Channel) (kept : List ChannelValue) (tables : List TableValue)
      (recs : List Rec) : Type 0 where
    pub attributes : List Attribute
    pub declared : IsFront script.attributes attributes
    pub numbered : IsFront attributes context.attributes
    pub apart : NamesAreApart attributes script
    pub taken : HaveTaken attributes script tree seat channel kept tables recs

  -- a thread's channel has a trace that means these records
  pub record IsOwnTrace (own : ChannelValue) (recs : List Rec) : Type 0 where
    pub has : is_some own.trace ≡ true
    pub means : IfSome own.trace (λ snaps. TraceMeans context script tree seat snaps recs)

-- What a thread keeps for its channels, and what a line and a flush do to it.
use Rattle.std.specs.Prelude.{◌≡◌, ◌≢◌, ℕ, ◌+◌, ◌≤◌, ◌^◌, Bool, true, if◌then◌else◌}
use Rattle.std.specs.Prelude.{List, All, length, map, zip}
use Rattle.std.specs.Prelude.{Option, Some, None, IfSome, is_some, slice_get, slice_set}
use Rattle.cal_book.specs.Accounts.{blank}
use Rattle.cal_channel.specs.Values.{ChannelValue, new_channel, unflushed_of}
use Rattle.cal_keeping.specs.Hands.{AccountOf, Hands, given_by}
use Rattle.cal_keeping.specs.declared.channels.Channels.{Channels}
use Rattle.cal_process.specs.declared.common.Common.{Common}
use Rattle.cal_replay.specs.Showing.{AreShown}
use Rattle.cal_replay.specs.declared.showing.ShownLine.{ShownLine}
use Rattle.cal_run.specs.Numbers.{AreNamedInSome}
use Rattle.cal_script.specs.declared.journal.Reply as replies
use Rattle.cal_script.specs.declared.script.Channel.{Channel}
use Rattle.cal_script.specs.declared.script.Script.{Script}
use Rattle.cal_table.specs.Tables.{TableValue}
use Rattle.cal_table.specs.declared.shape.TableShape.{TableShape}
use Rattle.cal_thread.specs.declared.thread.Thread.{Thread}

-- a thread's channel before its first line, with a table of a shape where the channel aggregates
abbrev pub new_of : Channel → TableShape → ChannelValue
new_of channel shape =
    new_channel channel.trace (if channel.aggregate then Some shape else None)

-- one for each channel, with the shapes
abbrev pub new_for : List Channel → List TableShape → List ChannelValue
new_for channels shapes = map (λ (c : Channel × TableShape). new_of c.0 c.1) (zip channels shapes)

-- Of a channel of the script a thread keeps nothing yet: no snapshot, and nothing done for it.
pub record IsFresh (channel : Channel) (c : ChannelValue) (account : AccountOf) : Type 0 where
  pub shape : Option TableShape
  pub made : c ≡ new_channel channel.trace shape
  pub nothing : account ≡ blank

-- A channel of a thread may be shown so many lines more, and flushed: it has a trace and a table
-- exactly where the channel has, the table of a shape; and what was given for it, what its table
-- stands for and what may come are 2^20 snapshots at most.
pub record IsReady (left : ℕ) (channel : Channel) (shape : TableShape) (c : ChannelValue)
    (account : AccountOf) : Type 0 where
  pub traces : is_some c.trace ≡ channel.trace
  pub aggregates : is_some c.table ≡ channel.aggregate
  pub made : IfSome c.table (λ table. table.shape ≡ shape)
  pub few : given_by account + unflushed_of c.table + left ≤ 2 ^ 20

-- and so may each of some, place by place
abbrev pub AreEachReady : (left : ℕ) → List Channel → List TableShape → List ChannelValue
    → (ℕ → AccountOf) → Type 0
AreEachReady left channels shapes cs accounts = (place : ℕ) (channel : Channel)
    (shape : TableShape) (c : ChannelValue) → slice_get channels place ≡ Some channel
    → slice_get shapes place ≡ Some shape → slice_get cs place ≡ Some c
    → IsReady left channel shape c (accounts place)

module _ {P H : Type 0} where
  module _ (account : H → ℕ → AccountOf) where
    -- of each channel nothing is kept yet
    abbrev pub AreFresh : Script → Channels P H → Type 0
    AreFresh script kept = (place : ℕ) (channel : Channel) (c : ChannelValue)
        → slice_get script.channels place ≡ Some channel
        → slice_get kept.channels.items place ≡ Some c
        → IsFresh channel c (account kept.hand place)

    -- All channels of a thread are ready, of which there is one for each of the script's, with the
    -- shapes of the tables that its hand takes; where one of them has the timer, readings are kept.
    pub record AreReady (takes : H → ℕ → List TableShape → Type 0) (script : Script)
        (kept : Channels P H) (timed : Bool) (left : ℕ) : Type 0 where
      pub named : AreNamedInSome script kept.numbers.now
      pub many : length kept.channels.items ≡ length script.channels
      pub shapes : List TableShape
      pub shaped : length shapes ≡ length script.channels
      pub takes_them : takes kept.hand kept.thread shapes
      pub timed_is : All (λ (channel : Channel). channel.timer ≡ true → timed ≡ true)
          script.channels
      pub each : AreEachReady left script.channels shapes kept.channels.items
          (account kept.hand)

    -- A flush of the channel at a place was replied to so, parts go where they went, and nothing
    -- else is changed.
    pub record IsFlushedAt (stays : H → H → Type 0) (old new : Channels P H) (place : ℕ)
        (reply : replies.Reply) : Type 0 where
      pub was : ChannelValue
      pub is : ChannelValue
      pub part : TableValue
      pub channel_at : slice_get old.channels.items place ≡ Some was
      pub part_is : was.table ≡ Some part
      pub handed : Hands old.thread (account old.hand place) (account new.hand place) was is part
          reply
      pub channels : new.channels.items ≡ slice_set old.channels.items place is
      pub others : (other : ℕ) → other ≢ place
          → account new.hand other ≡ account old.hand other
      pub hand : stays old.hand new.hand
      pub same : new ≡ record old { channels = new.channels; hand = new.hand }

  -- Each channel was shown a line, and nothing else is changed but the room for words.
  pub record AreToldOf (common : Common) (old new : Channels P H) (thread : Thread)
      (told : ShownLine) : Type 0 where
    pub shown : AreShown common old.numbers.now thread told old.channels.items new.channels.items
    pub same : new ≡ record old { channels = new.channels; words = new.words }

-- What the channels of a thread take of a line, which they are shown behind its look at the process
-- and before its change.
use Rattle.std.specs.Prelude.{◌≡◌, ℕ, ◌+◌, ◌≤◌, ◌^◌, Bool, true, List, [], ◌∷◌, length}
use Rattle.std.specs.Prelude.{if◌then◌else◌, ◌&&◌, Some, All, slice_get}
use Rattle.cal_channel.specs.Channels.{TakesMore}
use Rattle.cal_channel.specs.SmallNumbers.{HasSaidValues}
use Rattle.cal_channel.specs.Values.{ChannelValue, HasRoom, KeepsServices, unflushed_of}
use Rattle.cal_once.specs.Seats.{view}
use Rattle.cal_once.specs.Views.{Learns}
use Rattle.cal_process.specs.declared.common.Common.{Common}
use Rattle.cal_replay.specs.declared.showing.ShownLine.{ShownLine}
use Rattle.cal_run.specs.Lines.{operation_of, takes}
use Rattle.cal_run.specs.Numbers.{AreNamed}
use Rattle.cal_run.specs.Snapshots.{Sight, snapshot_of}
use Rattle.cal_run.specs.Steps.{ThreadState}
use Rattle.cal_run.specs.declared.numbers.Numbers.{Numbers}
use Rattle.cal_script.specs.declared.script.Channel.{Channel}
use Rattle.cal_script.specs.declared.script.Script.{Script}
use Rattle.cal_thread.specs.Threads.{HasState, sight_of}
use Rattle.cal_thread.specs.declared.thread.Thread.{Thread}
use Rattle.cal_value.specs.declared.attribute.Attribute.{Attribute}
use Rattle.cal_value.specs.declared.record.Rec.{Rec}
use Rattle.cal_words.specs.declared.op.OpRec.{OpRec}

-- The thread has learned of the tree, and used no words there; else it is as before.
pub record OnlyReads (old new : Thread) : Type 0 where
  pub same : new ≡ record old { tree = new.tree }
  pub learns : Learns (view old.tree) (view new.tree)

-- there is room for so many snapshots more in the table of each channel, as far as it has one
abbrev pub HaveRoomFor : ℕ → List ChannelValue → Type 0
HaveRoomFor more channels =
    All (λ (c : ChannelValue). unflushed_of c.table + more ≤ 2 ^ 20) channels

-- A line may be shown to channels: there is one for each of the script's, and room for a snapshot
-- in each; and where one has the timer, readings are kept.
pub record MayShow (script : Script) (thread : Thread) (channels : List ChannelValue) : Type 0 where
  pub many : length channels ≡ length script.channels
  pub room : All HasRoom channels
  pub timed : All (λ (channel : Channel). channel.timer ≡ true → thread.timed ≡ true)
      script.channels

-- A thread has seen some operations and has some state, whose board has values of the script alone.
pub record IsSaid (common : Common) (thread : Thread) : Type 0 where
  pub h : List OpRec
  pub state : ThreadState
  pub has : HasState common thread h state
  pub said : HasSaidValues common.script.now state.board

module _ (common : Common) (numbers : Numbers) (thread : Thread) (shown : ShownLine) where
  abbrev script : Script
  script = common.script.now

  -- a channel takes a snapshot of the line
  abbrev pub is_taken_by : Channel → Bool
  is_taken_by channel = shown.accepted && takes script channel shown.line

  -- what it takes of what the line sees
  abbrev pub taken_of : Channel → Sight → List Rec
  taken_of channel sight = if is_taken_by channel
      then snapshot_of script sight channel (operation_of shown.line) ∷ [] else []

  -- what the line sees behind these operations, by a channel with this reading before
  abbrev pub sight_by : List OpRec → ThreadState → (previous : ℕ) → Sight
  sight_by h state previous =
      sight_of script h thread.process.seen state shown.reading previous

  -- A channel was shown the line: it has taken more by exactly the snapshot that the plain meaning
  -- of a run takes of what the thread sees, if it takes one; and the line's reading is its reading
  -- before, where it has the timer and took one.
  pub record IsShown (channel : Channel) (old new : ChannelValue) : Type 0 where
    pub takes : (attributes : List Attribute) (h : List OpRec) (state : ThreadState)
        → AreNamed attributes script numbers → HasState common thread h state
        → TakesMore attributes script common.tree thread.tree old new
        (taken_of channel (sight_by h state old.previous))
    pub previous : new.previous
        ≡ (if channel.timer && is_taken_by channel then shown.reading else old.previous)
    pub services : KeepsServices old new

  -- and so was each channel of the script
  pub record AreShown (old new : List ChannelValue) : Type 0 where
    pub many : length new ≡ length old
    pub each : (place : ℕ) (channel : Channel) (was is : ChannelValue)
        → slice_get script.channels place ≡ Some channel → slice_get old place ≡ Some was
        → slice_get new place ≡ Some is → IsShown channel was is

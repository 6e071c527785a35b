-- What a running thread keeps over its lines: its worker, and its channels as the plain meaning of
-- a run has them.
use Rattle.std.specs.Prelude.{◌≡◌, ℕ, ◌<◌, ◌-◌, List, ◌++◌, Contains, length}
use Rattle.std.specs.Prelude.{Option, Some, slice_get}
use Rattle.cal_channel.specs.Values.{ChannelValue}
use Rattle.cal_keeping.specs.Hands.{AccountOf}
use Rattle.cal_keeping.specs.Kept.{AreFresh, AreReady, AreToldOf, IsFlushedAt}
use Rattle.cal_keeping.specs.declared.channels.Channels.{Channels}
use Rattle.cal_keeping.specs.declared.runner.Runner.{Runner}
use Rattle.cal_notes.specs.Together.{HasFlushed}
use Rattle.cal_replay.specs.Channels.{HasShownLines}
use Rattle.cal_replay.specs.Steps.{StepsOver}
use Rattle.cal_replay.specs.Workers.{IsHired, IsWorker, lines_done, lines_of, script_of}
use Rattle.cal_replay.specs.declared.shared.Shared.{Shared}
use Rattle.cal_replay.specs.declared.worker.Worker.{Worker}
use Rattle.cal_run.specs.Numbers.{AreNamed}
use Rattle.cal_script.specs.declared.journal.Reply.TheVariants as reply
use Rattle.cal_script.specs.declared.script.Channel.{Channel}
use Rattle.cal_table.specs.declared.shape.TableShape.{TableShape}
use Rattle.cal_value.specs.declared.attribute.Attribute.{Attribute}
use Rattle.cal_words.specs.declared.op.OpRec.{OpRec}

-- how many lines a worker has before it
abbrev pub lines_left : Shared → Worker → ℕ
lines_left shared w =
    length (lines_of (script_of shared) w.thread.number) - length w.note.lines

-- Over a worker's lines a channel has taken what the plain meaning of a run takes, part by part as
-- they were given. Whom a flush was busy with was met; where a part was given a flush was merged;
-- and no turn was given up.
pub record HasKept (shared : Shared) (attributes : List Attribute) (w : Worker) (h : List OpRec)
    (place : ℕ) (channel : Channel) (c : ChannelValue) (account : AccountOf) : Type 0 where
  pub shown : HasShownLines shared.common attributes w.thread.tree h
      (lines_done (script_of shared) w) w.note channel c account.given
  pub busy : (holder : ℕ)
      → HasFlushed place (reply.Busy holder) (lines_done (script_of shared) w) w.note
      → Contains account.met holder
  pub merged : 0 < length account.given
      → HasFlushed place reply.Merged (lines_done (script_of shared) w) w.note
  pub turns : account.given_up ≡ 0

module _ {P H : Type 0} (account : H → ℕ → AccountOf) where
  -- and so has each of its channels
  abbrev pub HaveKept : Shared → List Attribute → Worker → List OpRec → Channels P H → Type 0
  HaveKept shared attributes w h kept = (place : ℕ) (channel : Channel) (c : ChannelValue)
      → slice_get (script_of shared).channels place ≡ Some channel
      → slice_get kept.channels.items place ≡ Some c
      → HasKept shared attributes w h place channel c (account kept.hand place)

  module _ (takes : H → ℕ → List TableShape → Type 0) (shared : Shared) where
    -- A running thread that wasn't started: nothing is noted, and nothing kept.
    pub record IsHiredRunner (r : Runner P H) : Type 0 where
      pub worker : IsHired shared r.worker
      pub fresh : AreFresh account (script_of shared) r.channels
      pub thread : r.channels.thread ≡ r.worker.thread.number
      pub ready : AreReady account takes (script_of shared) r.channels shared.timers.some
          (lines_left shared r.worker)

    -- A running thread between two lines: its worker has seen exactly these operations, its
    -- channels have kept what they should, and they are ready for the lines that are left.
    pub record IsRunner (r : Runner P H) (h : List OpRec) : Type 0 where
      pub worker : IsWorker shared r.worker h
      pub kept : (attributes : List Attribute)
          → AreNamed attributes (script_of shared) r.channels.numbers.now
          → HaveKept shared attributes r.worker h r.channels
      pub thread : r.channels.thread ≡ r.worker.thread.number
      pub ready : AreReady account takes (script_of shared) r.channels shared.timers.some
          (lines_left shared r.worker)

    -- for some operations
    abbrev pub IsSomeRunner : Runner P H → Type 0
    IsSomeRunner r = (h : List OpRec) × IsRunner r h

    -- It has done all its lines, and has seen these operations more.
    pub record RanAll (r : Runner P H) (h : List OpRec) : Type 0 where
      pub ops : List OpRec
      pub kept : IsRunner r (h ++ ops)
      pub all : lines_done (script_of shared) r.worker
          ≡ lines_of (script_of shared) r.worker.thread.number

-- The thread's number is the same, and what its channels share with those of all threads; parts go
-- where they went.
pub record SameServices {P H : Type 0} (stays : H → H → Type 0) (old new : Channels P H)
    : Type 0 where
  pub thread : new.thread ≡ old.thread
  pub numbers : new.numbers ≡ old.numbers
  pub hand : stays old.hand new.hand
  pub probes : new.probes ≡ old.probes

-- A step of a runner is one of its worker, whose channels are told of the line.
abbrev pub StepsOn : {K P H : Type 0} → (account : H → ℕ → AccountOf) → (stays : H → H → Type 0)
    → (shared : Shared) → (given : K → Option (List ℕ)) → (was is : K)
    → (old new : Runner P H) → Type 0
StepsOn account stays shared given was is old new = StepsOver shared given AreToldOf
    (IsFlushedAt account stays) was is old.channels new.channels old.worker new.worker

-- What running threads leave whose parts were collected.
use Rattle.std.specs.Prelude.{◌≡◌, ℕ, ◌<◌, true, List, length, drop, Option, Some}
use Rattle.std.specs.Prelude.{slice_get, slice_index_or}
use Rattle.cal_collect.specs.Collecting.{HasMerged}
use Rattle.cal_collect.specs.declared.collector.PartCollector.{PartCollector}
use Rattle.cal_crew.specs.Ran.{HasRun}
use Rattle.cal_crew.specs.declared.shift.Shift.{Shift}
use Rattle.cal_keeping.specs.declared.runner.Runner.{Runner}
use Rattle.cal_live.specs.Sending.{HasEnded, HasSameHome, IsSendingFor, account_of}
use Rattle.cal_live.specs.declared.sending.SenderHand.{SenderHand}
use Rattle.cal_mail.specs.Ends.{AllLastCame, mailbox_of, senders_of}
use Rattle.cal_replay.specs.declared.shared.Shared.{Shared}
use Rattle.cal_table.specs.declared.shape.TableShape.{TableShape}

module _ {K P Q S : Type 0} (shapes : List TableShape) (shared : Shared)
    (given : K → Option (List ℕ)) where
  -- A running thread has run all its lines, as that says; then its sender has ended, and nothing
  -- else is changed.
  pub record HasRunAndEnded (old new : Runner P (SenderHand Q S)) (was is : K) : Type 0 where
    pub before : Runner P (SenderHand Q S)
    pub ran : HasRun account_of (IsSendingFor shapes) HasSameHome shared given old before was is
    pub ended : HasEnded before.channels.hand new.channels.hand
    pub same : new ≡ record before {
      channels = record before.channels { hand = new.channels.hand };
    }

  -- a shift that says so has done so
  pub record HasShiftedAndEnded (old new : Shift P (SenderHand Q S) K) : Type 0 where
    pub whole : new.ran ≡ true
        → HasRunAndEnded old.runner new.runner old.clock new.clock

  -- and so has each of these
  abbrev pub HaveShiftedAndEnded : (old new : List (Shift P (SenderHand Q S) K)) → Type 0
  HaveShiftedAndEnded old new = (place : ℕ) (d : Shift P (SenderHand Q S) K)
      → place < length old
      → HasShiftedAndEnded (slice_index_or old place d) (slice_index_or new place d)

  -- So has each, with the clock at its place, in their order; and further clocks are as before.
  pub record HaveRunAndEnded (old new : List (Runner P (SenderHand Q S))) (was is : List K)
      : Type 0 where
    pub many : length new ≡ length old
    pub clocks : length is ≡ length was
    pub each : (place : ℕ) (had has : Runner P (SenderHand Q S)) (before behind : K)
        → slice_get old place ≡ Some had → slice_get new place ≡ Some has
        → slice_get was place ≡ Some before → slice_get is place ≡ Some behind
        → HasRunAndEnded had has before behind
    pub others : drop (length old) is ≡ drop (length old) was

-- The last message of each sender of its mailbox came to a collector, which has merged all parts.
pub record HasCollected {Q S : Type 0} (shapes : List TableShape) (old new : PartCollector Q S)
    : Type 0 where
  pub merged : HasMerged shapes new
  pub came : AllLastCame new.collector
  pub mailbox : mailbox_of new.collector ≡ mailbox_of old.collector
  pub senders : senders_of new.collector ≡ senders_of old.collector

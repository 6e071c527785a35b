-- What the threads of a run leave whose parts were collected.
use Rattle.std.specs.Prelude.{◌≡◌, ℕ, List, length, map, Some, slice_get}
use Rattle.cal_collect.specs.Parts.{AreMergesOf}
use Rattle.cal_finish.specs.Ended.{HasRun, notes_of, threads_of}
use Rattle.cal_keeping.specs.declared.runner.Runner.{Runner}
use Rattle.cal_live.specs.Sending.{IsSendingFor, account_of, sent_of}
use Rattle.cal_live.specs.declared.sending.SenderHand.{SenderHand}
use Rattle.cal_live_run.specs.declared.handing.Sent.{Sent}
use Rattle.cal_live_run.specs.declared.running.Collected.{Collected}
use Rattle.cal_replay.specs.Workers.{script_of}
use Rattle.cal_start.specs.declared.run.Run.{Run}
use Rattle.cal_table.specs.declared.shape.TableShape.{TableShape}

module _ {P Q S : Type 0} where
  -- of each runner, in their order, its thread, what was noted of it, its channels, and what is
  -- left of its sender
  pub record IsHandedOver (runners : List (Runner P (SenderHand Q S))) (sent : Sent) : Type 0 where
    pub threads : sent.threads.items ≡ threads_of runners
    pub notes : sent.notes ≡ notes_of runners
    pub channels : sent.channels.items
        ≡ map (λ (r : Runner P (SenderHand Q S)). r.channels.channels) runners
    pub ended : map Some sent.ended.items
        ≡ map (λ (r : Runner P (SenderHand Q S)). r.channels.hand.ended) runners

  module _ (shapes : List TableShape) (run : Run) where
    -- The thread of a number has run all its lines, with the run's numbers.
    pub record HasSent (number : ℕ) (r : Runner P (SenderHand Q S)) : Type 0 where
      pub ran : HasRun account_of (IsSendingFor shapes) run.shared number r
      pub numbers : r.channels.numbers.now ≡ run.numbers

    -- one for each thread of the script, in the order of their numbers
    pub record HaveSent (runners : List (Runner P (SenderHand Q S))) : Type 0 where
      pub many : length runners ≡ length (script_of run.shared).threads
      pub each : (number : ℕ) (r : Runner P (SenderHand Q S)) → slice_get runners number ≡ Some r
          → HasSent number r

-- What such threads have left, and for each channel the merge of all tables that they sent for it.
pub record AreCollectedOf (P Q S : Type 0) (shapes : List TableShape) (run : Run)
    (collected : Collected) : Type 0 where
  pub from : List (Runner P (SenderHand Q S))
  pub sent : HaveSent shapes run from
  pub threads : collected.threads.items ≡ threads_of from
  pub notes : collected.notes ≡ notes_of from
  pub channels : collected.channels.items
      ≡ map (λ (r : Runner P (SenderHand Q S)). r.channels.channels) from
  pub merged : AreMergesOf shapes (map (λ (r : Runner P (SenderHand Q S)). sent_of r.channels.hand)
      from) collected.tables.items

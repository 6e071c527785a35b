-- The running threads of a run whose parts are collected, before their first lines.
use Rattle.std.specs.Prelude.{◌≡◌, ℕ, List, length, Some, slice_get}
use Rattle.cal_collect.specs.declared.law.PartLaw.{PartLaw}
use Rattle.cal_collect.specs.declared.part.Part.{Part}
use Rattle.cal_keeping.specs.Runners.{IsHiredRunner}
use Rattle.cal_keeping.specs.declared.runner.Runner.{Runner}
use Rattle.cal_live.specs.Sending.{IsSendingFor, account_of, home_of}
use Rattle.cal_live.specs.declared.sending.SenderHand.{SenderHand}
use Rattle.cal_mail.specs.Ends.{Mailbox}
use Rattle.cal_replay.specs.Workers.{script_of}
use Rattle.cal_start.specs.declared.run.Run.{Run}
use Rattle.cal_table.specs.declared.shape.TableShape.{TableShape}

module _ {P Q S : Type 0} (shapes : List TableShape) (run : Run)
    (mailbox : Mailbox Part (PartLaw S)) where
  -- The running thread of a number, which wasn't started. Its channels have the run's numbers, and
  -- its hand sends to the mailbox, by the thread's number.
  pub record IsHiredToSend (number : ℕ) (r : Runner P (SenderHand Q S)) : Type 0 where
    pub hired : IsHiredRunner account_of (IsSendingFor shapes) run.shared r
    pub own : r.worker.thread.number ≡ number
    pub numbers : r.channels.numbers.now ≡ run.numbers
    pub home : home_of r.channels.hand ≡ Some (record { mailbox = mailbox; number = number })

  -- these are the threads of the numbers below one
  pub record AreHiredBelow (runners : List (Runner P (SenderHand Q S))) (number : ℕ) : Type 0 where
    pub many : length runners ≡ number
    pub each : (k : ℕ) (r : Runner P (SenderHand Q S)) → slice_get runners k ≡ Some r
        → IsHiredToSend k r

  -- one for each thread of the script, in the order of their numbers
  abbrev pub AreHiredToSend : List (Runner P (SenderHand Q S)) → Type 0
  AreHiredToSend runners = AreHiredBelow runners (length (script_of run.shared).threads)

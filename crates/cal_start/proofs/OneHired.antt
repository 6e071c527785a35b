-- The runner of a thread that is hired may be started.
use Rattle.std.proofs.Common.{◌≡◌, ℕ, ◌<◌, ◌≤◌, ◌^◌, Bool, true, length}
use Rattle.std.proofs.Common.{sym, ◌∙◌, subst, arith}
use Rattle.std.specs.Prelude.{All}
use Rattle.cal_keeping.specs.Hands.{IsAtBooks, account_in}
use Rattle.cal_keeping.specs.Kept.{AreFresh, AreReady}
use Rattle.cal_keeping.specs.Runners.{lines_left}
use Rattle.cal_keeping.specs.declared.book_hand.BookHand.{BookHand}
use Rattle.cal_keeping.specs.declared.runner.Runner.{Runner}
use Rattle.cal_replay.specs.Workers.{IsHired, lines_of, script_of}
use Rattle.cal_script.specs.declared.script.Channel.{Channel}
use Rattle.cal_start.proofs.ScriptLimits.{few-lines, timed-channels}
use Rattle.cal_start.specs.Hired.{IsHiredFor}
use Rattle.cal_start.specs.Runs.{IsRun}
use Rattle.cal_start.specs.declared.run.Run.{Run}

module _ (run : Run) (is : IsRun run) (number : ℕ)
    (within : number < length (script_of run.shared).threads) where
  -- its runner may be started
  pub hired-for : {P : Type 0} (r : Runner P BookHand) → IsHired run.shared r.worker
      → r.worker.thread.number ≡ number → AreFresh account_in (script_of run.shared) r.channels
      → ((timed : Bool) (left : ℕ) → left ≤ 2 ^ 20
      → All (λ (channel : Channel). channel.timer ≡ true → timed ≡ true)
      (script_of run.shared).channels
      → AreReady account_in IsAtBooks (script_of run.shared) r.channels timed left)
      → r.channels.thread ≡ number → r.channels.numbers.now ≡ run.numbers
      → r.channels.hand.books.now ≡ run.books.items → IsHiredFor run number r
  hired-for r hired own fresh ready thread numbers books =
      let few : length (lines_of (script_of run.shared) r.worker.thread.number) ≤ 2 ^ 20 =
      subst (λ (n : ℕ). length (lines_of (script_of run.shared) n) ≤ 2 ^ 20) (sym own)
      (few-lines (script_of run.shared) number is.shared.common.runnable within) in
      record {
        hired = record {
          worker = hired;
          fresh = fresh;
          thread = thread ∙ sym own;
          ready = ready run.shared.timers.some (lines_left run.shared r.worker)
              (omega (arith, few))
              (timed-channels (script_of run.shared) run.shared.timers is.shared.timers);
        };
        own = own;
        numbers = numbers;
        books = books;
      }

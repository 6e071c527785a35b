use Rattle.std.proofs.Common.{◌≡◌, ◌+◌, ℕ, List, length, sym, subst, arith}
use Rattle.cal_keeping.specs.declared.book_hand.BookHand.{BookHand}
use Rattle.cal_keeping.specs.declared.runner.Runner.{Runner}
use Rattle.cal_replay.specs.Workers.{script_of}
use Rattle.cal_start.proofs.ManyRunners.{AreHiredBelow, hired-more}
use Rattle.cal_start.specs.FirstSeats.{HaveHired}
use Rattle.cal_start.proofs.run.Run.hire.Goals as goal

pub loop-number-preserved : goal.loop-number-preserved
loop-number-preserved g c = record {
  hired = subst
      (λ (xs : List (Runner g.row.P.Denot BookHand)).
      AreHiredBelow c.args.self.now xs (c.loop-number.number + 1))
      (sym c.in_ok-push.ensures.items)
      (hired-more c.args.self.now c.loop-number.runners.items c.loop-number.number
      c.in_ok-runner.runner c.loop-number.invariant.hired c.in_ok-runner.ensures.hired);
  first = c.in_ok-runner.ensures.first;
}

pub returns-clause-first : goal.returns-clause-first
returns-clause-first g c =
    let few = c.requires.run.shared.common.runnable.few_threads in
    let e : c.loop-number.number ≡ length (script_of c.args.self.now.shared).threads =
    omega (arith, few, c.len-threads.ensures) in
    subst (λ (n : ℕ). HaveHired c.args.self.now c.loop-number.first n) e
    c.loop-number.invariant.first

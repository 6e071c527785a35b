use Rattle.std.proofs.Common.{◌+◌, ◌∙◌, ap}
use Rattle.std.proofs.lemmas.List.Elements.{All-push}
use Rattle.cal_names.specs.Kept.{IsNameSeat}
use Rattle.tests_naming.specs.declared.threads.Worker.{Worker}
use Rattle.tests_naming.proofs.threads.hire.Goals as goal

pub loop-number-preserved : goal.loop-number-preserved
loop-number-preserved c = record {
  seat = c.hire_one-worker.ensures.seat;
  first = c.hire_one-worker.ensures.first;
  made = c.hire_one-worker.ensures.others ∙ ap (λ n. n + 1) c.loop-number.invariant.made;
  hired = c.in_ok-push.ensures.len ∙ ap (λ n. n + 1) c.loop-number.invariant.hired;
  seats = rw c.in_ok-push.ensures.items
      (All-push (λ (w : Worker). IsNameSeat c.args.names.now w.seat) c.loop-number.workers.items
      c.hire_one-worker.result c.loop-number.invariant.seats c.hire_one-worker.ensures.worker);
}

use Rattle.std.proofs.Common.{◌+◌, ◌∙◌, ap}
use Rattle.std.proofs.lemmas.List.Elements.{All-push}
use Rattle.bench.specs.Workers.{IsWorker}
use Rattle.bench.specs.declared.tree.Worker.{Worker}
use Rattle.bench.proofs.tree.hire.Goals as goal

pub loop-number-preserved : goal.loop-number-preserved
loop-number-preserved c =
    let worker : Worker = record { seat = c.another-seat.result; values = c.in_ok-values.values } in
    record {
      seat = c.another-seat.ensures.seats.0;
      first = c.another-seat.ensures.first;
      made = c.another-seat.ensures.others ∙ ap (λ n. n + 1) c.loop-number.invariant.made;
      hired = c.in_ok-push.ensures.len ∙ ap (λ n. n + 1) c.loop-number.invariant.hired;
      ready = rw c.in_ok-push.ensures.items
          (All-push (IsWorker c.args.tree.now) c.loop-number.workers.items worker
          c.loop-number.invariant.ready
          (record { seat = c.another-seat.ensures.seats.1; short = c.in_ok-values.ensures }));
    }

use Rattle.std.proofs.Common.{◌++◌, ◌∷◌, [], ◌∙◌, ap, subst, All, IsSome, drop, List, length, length-append}
use Rattle.cal_book.specs.Seats.{view}
use Rattle.tests_book.specs.declared.worker.Worker.{Worker}
use Rattle.tests_book.specs.Workers.{AreWorkers}
use Rattle.tests_book.proofs.Joining.{AreWorkers-front, AreWorkers-last, joined-last}
use Rattle.tests_book.proofs.workers.dismiss.Goals as goal

pub loop-worker-preserved : goal.loop-worker-preserved
loop-worker-preserved c =
    let cell = c.args.cell.now in
    let left = c.pop.new.self.items in
    let worker = c.in-Some.worker in
    let are : AreWorkers cell (left ++ worker ∷ []) =
    subst (λ (ws : List Worker). AreWorkers cell ws) c.in-Some.ensures.items c.loop-worker.invariant.workers in
    let long = ap length c.in-Some.ensures.items ∙ length-append left (worker ∷ []) in
    record {
      seat = c.join.ensures.seat;
      first = ap (λ v. v.thread) c.join.ensures.joined ∙ c.loop-worker.invariant.first;
      workers = AreWorkers-front cell left worker are;
      joined = joined-last cell left worker (view c.loop-worker.first) (view c.join.new.seat)
          (AreWorkers-last cell left worker are) c.join.ensures.joined
          (subst (λ n. All IsSome (drop n (view c.loop-worker.first).others)) long c.loop-worker.invariant.joined);
    }

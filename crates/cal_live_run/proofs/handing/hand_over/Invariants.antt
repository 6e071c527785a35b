use Rattle.std.proofs.Common.{◌≡◌, ◌++◌, length}
use Rattle.std.specs.Vec.Iter.{into_iter_items, into_iter_len}
use Rattle.cal_live_run.specs.Collected.{IsHandedOver}
use Rattle.cal_live_run.proofs.handing.hand_over.Given as goal

-- the runners so far are taken apart
abbrev pub invariant-loop-runner : goal.invariant-loop-runner
invariant-loop-runner g l = record {
  whole : l.yielded ++ into_iter_items l.runner-iterator ≡ l.fn.runners.items;
  left : into_iter_len l.runner-iterator ≡ length (into_iter_items l.runner-iterator);
  handed : IsHandedOver l.yielded l.sent;
}

use Rattle.std.proofs.Common.{◌≡◌, ◌<◌, ◌++◌, ℕ, length}
use Rattle.std.specs.Prelude.{slice_index_or}
use Rattle.std.specs.Vec.Iter.{into_iter_items, into_iter_len}
use Rattle.cal_naming.specs.Workers.{HasJoined, IsFirst, answers_of}
use Rattle.cal_naming.specs.declared.worker.Worker.{Worker}
use Rattle.cal_naming.proofs.join.join_all.Given as goal

-- the workers so far are joined
abbrev pub invariant-loop-worker : goal.invariant-loop-worker
invariant-loop-worker l = record {
  whole : l.yielded ++ into_iter_items l.worker-iterator ≡ l.fn.workers.items;
  left : into_iter_len l.worker-iterator ≡ length (into_iter_items l.worker-iterator);
  first : IsFirst l.names l.first (length l.fn.workers.items);
  joined : (k : ℕ) (d : Worker) → k < length l.yielded
      → HasJoined l.first (slice_index_or l.yielded k d) k;
  answers : l.answers.items ≡ answers_of l.yielded;
}

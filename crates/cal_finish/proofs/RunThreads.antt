-- The threads of runners that have run.
use Rattle.std.proofs.Common.{◌≡◌, ℕ, ◌<◌, List, length, ap, ◌∙◌, subst, sym, arith}
use Rattle.std.specs.Prelude.{All, Some, option_map, slice_get, slice_index_or}
use Rattle.std.proofs.lemmas.List.{length-map}
use Rattle.std.proofs.lemmas.Option.{get_or_from_slice_get, slice_get-map}
use Rattle.cal_ending.specs.Joining.{AreInOrder}
use Rattle.cal_finish.proofs.LawfulRuns.{at-below}
use Rattle.cal_finish.specs.Ended.{HasEnded, HasRun, HaveAllRun, threads_of}
use Rattle.cal_finish.specs.Threads.{IsWholeFor}
use Rattle.cal_keeping.specs.Hands.{AccountOf}
use Rattle.cal_keeping.specs.declared.runner.Runner.{Runner}
use Rattle.cal_notes.specs.Together.{Begins}
use Rattle.cal_process.specs.Operations.{history_of}
use Rattle.cal_replay.specs.Workers.{script_of, state_of}
use Rattle.cal_replay.specs.declared.shared.Shared.{Shared}
use Rattle.cal_script.specs.declared.journal.Placed.{Placed}
use Rattle.cal_table.specs.declared.shape.TableShape.{TableShape}
use Rattle.cal_thread.specs.Threads.{HasSomeState}
use Rattle.cal_thread.specs.declared.thread.Thread.{Thread}

module _ {P H : Type 0} where
  -- the thread of the runner at a place
  thread-at : (runners : List (Runner P H)) (k : ℕ) (r : Runner P H) → slice_get runners k ≡ Some r
      → slice_get (threads_of runners) k ≡ Some r.worker.thread
  thread-at runners k r at = slice_get-map (λ (x : Runner P H). x.worker.thread) runners k
      ∙ ap (option_map (λ (x : Runner P H). x.worker.thread)) at

  pub length-threads_of : (runners : List (Runner P H))
      → length (threads_of runners) ≡ length runners
  length-threads_of runners = length-map runners (λ (x : Runner P H). x.worker.thread)

  module _ (account : H → ℕ → AccountOf) (takes : H → ℕ → List TableShape → Type 0)
      (shared : Shared) (runners : List (Runner P H))
      (run : HaveAllRun account takes shared runners) where
    -- the runner of the thread at a place
    record RanAt (k : ℕ) (t : Thread) : Type 0 where
      pub r : Runner P H
      pub is : r.worker.thread ≡ t
      pub has : HasRun account takes shared k r

    ran-at : (k : ℕ) (d : Thread) → k < length (threads_of runners)
        → RanAt k (slice_index_or (threads_of runners) k d)
    ran-at k d below =
        let long = length-threads_of runners in
        let found = at-below runners k (omega (arith, below, long)) in
        record {
          r = found.item;
          is = sym (get_or_from_slice_get (threads_of runners) k found.item.worker.thread d
              (thread-at runners k found.item found.there));
          has = run.ran k found.item found.there;
        }

    pub have-states : All (HasSomeState shared.common) (threads_of runners)
    have-states k d below =
        let a = ran-at k d below in
        subst (HasSomeState shared.common) a.is
        (a.has.h, state_of (script_of shared) a.has.h a.r.worker, a.has.is.worker.thread.has)

    pub in-order : AreInOrder (threads_of runners)
    in-order k d below =
        let a = ran-at k d below in
        subst (λ (t : Thread). t.number ≡ k) a.is a.has.number

    -- a thread has ended where the history is whole for all
    pub has-ended : (history : List Placed) → IsWholeFor shared.common (threads_of runners) history
        → (k : ℕ) (r : Runner P H) → slice_get runners k ≡ Some r
        → HasEnded account takes shared history k r
    has-ended history whole k r at =
        let has = run.ran k r at in record {
          run = has;
          begins = subst (λ n. Begins n (history_of has.h) history) has.number
              (whole k r.worker.thread (length r.worker.note.lines) has.h
              (state_of (script_of shared) has.h r.worker) (thread-at runners k r at)
              has.is.worker.thread);
        }

use Rattle.std.proofs.Common.{length, subst}
use Rattle.std.proofs.lemmas.Option.{get_or_from_slice_get, slice_get_within}
use Rattle.cal_ending.specs.Joining.{IsJoined}
use Rattle.cal_thread.specs.declared.thread.Thread.{Thread}
use Rattle.cal_finish.proofs.journal.end_threads.Goals as goal

-- a thread that stands among those that were joined is joined
pub returns-clause-begins : goal.returns-clause-begins
returns-clause-begins c place t done h state at is =
    let ts = c.args.threads.items in
    let tree = c.join_threads.new.tree in
    let log = c.join_threads.new.log in
    c.in_ok-ops.ensures.own tree (length ts) done t h state c.join_threads.ensures.hired
    (subst (λ (u : Thread). IsJoined tree log u) (get_or_from_slice_get ts place t t at)
    (c.join_threads.ensures.joined place t (slice_get_within ts place t at))) is

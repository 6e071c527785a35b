use Rattle.std.proofs.Common.{◌≡◌, ◌<◌, ◌≤◌, [], length, ap, sym, subst, arith, ⊎_elim}
use Rattle.std.specs.Prelude.{Some}
use Rattle.std.proofs.lemmas.Bool.{cases_lt}
use Rattle.std.proofs.lemmas.List.Sums.{get_or-le-sum_by}
use Rattle.cal_process.proofs.ScriptLemmas.{thread-within}
use Rattle.cal_process.specs.Operations.{op_of_line}
use Rattle.cal_run.specs.Lines.{line_at}
use Rattle.cal_process.proofs.process_ops.process_ops.Goals as goal

pub push_ops-requires-clause-lines : goal.push_ops-requires-clause-lines
push_ops-requires-clause-lines c = sym (c.lines_of_thread-lines.ensures [])

pub push_ops-requires-clause-few : goal.push_ops-requires-clause-few
push_ops-requires-clause-few c =
    let script = c.args.script.now in
    let t = c.lines_of_thread-lines.result.now in
    let below : c.loop-thread.thread < length script.threads = omega arith in
    let most = get_or-le-sum_by length script.threads c.loop-thread.thread t below in
    let same = ap length (c.lines_of_thread-lines.ensures t) in
    omega (arith, most, same, c.requires.runnable.few_lines)

pub loop-thread-preserved : goal.loop-thread-preserved
loop-thread-preserved c =
    let script = c.args.script.now in
    let i = c.loop-thread.thread in
    let old = c.loop-thread.invariant in
    let done = c.in_ok-push_ops.ensures in
    record {
      ops = done.ops old.ops;
      all = λ thread number l op less at is. ⊎_elim
          (λ (low : thread < i). done.more op (old.all thread number l op low at is))
          (λ (high : i ≤ thread).
          let e : thread ≡ i = omega (arith, high, less) in
          done.all number l op (subst (λ t. line_at script t number ≡ Some l) e at)
          (subst (λ t. op_of_line script t number l ≡ Some op) e is))
          (cases_lt thread i);
    }

pub returns-clause-all : goal.returns-clause-all
returns-clause-all c thread number l op at is =
    let below = thread-within c.args.script.now thread number l at in
    c.loop-thread.invariant.all thread number l op (omega (arith, below)) at is

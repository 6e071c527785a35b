use Rattle.std.proofs.Common.{ℕ, subst, sym}
use Rattle.cal_thread.specs.Threads.{IsThread}
use Rattle.tests_thread.proofs.ends.do_line.Goals as goal

pub returns-in_default-clause-behind : goal.returns-in_default-clause-behind
returns-in_default-clause-behind c =
    let n = c.requires.next in (
      n.1.0,
      n.1.1,
      subst
          (λ (done : ℕ). IsThread c.args.common.now c.args.thread.now done n.1.0 n.1.1)
          (sym n.2)
          (c.line_done_law.ensures c.args.common.now c.args.thread.now n.0 n.1.0 n.1.1 n.1.2),
    )

pub returns-in-None-clause-behind : goal.returns-in-None-clause-behind
returns-in-None-clause-behind c =
    let n = c.requires.next in (
      n.1.0,
      n.1.1,
      subst
          (λ (done : ℕ). IsThread c.args.common.now c.args.thread.now done n.1.0 n.1.1)
          (sym n.2)
          (c.line_done_law.ensures c.args.common.now c.args.thread.now n.0 n.1.0 n.1.1 n.1.2),
    )

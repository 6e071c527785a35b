use Rattle.std.proofs.Common.{◌≡◌, ◌+◌, ◌++◌, ℕ, Some, subst, sym}
use Rattle.cal_run.specs.Lines.{line_at}
use Rattle.tests_thread.proofs.lines.do_own.Goals as goal

pub look-requires-clause-thread : goal.look-requires-clause-thread
look-requires-clause-thread c =
    let n = c.requires.next in (n.0, n.1.0, n.1.1, n.1.2)

pub change_if-requires-clause-next : goal.change_if-requires-clause-next
change_if-requires-clause-next c =
    let n = c.requires.next in
    let m = c.in_ok-met.ensures.meets n.0 n.1.0 n.1.1 n.1.2 in (
      n.0,
      (n.1.0 ++ m.ops, n.1.1, m.kept),
      subst (λ (k : ℕ).
          line_at c.args.common.now.script.now k (n.0 + 1) ≡ Some c.args.line)
          (sym c.in_ok-met.ensures.number) n.2,
    )

pub returns-clause-behind : goal.returns-clause-behind
returns-clause-behind c done at b =
    let m = c.in_ok-met.ensures.meets done b.0 b.1 b.2 in
    c.in_ok-change_if.ensures.behind done (subst (λ (k : ℕ).
    line_at c.args.common.now.script.now k (done + 1) ≡ Some c.args.line)
    (sym c.in_ok-met.ensures.number) at) (b.0 ++ m.ops, b.1, m.kept)

use Rattle.std.proofs.Common.{◌≡◌, ℕ, Some, subst, sym}
use Rattle.cal_run.proofs.HeldLemmas.{line_at-placed}
use Rattle.cal_run.specs.Lines.{line_at}
use Rattle.tests_thread.specs.Behind.{IsBehind}
use Rattle.tests_thread.proofs.lines.do_line.Goals as goal

-- each line of a script that can be run has its places
pub do_own-requires-clause-placed : goal.do_own-requires-clause-placed
do_own-requires-clause-placed c =
    line_at-placed c.args.common.now.script.now c.args.thread.now.number c.args.number c.args.line
    c.requires.common.runnable c.requires.line

pub do_own-requires-clause-next : goal.do_own-requires-clause-next
do_own-requires-clause-next c =
    let n = c.requires.next in
    let at = subst (λ (k : ℕ). line_at c.args.common.now.script.now c.args.thread.now.number k
    ≡ Some c.args.line) n.2 c.requires.line in
    (n.0, n.1, at)

pub returns-in_ok-reply-in-None-clause-behind : goal.returns-in_ok-reply-in-None-clause-behind
returns-in_ok-reply-in-None-clause-behind c =
    let n = c.requires.next in
    subst (λ (k : ℕ). IsBehind c.args.common.now c.do_own.new.thread k) (sym n.2)
    (c.in_ok-reply-in-None.ensures.behind n.0 (subst (λ (k : ℕ).
    line_at c.args.common.now.script.now c.args.thread.now.number k ≡ Some c.args.line) n.2
    c.requires.line) n.1)

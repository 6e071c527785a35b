use Rattle.std.proofs.Common.{sym, ◌∙◌, arith}
use Rattle.cal_watch.proofs.Entries.{spoken_at}
use Rattle.cal_watch.proofs.asking.holds_on_immediates.Goals as goal

pub returns-then-branch : goal.returns-then-branch
returns-then-branch g c = λ named.
    spoken_at g.D.Decider.condition c.args.context.now c.args.imms.now c.loop-imm.imm-index
    c.imm-item.result (omega arith) c.imm-item.is
    (sym (c.in_ok-speaks_of.ensures named) ∙ c.if-branch.true)

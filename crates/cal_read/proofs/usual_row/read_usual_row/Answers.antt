use Rattle.std.proofs.Common.{subst, arith}
use Rattle.std.proofs.lemmas.List.{take_all}
use Rattle.cal_read.specs.Usual.{IsUsualRow}
use Rattle.cal_read.proofs.usual_row.read_usual_row.Goals as goal

pub returns : goal.returns
returns c = λ named are.
    subst (λ l. IsUsualRow c.args.context.now named l c.read_front_row.new.snapshot) (take_all c.in_ok-end.end c.args.line.now (omega (arith, c.if-end-line.false)))
    (c.in_ok-end.ensures.row named are)

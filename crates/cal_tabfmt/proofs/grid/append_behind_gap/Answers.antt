use Rattle.std.proofs.Common.{◌++◌}
use Rattle.std.proofs.lemmas.Result.{IfOk-weaker}
use Rattle.cal_tabfmt.specs.Grid.{spaces}
use Rattle.cal_tabfmt.proofs.EndLemmas.{HasLine-gap, HasLine-spaces}
use Rattle.cal_tabfmt.proofs.grid.append_behind_gap.Goals as goal

pub returns-then-place-eq0 : goal.returns-then-place-eq0
returns-then-place-eq0 c =
    IfOk-weaker c.append_placed.result _ _
    (λ left appended before line has. rw c.if-place-eq0.true (appended before line has))
    c.append_placed.ensures

pub returns : goal.returns
returns c =
    IfOk-weaker c.append_placed-2.result _ _
    (λ left appended before line has.
    HasLine-gap before _ line _ left c.args.place c.if-place-eq0.false
    (appended before (line ++ spaces 1) (HasLine-spaces before c.args.out.now line c.args.pending has 1 _ c.in_ok-behind.ensures)))
    c.append_placed-2.ensures

use Rattle.std.proofs.Common.{◌-◌, ◌++◌}
use Rattle.std.proofs.lemmas.Result.{IfOk-weaker}
use Rattle.cal_tabfmt.specs.Grid.{spaces, width}
use Rattle.cal_tabfmt.proofs.EndLemmas.{HasLine-left, HasLine-right, HasLine-spaces}
use Rattle.cal_tabfmt.proofs.grid.append_placed.Goals as goal

pub returns-then-shape : goal.returns-then-shape
returns-then-shape c =
    let shape = c.args.shape in
    IfOk-weaker c.append_text.result _ _
    (λ left appended before line has.
    HasLine-right before _ line c.args.text.now left shape c.if-shape.true
    (appended before (line ++ spaces (shape.width - width c.args.text.now)) (rw (c.saturating_sub-room.ensures, c.width.ensures) at (HasLine-spaces before c.args.out.now line c.args.pending has c.saturating_sub-room.result c.in_ok-behind.behind c.in_ok-behind.ensures))))
    c.append_text.ensures

pub returns : goal.returns
returns c =
    let shape = c.args.shape in
    IfOk-weaker c.added-2.result _ _
    (λ sum is before line has.
    HasLine-left before _ line c.args.text.now sum shape c.if-shape.false
    (rw (c.saturating_sub-room.ensures, c.width.ensures) at (HasLine-spaces before c.append_text-2.new.out (line ++ c.args.text.now) c.in_ok-left.left (c.in_ok-left.ensures before line has) c.saturating_sub-room.result sum is)))
    c.added-2.ensures

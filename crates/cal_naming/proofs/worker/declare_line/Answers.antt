use Rattle.std.proofs.Common.{Err, List, ℕ, subst}
use Rattle.cal_names.specs.Answers.{Answers}
use Rattle.cal_names.specs.Kept.{plan_of}
use Rattle.cal_naming.proofs.Refusals.{never-refused}
use Rattle.cal_once.specs.Seats.{view}
use Rattle.cal_naming.proofs.worker.declare_line.Goals as goal

pub returns-in-Err-clause-room : goal.returns-in-Err-clause-room
returns-in-Err-clause-room c room =
    let line = c.args.line.now in
    let plan = plan_of c.args.names.now in
    let v = view c.args.seat.now in
    let w = view c.declare.new.seat in
    absurd (never-refused plan v w line c.in-Err.field-0 c.requires.roomy
    c.in-Err.ensures.seat.sound room
    (subst (λ (name : List ℕ). Answers plan
    (record { name = name; kind = line.kind; props = line.props.0 }) v w (Err c.in-Err.field-0))
    c.as_str.ensures c.in-Err.ensures.answer))

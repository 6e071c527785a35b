use Rattle.cal_once.specs.Seats.{view}
use Rattle.cal_names.specs.Answers.{with_content}
use Rattle.cal_names.specs.Declarations.{Declaration}
use Rattle.cal_names.specs.Kept.{plan_of}
use Rattle.cal_names.proofs.Declaring.{never_open_kept, never_open_placed, open_within, passes_others, published_by_put, says_again}
use Rattle.cal_names.proofs.Reading.{passes_later}
use Rattle.cal_names.proofs.Walking.{nothing_by_looks}
use Rattle.cal_names.proofs.names.Names.declare.Goals as goal

pub returns-in-Kept-clause-again : goal.returns-in-Kept-clause-again
returns-in-Kept-clause-again c kept place same is =
    let d : Declaration = record { name = c.args.name.now; kind = c.args.kind; props = c.args.props } in
    says_again (plan_of c.args.self.now) (view c.args.seat.now) (view c.walk.new.seat) d kept (with_content c.args.name.now c.in-Kept.content) place c.in-Kept.place c.answer.result
    c.walk.ensures.seat.sound c.walk.ensures.later.3 same is c.in-Kept.ensures.meets c.answer.ensures

pub put-requires-clause-from : goal.put-requires-clause-from
put-requires-clause-from c = open_within (plan_of c.args.self.now) (view c.args.seat.now) c.args.name.now c.in-Open.distance c.in-Open.ensures.meets.1

pub put-requires-clause-before : goal.put-requires-clause-before
put-requires-clause-before c =
    let d : Declaration = record { name = c.args.name.now; kind = c.args.kind; props = c.args.props } in
    passes_others (plan_of c.args.self.now) (view c.walk.new.seat) d c.in-Open.distance c.know_name.ensures c.in-Open.ensures.meets.0

pub walk-requires-in-Placed-clause-from : goal.walk-requires-in-Placed-clause-from
walk-requires-in-Placed-clause-from c = open_within (plan_of c.args.self.now) (view c.args.seat.now) c.args.name.now c.in-Open.distance c.in-Open.ensures.meets.1

pub walk-requires-in-Placed-clause-before : goal.walk-requires-in-Placed-clause-before
walk-requires-in-Placed-clause-before c = passes_later (plan_of c.args.self.now) (view c.walk.new.seat) (view c.put.new.seat) c.args.name.now c.in-Open.distance c.put.ensures.later.3 c.in-Open.ensures.meets.0

pub unreachable-requires : goal.unreachable-requires
unreachable-requires c =
    let d : Declaration = record { name = c.args.name.now; kind = c.args.kind; props = c.args.props } in
    let last = c.in-Open-walk.ensures in
    never_open_placed (plan_of c.args.self.now) (view c.walk.new.seat) (view c.put.new.seat) (view c.walk-in-Placed.new.seat) d c.in-Placed.place c.in-Placed.fresh c.in-Open-walk.distance
    c.know_name.ensures c.in-Placed.ensures.answer last.seat.sound last.later.3 last.meets.0 last.meets.1

pub returns-in-Kept-walk-clause-again : goal.returns-in-Kept-walk-clause-again
returns-in-Kept-walk-clause-again c kept place same is = absurd (
    never_open_kept (plan_of c.args.self.now) (view c.args.seat.now) (view c.walk.new.seat) kept place c.args.name.now c.in-Open.distance same is
    c.walk.ensures.seat.sound c.walk.ensures.later.3 c.in-Open.ensures.meets.0 c.in-Open.ensures.meets.1)

pub returns-in-Kept-walk-clause-published : goal.returns-in-Kept-walk-clause-published
returns-in-Kept-walk-clause-published c =
    let d : Declaration = record { name = c.args.name.now; kind = c.args.kind; props = c.args.props } in
    let plan = plan_of c.args.self.now in
    let x = view c.put.new.seat in
    let w = view c.walk-in-Placed.new.seat in
    let last = c.in-Kept-walk.ensures in
    published_by_put plan (view c.args.seat.now) (view c.walk.new.seat) x w d c.in-Placed.place c.in-Placed.fresh
    c.walk.ensures.looks c.in-Placed.ensures.answer (nothing_by_looks plan x w last.looks) last.later.3

pub returns-in-RowsFull-clause-again : goal.returns-in-RowsFull-clause-again
returns-in-RowsFull-clause-again c kept place same is =
    never_open_kept (plan_of c.args.self.now) (view c.args.seat.now) (view c.walk.new.seat) kept place c.args.name.now c.in-Open.distance same is
    c.walk.ensures.seat.sound c.walk.ensures.later.3 c.in-Open.ensures.meets.0 c.in-Open.ensures.meets.1

pub returns-in-ArenaFull-clause-again : goal.returns-in-ArenaFull-clause-again
returns-in-ArenaFull-clause-again c kept place same is =
    never_open_kept (plan_of c.args.self.now) (view c.args.seat.now) (view c.walk.new.seat) kept place c.args.name.now c.in-Open.distance same is
    c.walk.ensures.seat.sound c.walk.ensures.later.3 c.in-Open.ensures.meets.0 c.in-Open.ensures.meets.1

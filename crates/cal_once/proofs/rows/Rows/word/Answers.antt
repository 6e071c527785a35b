use Rattle.std.proofs.Common.{◌+◌, ◌<◌, ℕ, false, ap, subst, arith}
use mathlib.Core.Logic.{dite}
use native.Mathlib.Decide.{ℕ_discrete}
use Rattle.cal_once.specs.Layout.{size_in}
use Rattle.cal_once.specs.Seats.{plan_of}
use Rattle.cal_once.proofs.Seen.{seen_to_be}
use Rattle.cal_once.proofs.Learning.{learns_slot}
use Rattle.cal_once.proofs.rows.Rows.word.Goals as goal
use Rattle.cal_once.proofs.rows.Rows.word.Goals.{After-load-slot}

-- the word lies within the record
is_inside : (g : _) (c : After-load-slot g) → c.args.i < size_in c.load-slot.result
is_inside g c =
    let seen = c.load-slot.ensures.looked in
    let old = c.args.seat.now.seat.me.0 in
    let plan = plan_of c.args.self.now in
    let x = seen_to_be old.seen (c.args.place + 1) c.requires.known.1 in
    dite (ℕ_discrete c.load-slot.result 0)
    (λ none. absurd ((seen.empty plan c.requires.seat.plan none).unknown c.requires.known.1))
    (λ some. let met = learns_slot false c.args.place c.load-slot.result old c.load-slot.new.seat.me.0 (ap (λ m. m.0) seen.view) some in
    let same = (seen.sound plan c.requires.seat.plan).one_word (c.args.place + 1) x.0 c.load-slot.result (met.0.more (c.args.place + 1) x.0 x.1) met.1 in
    subst (λ (w : ℕ). c.args.i < size_in w) same (c.requires.inside x.0 x.1))

pub overflow_add-start : goal.overflow_add-start
overflow_add-start g c = let h = is_inside g (goal.at.overflow_add-start g c).After-load-slot in omega arith

pub read-requires-clause-inside : goal.read-requires-clause-inside
read-requires-clause-inside g c = let h = is_inside g (goal.at.read-requires-clause-inside g c).After-load-slot in (omega arith, omega arith)

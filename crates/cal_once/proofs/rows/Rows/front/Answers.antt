use Rattle.std.proofs.Common.{◌+◌, ◌≤◌, ℕ, false, length, ap, subst}
use mathlib.Core.Logic.{dite}
use native.Mathlib.Decide.{ℕ_discrete}
use Rattle.cal_once.specs.Layout.{size_in}
use Rattle.cal_once.specs.Seats.{plan_of}
use Rattle.cal_once.proofs.Seen.{seen_to_be}
use Rattle.cal_once.proofs.Learning.{learns_slot}
use Rattle.cal_once.proofs.rows.Rows.front.Goals as goal

-- the words lie within the record
pub first_words-requires-clause-long : goal.first_words-requires-clause-long
first_words-requires-clause-long g c =
    let seen = c.load-slot.ensures.looked in
    let old = c.args.seat.now.seat.me.0 in
    let plan = plan_of c.args.self.now in
    let x = seen_to_be old.seen (c.args.place + 1) c.requires.known.1 in
    dite (ℕ_discrete c.load-slot.result 0)
    (λ none. absurd ((seen.empty plan c.requires.seat.plan none).unknown c.requires.known.1))
    (λ some. let met = learns_slot false c.args.place c.load-slot.result old c.load-slot.new.seat.me.0 (ap (λ m. m.0) seen.view) some in
    let same = (seen.sound plan c.requires.seat.plan).one_word (c.args.place + 1) x.0 c.load-slot.result (met.0.more (c.args.place + 1) x.0 x.1) met.1 in
    subst (λ (w : ℕ). length c.args.words.now ≤ size_in w) same (c.requires.long x.0 x.1))

use Rattle.std.proofs.Common.{◌≡◌, ◌<◌, ℕ, length, ap, ◌∙◌, arith}
use Rattle.cal_events.specs.Effects.{line_ended}
use Rattle.cal_events.specs.Worlds.{ThreadWorld, thread_in}
use Rattle.cal_steps.proofs.FlushLemmas.{but-again, ended-long, merged-below}
use Rattle.cal_steps.proofs.FlushLemmas.{merged-within, mid-books, mid-long, mid-thread, on-err}
use Rattle.cal_steps.proofs.MovingLemmas.{flush-ended}
use Rattle.cal_steps.proofs.world.World.flush.Goals as goal

pub hand_over-requires-clause-within : goal.hand_over-requires-clause-within
hand_over-requires-clause-within c =
    let w = c.args.self.now in
    let t = c.args.thread in
    let v = line_ended c.args.script.now w.progress.history c.args.turn (thread_in w t) in
    let long = mid-long w c.end_line.new.self w.progress t v c.requires.within
    c.in_ok-end_line.ensures.ok in
    let below = c.requires.within in
    omega (arith, long, below)

pub hand_over-requires-clause-held : goal.hand_over-requires-clause-held
hand_over-requires-clause-held c =
    let w = c.args.self.now in
    let t = c.args.thread in
    let script = c.args.script.now in
    let v = line_ended script w.progress.history c.args.turn (thread_in w t) in
    let is = mid-thread w c.end_line.new.self w.progress t v c.requires.within
    c.in_ok-end_line.ensures.ok in
    let long = ap (λ (u : ThreadWorld). length u.channels) is
    ∙ ended-long script w.progress.history c.args.turn (thread_in w t) c.requires.long in
    merged-below c.merged_of.result (length (thread_in c.end_line.new.self t).channels)
    (λ channel e. let below = merged-within script c.args.turn.line c.args.turn.note.reply channel
    (e ∙ c.merged_of.ensures) c.requires.placed in omega (arith, long, below))

pub hand_over-requires-clause-book : goal.hand_over-requires-clause-book
hand_over-requires-clause-book c =
    let w = c.args.self.now in
    let t = c.args.thread in
    let script = c.args.script.now in
    let v = line_ended script w.progress.history c.args.turn (thread_in w t) in
    let long = ap (λ bs. length bs)
    (mid-books w c.end_line.new.self w.progress t v c.requires.within
    c.in_ok-end_line.ensures.ok) ∙ c.requires.books in
    merged-below c.merged_of.result (length c.end_line.new.self.books)
    (λ channel e. let below = merged-within script c.args.turn.line c.args.turn.note.reply channel
    (e ∙ c.merged_of.ensures) c.requires.placed in omega (arith, long, below))

pub returns-in_err-hand_over-clause-err : goal.returns-in_err-hand_over-clause-err
returns-in_err-hand_over-clause-err c =
    let w = c.args.self.now in
    let t = c.args.thread in
    let mid = line_ended c.args.script.now w.progress.history c.args.turn (thread_in w t) in
    on-err c.from_residual-in_err-hand_over.result
    (but-again w t c.end_line.new.self c.hand_over.new.self (mid, c.in_ok-end_line.ensures.ok)
    c.in_err-hand_over.ensures.err)

pub returns-clause-ok : goal.returns-clause-ok
returns-clause-ok c = λ journal line.
    flush-ended c.args.script.now journal c.args.self.now c.args.turn c.args.thread _
    c.end_line.new.self c.hand_over.new.self c.self.view_is c.requires.reached
    c.index_mut.result.now c.end_line-2.new.self c.index_mut.ensures.value c.end_line-2.ensures
    c.merged_of.result line c.requires.within c.in_ok-end_line.ensures.ok
    c.in_ok-hand_over.ensures.ok c.merged_of.ensures

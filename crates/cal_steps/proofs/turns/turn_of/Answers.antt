use Rattle.std.proofs.Common.{ap, sym, arith, ◌∙◌, ◌+◌}
use Rattle.cal_steps.proofs.TurningLemmas.{before-is, turn-none_line, turn-none_note, turn-some}
use Rattle.cal_steps.proofs.turns.turn_of.Goals as goal
use Rattle.cal_steps.specs.Turning.{seen_at}

pub returns-in-None : goal.returns-in-None
returns-in-None c =
    sym (turn-none_line c.args.thread 1 0 c.args.lines.now c.args.notes.now c.args.done
    (sym c.in-None.ensures))

pub returns-in-None-get : goal.returns-in-None-get
returns-in-None-get c =
    sym (turn-none_note c.args.thread 1 0 c.args.lines.now c.args.notes.now c.args.done
    (sym c.in-None-get.ensures))

pub returns-in-Some-get : goal.returns-in-Some-get
returns-in-Some-get c =
    before-is c.args.thread (c.args.done + 1) c.in-Some.line.now c.in-Some-get.note.now
    (c.seen_before.ensures ∙ ap (λ ns. seen_at 0 ns c.args.done) c.as_slice.ensures)
    ∙ sym (turn-some c.args.thread 1 0 c.args.lines.now c.args.notes.now c.args.done
    (c.args.done + 1) c.in-Some.line.now c.in-Some-get.note.now (sym c.in-Some.ensures)
    (sym c.in-Some-get.ensures) (omega arith))

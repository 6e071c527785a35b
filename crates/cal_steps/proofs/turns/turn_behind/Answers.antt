use Rattle.std.proofs.Common.{sym, ◌∙◌, arith}
use Rattle.std.specs.Prelude.{None, Some, zip}
use Rattle.cal_steps.proofs.TurningLemmas.{behind-is, few-lines, listed-none_lines}
use Rattle.cal_steps.proofs.TurningLemmas.{listed-none_note, listed-some}
use Rattle.cal_steps.proofs.turns.turn_behind.Goals as goal
use Rattle.cal_world.specs.Turns.{turns_from}

pub turn_of-requires : goal.turn_of-requires
turn_of-requires c =
    let less = few-lines c.args.script.now.threads c.args.thread c.in-Some.lines.now
    (sym c.in-Some.ensures) in
    record { few = omega (arith, less, c.requires.runnable.few_lines) }

pub returns-in-None : goal.returns-in-None
returns-in-None c =
    sym (behind-is c.args.script.now c.args.journal.now c.args.thread c.args.done None
    (listed-none_lines 0 c.args.thread c.args.script.now.threads c.args.journal.now.threads
    (sym c.in-None.ensures)))

pub returns-in-None-get : goal.returns-in-None-get
returns-in-None-get c =
    sym (behind-is c.args.script.now c.args.journal.now c.args.thread c.args.done None
    (listed-none_note 0 c.args.thread c.args.script.now.threads c.args.journal.now.threads
    (sym c.in-None-get.ensures)))

pub returns-in-Some-get : goal.returns-in-Some-get
returns-in-Some-get c =
    c.turn_of.ensures
    ∙ sym (behind-is c.args.script.now c.args.journal.now c.args.thread c.args.done
    (Some (turns_from c.args.thread 1 0 (zip c.in-Some.lines.now c.in-Some-get.note.now.lines)))
    (listed-some 0 c.args.thread c.args.thread c.args.script.now.threads
    c.args.journal.now.threads c.in-Some.lines.now c.in-Some-get.note.now
    (sym c.in-Some.ensures) (sym c.in-Some-get.ensures) (omega arith)))

use Rattle.std.proofs.Common.{sym, take}
use Rattle.std.proofs.lemmas.List.{take_all}
use Rattle.std.proofs.lemmas.List.Elements.{All-more, All-same}
use Rattle.cal_readable.specs.Seen.{IsShortReading}
use Rattle.cal_readable.proofs.readings.see_notes.Goals as goal

pub loop-note-preserved : goal.loop-note-preserved
loop-note-preserved c =
    All-more IsShortReading c.args.notes.now c.loop-note.note-index _ c.loop-note-test.true
    c.loop-note.invariant c.see_note.ensures

pub returns : goal.returns
returns c =
    All-same IsShortReading c.args.notes.now (take c.loop-note.note-index c.args.notes.now)
    (sym (take_all c.loop-note.note-index c.args.notes.now c.loop-note-test.false))
    c.loop-note.invariant

use Rattle.std.proofs.Common.{take}
use Rattle.std.specs.List.{All}
use Rattle.cal_readable.specs.Seen.{IsShortReading}
use Rattle.cal_readable.proofs.readings.see_notes.Given as goal

abbrev pub invariant-loop-note : goal.invariant-loop-note
invariant-loop-note l = All IsShortReading (take l.note-index l.notes)

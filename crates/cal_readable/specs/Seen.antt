-- What the types of the program say of a journal's readings.
use Rattle.std.specs.Prelude.{◌<◌, ◌^◌, All, IfSome}
use Rattle.cal_script.specs.declared.journal.LineNote.{LineNote}
use Rattle.cal_script.specs.declared.journal.ThreadNote.{ThreadNote}

-- the reading of a line, if it took one, has 64 bits
abbrev pub IsShortReading : LineNote → Type 0
IsShortReading note = IfSome note.reading (λ reading. reading < 2 ^ 64)

-- and so have those of a thread's lines
abbrev pub HasShortReadings : ThreadNote → Type 0
HasShortReadings thread = All IsShortReading thread.lines

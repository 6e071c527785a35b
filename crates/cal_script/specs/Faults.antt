-- Where a script goes wrong.
use Rattle.std.specs.Prelude.{ℕ, List}
use Rattle.cal_line.specs.FirstFault.{IsFirstFault}
use Rattle.cal_script.specs.declared.end.ScriptEnd as ends
use Rattle.cal_script.specs.declared.end.ScriptEnd.TheVariants as end
use Rattle.cal_script.specs.declared.kind.ScriptKind.{ScriptKind}
use Rattle.cal_script.specs.Lines.{lines_of}
use Rattle.cal_script.specs.Reading.{line_after}
use Rattle.cal_script.specs.State.{no_lines}

-- the first fault of bytes: its line, counted from 1, and its kind
abbrev pub HasFault : List ℕ → ℕ → ScriptKind → Type 0
HasFault bytes line kind = IsFirstFault line_after no_lines (lines_of bytes) line kind

-- What a refusal says of the bytes: their first fault. Running out of memory says nothing.
abbrev pub IsRefusalOf : List ℕ → ends.ScriptEnd → Type 0
IsRefusalOf bytes (end.BadLine line kind) = HasFault bytes line kind
IsRefusalOf bytes end.OutOfMemory = Unit {0}

-- What the reader of a journal knows of the lines so far (private).
use Rattle.std.specs.Prelude.{◌≡◌, ℕ, Bool, List, Option, Some, None, Result, Ok, Err}
use Rattle.std.specs.Prelude.{if◌then◌else◌}
use Rattle.cal_script.specs.declared.journal.LineNote.{LineNote}
use Rattle.cal_script.specs.declared.journal.ThreadNote.{ThreadNote}
use Rattle.cal_journal.specs.declared.kind.JournalKind.{JournalKind}
use Rattle.cal_journal.specs.declared.kind.JournalKind.TheVariants as kind
use Rattle.cal_journal.specs.declared.ends.LineFault as faults
use Rattle.cal_journal.specs.declared.ends.LineFault.TheVariants as fault
use Rattle.cal_journal.specs.declared.pending.Pending.{Pending}
use Rattle.cal_journal.specs.Reading.{State}

-- A part of a line answers what a definition finds, and where it finds none the line has no form.
abbrev pub Finds : {X Y : Type 0} → (X → Y) → Result X faults.LineFault → Option Y → Type 0
Finds view (Ok x) found = found ≡ Some (view x)
Finds view (Err fault.Form) found = found ≡ None
Finds view (Err fault.After) found = ⊥
Finds view (Err fault.OutOfMemory) found = Unit {0}

-- A line answers what a definition gives, unless memory ran out.
abbrev pub Gives :
    {X Y : Type 0} → (X → Y) → Result X faults.LineFault → Result Y JournalKind → Type 0
Gives view (Ok x) said = said ≡ Ok (view x)
Gives view (Err fault.Form) said = said ≡ Err kind.Form
Gives view (Err fault.After) said = said ≡ Err kind.After
Gives view (Err fault.OutOfMemory) said = Unit {0}

-- the last thread, where one has begun
abbrev pub last_thread : Bool → Option ℕ → List LineNote → Option ThreadNote
last_thread in_thread start notes =
    if in_thread then Some (record { start = start; lines = notes }) else None

-- what stands so far
abbrev pub state_of : Pending → State
state_of pending = record {
  line = pending.line;
  clock = pending.clock;
  ops = pending.ops;
  op_lines = pending.op_lines;
  earlier = pending.earlier;
  thread = last_thread pending.in_thread pending.start pending.notes;
  rows = pending.rows;
  end = pending.end;
}

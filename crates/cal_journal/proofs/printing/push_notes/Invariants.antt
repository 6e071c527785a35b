use Rattle.std.proofs.Common.{◌≡◌, ◌+◌, ◌++◌, drop, take}
use Rattle.std.specs.List.{All}
use Rattle.cal_journal.specs.Printing.{notes_text}
use Rattle.cal_journal.specs.ReadBack.{HoldsNote}
use Rattle.cal_journal.proofs.printing.push_notes.Given as goal

-- what is printed so far, and what is to come, is the whole
abbrev pub invariant-loop-note : goal.invariant-loop-note
invariant-loop-note l = record {
  line : l.line ≡ l.note-index + 1;
  text : l.out ++ notes_text l.thread l.line (drop l.note-index l.notes)
      ≡ l.fn.out ++ notes_text l.thread 1 l.notes;
  held : All HoldsNote (take l.note-index l.notes);
}

use Rattle.std.proofs.Common.{◌≡◌, ◌≤◌, take}
use Rattle.std.specs.Prelude.{count_by}
use Rattle.cal_script.specs.declared.journal.LineNote.{LineNote}
use Rattle.cal_call.specs.Refusals.{is_refusal}
use Rattle.cal_call.proofs.counting.count_in.Given as goal

-- the notes so far
abbrev pub invariant-loop-note : goal.invariant-loop-note
invariant-loop-note l = record {
  counted : l.refused ≡ count_by (λ (n : LineNote). is_refusal n.reply)
      (take l.note-index l.thread.lines);
  few : l.refused ≤ l.note-index;
}

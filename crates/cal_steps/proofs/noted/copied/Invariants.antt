use Rattle.std.proofs.Common.{◌≡◌, take}
use Rattle.cal_steps.proofs.noted.copied.Given as goal

-- the notes so far
abbrev pub invariant-loop-note : goal.invariant-loop-note
invariant-loop-note l = l.copy ≡ take l.note-index l.notes

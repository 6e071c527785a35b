use Rattle.std.proofs.Common.{arith}
use Rattle.std.proofs.lemmas.Grind.{common_steps}
use Rattle.std.proofs.lemmas.List.{take_all}
use Rattle.std.proofs.lemmas.List.Elements.{All-more}
use Rattle.cal_journal.specs.ReadBack.{HoldsNote}
use Rattle.cal_journal.proofs.printing.push_notes.Goals as goal

pub loop-note-preserved : goal.loop-note-preserved
loop-note-preserved c = record {
  line = omega arith;
  text = grind (arith, common_steps);
  held = All-more HoldsNote c.args.notes.now c.loop-note.note-index _ c.loop-note-test.true
      c.loop-note.invariant.held c.in_ok-push_note.ensures.held;
}

pub returns-clause-held : goal.returns-clause-held
returns-clause-held c =
    let past = c.loop-note-test.false in rw take_all at c.loop-note.invariant.held

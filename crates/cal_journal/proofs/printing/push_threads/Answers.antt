use Rattle.std.proofs.Common.{subst, arith}
use Rattle.std.proofs.lemmas.Grind.{common_steps}
use Rattle.std.proofs.lemmas.List.{take_all}
use Rattle.std.proofs.lemmas.List.Elements.{All-more}
use Rattle.cal_journal.specs.ReadBack.{HoldsThread}
use Rattle.cal_journal.proofs.printing.push_threads.Goals as goal

pub loop-note-preserved : goal.loop-note-preserved
loop-note-preserved c = record {
  thread = omega arith;
  text = grind (arith, common_steps);
  held = All-more HoldsThread c.args.threads.now c.loop-note.note-index
      c.note-item.result c.loop-note-test.true c.loop-note.invariant.held
      (subst HoldsThread c.note-item.is c.in_ok-push_thread.ensures.held);
}

pub returns-clause-held : goal.returns-clause-held
returns-clause-held c =
    let past = c.loop-note-test.false in rw take_all at c.loop-note.invariant.held

use Rattle.std.proofs.lemmas.Result.{on_ok_weaker}
use Rattle.cal_journal.proofs.printing.push_thread.Goals as goal

pub returns-clause-held : goal.returns-clause-held
returns-clause-held c =
    on_ok_weaker c.push_notes.result (λ lines. record {
      start = c.in_ok-push_reading.ensures.held;
      lines = rw c.as_slice.ensures at lines;
      few = rw c.as_slice.ensures at c.push_notes.ensures.few;
    }) c.push_notes.ensures.held

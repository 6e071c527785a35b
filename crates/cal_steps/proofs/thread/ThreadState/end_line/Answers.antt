use Rattle.std.proofs.Common.{◌≡◌, ◌-◌, subst, sym, ap, ◌∙◌, if◌then◌else◌, unwrap_or}
use Rattle.std.specs.Prelude.{Option}
use Rattle.cal_run.proofs.LineLemmas.{line-places}
use Rattle.cal_run.specs.Held.{IsKnown}
use Rattle.cal_run.specs.History.{process_board}
use Rattle.cal_run.specs.Lines.{is_process_line}
use Rattle.cal_run.specs.Steps.{is_accepted, reply_to_line}
use Rattle.cal_script.specs.declared.journal.Reply.{Reply}
use Rattle.cal_steps.proofs.EndingLemmas.{ends-left, may-take, process-known}
use Rattle.cal_steps.proofs.thread.ThreadState.end_line.Goals as goal
use Rattle.cal_steps.specs.Sights.{shown_by}

pub finish-requires-clause-places : goal.finish-requires-clause-places
finish-requires-clause-places c =
    line-places c.args.script.now c.args.turn.line c.requires.placed

pub finish-requires-clause-can : goal.finish-requires-clause-can
finish-requires-clause-can c = λ accepted.
    let script = c.args.script.now in
    let l = c.args.turn.line in
    let s = shown_by c.args.self.now c.in_ok-process.process (record {
      reply = c.unwrap_or.result;
      seen = c.args.self.now.seen;
      reading = c.args.turn.note.reading;
    }) in
    record {
      mine = c.requires.known;
      process = subst (IsKnown script) (sym c.in_ok-process.ensures)
          (process-known script c.requires.runnable c.args.history.now c.seen_before-seen.result);
      may = may-take script s l (line-places script l c.requires.placed)
          (sym (c.is_accepted-accepted.ensures ∙ ap is_accepted (c.reply-found.ensures
          ∙ (λ j. reply_to_line script (if c.is_process_line-shared.ensures j
          then c.in_ok-process.process else c.args.self.now.board) l)))
          ∙ accepted);
    }

pub returns : goal.returns
returns c =
    let script = c.args.script.now in
    let history = c.args.history.now in
    let x = c.args.turn in
    let old = c.args.self.now in
    let shared = c.is_process_line-shared.result in
    let process_is : c.in_ok-process.process ≡ process_board script history
    (if is_process_line script x.line then old.seen - 1 else old.seen) =
    c.in_ok-process.ensures ∙ ap (process_board script history) (c.seen_before-seen.ensures
    ∙ (λ j. if c.is_process_line-shared.ensures j then old.seen - 1 else old.seen)) in
    let found = c.reply-found.ensures
    ∙ (λ j. reply_to_line script (if c.is_process_line-shared.ensures j
    then process_is j else old.board) x.line) in
    let reply = c.unwrap_or.ensures ∙ ap (λ (o : Option Reply). unwrap_or o x.note.reply) found in
    record {
      made = λ n j. record { reply = reply j; seen = old.seen; reading = x.note.reading };
      left = λ n. ends-left script history x old c.finish.new.self c.unwrap_or.result shared
          c.is_accepted-accepted.result c.in_ok-process.process
          c.is_process_line-shared.ensures process_is
          (c.is_accepted-accepted.ensures ∙ ap is_accepted found) c.requires.long
          c.in_ok-finish.ensures n
          (λ j. record { reply = reply j; seen = old.seen; reading = x.note.reading });
    }

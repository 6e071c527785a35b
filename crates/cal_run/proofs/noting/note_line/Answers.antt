use Rattle.std.proofs.Common.{◌≡◌, List, ap, subst, sym, ◌∙◌}
use Rattle.cal_run.proofs.PlainLemmas.{found, held-found, kept-plain, noted-is}
use Rattle.cal_run.specs.Noting.{HoldsPlaced, IsPlain, noted}
use Rattle.cal_run.specs.Plain.{plain_history}
use Rattle.cal_run.specs.Steps.{ThreadState, is_accepted, state_after}
use Rattle.cal_script.specs.declared.journal.LineNote.{LineNote}
use Rattle.cal_script.specs.declared.journal.Placed.{Placed}
use Rattle.cal_run.proofs.noting.note_line.Goals as goal

pub returns-clause-noted : goal.returns-clause-noted
returns-clause-noted c =
    λ (state : ThreadState)
    (is : IsPlain c.args.thread.now state).
    let script = c.args.script.now in
    let was = c.args.thread.now in
    let line = c.args.line in
    let before = c.args.process.now.count in
    let sees = subst (λ (h : List Placed). HoldsPlaced script h c.args.process.now)
    c.requires.history c.requires.process in
    let told : c.found_reply-reply.result ≡ found script before state line =
    c.found_reply-reply.ensures
    ∙ held-found script was c.args.process.now state line is sees in
    let made = c.note_of-note.ensures
    ∙ (λ j. noted script before was.seen (is.clock j) line (told j))
    ∙ noted-is script before was.seen state line in
    let ends = c.in_ok-follow.ensures in
    record {
      made = made;
      seen = ends.seen;
      kept = subst (λ (n : LineNote). IsPlain c.follow.new.thread
          (state_after script (plain_history script) line n state))
          (sym made)
          (kept-plain script before was c.follow.new.thread state line c.is_accepted-accepted.result
          (c.is_accepted-accepted.ensures ∙ ap is_accepted told) is ends.board ends.clock);
    }

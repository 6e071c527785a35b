use Rattle.std.proofs.Common.{◌≡◌, ◌++◌, ◌∙◌, sym, ap, subst, Bool}
use Rattle.std.specs.Prelude.{Option, ◌&&◌}
use Rattle.std.specs.List.{list_any}
use Rattle.cal_hand.specs.Nodes.{NodeAt}
use Rattle.cal_process.specs.Operations.{history_of}
use Rattle.cal_run.proofs.LineLemmas.{reply_to_line-Stands}
use Rattle.cal_run.specs.Lines.{takes}
use Rattle.cal_run.specs.Steps.{is_accepted, reply_to_line}
use Rattle.cal_script.specs.declared.journal.Reply.{Reply}
use Rattle.cal_script.specs.declared.script.Channel.{Channel}
use Rattle.cal_thread.proofs.ThreadLemmas.{own-found, own-looks}
use Rattle.cal_thread.specs.Lines.{Looks}
use Rattle.cal_thread.proofs.thread.Thread.look.Goals as goal

pub returns-clause-meets : goal.returns-clause-meets
returns-clause-meets c done h state w =
    let common = c.args.common.now in
    let script = common.script.now in
    let old = c.args.self.now in
    let line = c.args.line in
    let o : Option Reply = c.reply_to_line-reply.result in
    let l = c.in_ok-look_if.ensures.looks done h state w in
    let is : reply_to_line script state.board line ≡ o =
    sym (reply_to_line-Stands (NodeAt common.tree old.tree) script old.board state.board
    w.has.mine.stands line) ∙ sym c.reply_to_line-reply.ensures in
    let takes_as : is_accepted o ≡ c.is_accepted-accepted.result =
    sym c.is_accepted-accepted.ensures in
    let looks_as : c.is_taken-looks.result
    ≡ list_any (λ (c : Channel). is_accepted o && takes script c line) script.channels =
    c.is_taken-looks.ensures
    ∙ ap (λ (b : Bool). list_any (λ (c : Channel). b && takes script c line) script.channels)
    (sym takes_as) in
    record {
      ops = l.ops;
      kept = l.kept;
      found = λ note.
          own-found script (history_of (h ++ l.ops)) line note state c.requires.own o is;
      accepted = c.is_accepted-accepted.ensures;
      sees = λ note. subst
          (λ (b : Bool). Looks common old.process c.look_if.new.self.process l.ops b)
          (looks_as ∙ sym (own-looks script (history_of (h ++ l.ops)) line note state
          c.requires.own o is)) l.sees;
      words = l.words;
    }

-- The replies of a lawful journal are those that are found.
use Rattle.std.proofs.Common.{◌≡◌, ℕ, false, ap, get_or, refl}
use Rattle.std.specs.Prelude.{Option, Some, None, not, ◌&&◌}
use Rattle.std.specs.List.{All, list_any}
use Rattle.cal_run.specs.Lawful.{IsAnswer, IsAnswered, IsFlushReply, Lawful, NotedLine, noted_lines}
use Rattle.cal_run.specs.Lines.{is_process_line, takes}
use Rattle.cal_run.specs.Steps.{found_reply, is_accepted, looks}
use Rattle.cal_script.specs.declared.journal.Journal.{Journal}
use Rattle.cal_script.specs.declared.journal.Reply as replies
use Rattle.cal_script.specs.declared.journal.Reply.TheVariants as reply
use Rattle.cal_script.specs.declared.script.Line as lines
use Rattle.cal_script.specs.declared.script.Line.TheVariants as line
use Rattle.cal_script.specs.declared.script.Script.{Script}
use Rattle.cal_world.specs.Events.{is_looking}

module _ (script : Script) (journal : Journal) where
  -- no flush is answered as done
  flush-not-done : (t : ℕ) (l : lines.Line) → IsFlushReply script journal t l reply.Done → ⊥
  flush-not-done t (line.Begin a v) f = f
  flush-not-done t (line.End a) f = f
  flush-not-done t (line.Set a v) f = f
  flush-not-done t line.Snapshot f = f
  flush-not-done t (line.Flush c) f = f
  flush-not-done t (line.Tick n) f = f

  flush-refused : (t : ℕ) (l : lines.Line) (r : replies.Reply) → IsFlushReply script journal t l r
      → is_accepted (Some r) ≡ false
  flush-refused t l reply.Done f = absurd (flush-not-done t l f)
  flush-refused t l (reply.Mismatch top) f = refl
  flush-refused t l reply.NotOpen f = refl
  flush-refused t l reply.TooDeep f = refl
  flush-refused t l reply.SlotsFull f = refl
  flush-refused t l reply.Merged f = refl
  flush-refused t l (reply.Busy holder) f = refl

  accepted-is : (n : NotedLine) → IsAnswered script journal n → is_accepted (Some n.note.reply)
      ≡ is_accepted (found_reply script journal.ops n.line n.note n.state)
  accepted-is n = by (found_reply script journal.ops n.line n.note n.state)
    where
      by : (o : Option replies.Reply) → IsAnswer script journal n o
          → is_accepted (Some n.note.reply) ≡ is_accepted o
      by (Some found) same = ap (λ (r : replies.Reply). is_accepted (Some r)) same
      by None flush = flush-refused n.thread n.line n.note.reply flush

  pub accepted-all : Lawful script journal
      → All (λ (n : NotedLine). is_accepted (Some n.note.reply)
      ≡ is_accepted (found_reply script journal.ops n.line n.note n.state))
      (noted_lines script journal)
  accepted-all lawful k d below =
      accepted-is (get_or (noted_lines script journal) k d) (lawful.answered k d below)

  pub looking-all : Lawful script journal
      → All (λ (n : NotedLine). is_looking script n.line n.note
      ≡ looks script journal.ops n.line n.note n.state) (noted_lines script journal)
  looking-all lawful k d below =
      let n : NotedLine = get_or (noted_lines script journal) k d in
      ap (λ b. list_any (λ channel. b && takes script channel n.line) script.channels
      && not (is_process_line script n.line)) (accepted-all lawful k d below)

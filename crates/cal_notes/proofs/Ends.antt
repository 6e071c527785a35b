-- The notes of all threads and the whole history are a lawful journal.
use Rattle.std.proofs.Common.{◌≡◌, ℕ, ◌+◌, List, [], length, get_or}
use Rattle.std.proofs.Common.{refl, ap, ◌∙◌, subst, arith}
use Rattle.std.specs.Prelude.{Any, Option, Some, None, zip}
use Rattle.std.specs.List.{All, Contains}
use Rattle.std.proofs.lemmas.Option.{slice_get-get_or, slice_get_within}
use Rattle.cal_board.specs.Blackboard.{Blackboard}
use Rattle.cal_notes.proofs.Fronts.{lines-front}
use Rattle.cal_notes.proofs.Lists.{placed_of-front}
use Rattle.cal_notes.proofs.NotedLines.{IsFrom, all-noted, all_zip-from, among-all, has-line}
use Rattle.cal_notes.proofs.NotedLines.{lines-from, slice_get-zip, zip-slice_get}
use Rattle.cal_notes.specs.Notes.{IsFlushNote, IsNotedReply, LineKeeps}
use Rattle.cal_notes.specs.Together.{HasMerged, HaveEnded, RanLines}
use Rattle.cal_run.specs.Lawful.{HasOrder, HasShape, IsAnswer, IsAnswered, IsFlushReply, IsMerged}
use Rattle.cal_run.specs.Lawful.{Lawful, NotedLine, StartIsRead, noted_lines, noted_of, placed_of}
use Rattle.cal_run.specs.Steps.{acted_on, at_start, found_reply, reply_to_line}
use Rattle.cal_script.specs.declared.journal.Journal.{Journal}
use Rattle.cal_script.specs.declared.journal.LineNote.{LineNote}
use Rattle.cal_script.specs.declared.journal.Reply as replies
use Rattle.cal_script.specs.declared.journal.Reply.TheVariants as reply
use Rattle.cal_script.specs.declared.journal.ThreadNote.{ThreadNote}
use Rattle.cal_script.specs.declared.script.Line as lines
use Rattle.cal_script.specs.declared.script.Line.TheVariants as line
use Rattle.cal_script.specs.declared.script.Script.{Script}
use Rattle.cal_value.specs.declared.variant.Variant.{Variant}

abbrev IsFlush : lines.Line → Type 0
IsFlush (line.Flush channel) = Unit {0}
IsFlush _ = ⊥

-- only a flush has no reply of its own
only-flush : (script : Script) (b : Blackboard Variant) (l : lines.Line)
    → reply_to_line script b l ≡ None → IsFlush l
only-flush script b (line.Begin a v) none = absurd cc
only-flush script b (line.End a) none = absurd cc
only-flush script b (line.Set a v) none = absurd cc
only-flush script b line.Snapshot none = absurd cc
only-flush script b (line.Flush c) none = tt
only-flush script b (line.Tick n) none = absurd cc

no_note : ThreadNote
no_note = record { start = None; lines = [] }

module _ (script : Script) (journal : Journal) where
  -- a thread that merged in a flush has a line that says so
  merged-line : (holder channel : ℕ) → HasMerged script journal holder channel
      → Any (IsMerged script journal holder channel) (noted_lines script journal)
  merged-line holder channel has =
      let any = has.merged in
      let pairs : List (lines.Line × LineNote) = zip has.ls has.note.lines in
      let found = has-line script journal.ops holder 1 0 at_start pairs any.0 any.1 any.2 any.3 in
      let all = among-all script journal.ops 0 holder (zip script.threads journal.threads)
      (has.ls, has.note) found.noted
      (zip-slice_get script.threads journal.threads holder has.ls has.note has.ran.ran
      has.ran.noted)
      (subst (λ m. Contains (noted_of script journal.ops (m, (has.ls, has.note))) found.noted)
      (let e : holder ≡ 0 + holder = omega arith in e) found.there) in (
        all.0,
        found.noted,
        all.1,
        all.2,
        (
          found.thread_is,
          found.line_is ∙ any.4.0,
          ap (λ (n : LineNote). n.reply) found.note_is ∙ any.4.1,
        ),
      )

  -- where the holder of each busy flush merged, the reply to a flush is as it should be
  flush-answered : (thread : ℕ) (l : lines.Line) (r : replies.Reply) → IsFlush l
      → IsFlushNote thread r
      → ((channel holder : ℕ) → l ≡ line.Flush channel → r ≡ reply.Busy holder
      → Any (IsMerged script journal holder channel) (noted_lines script journal))
      → IsFlushReply script journal thread l r
  flush-answered thread (line.Flush channel) reply.Merged flush is busy = tt
  flush-answered thread (line.Flush channel) (reply.Busy holder) flush is busy =
      (is, busy channel holder refl refl)
  flush-answered thread (line.Flush channel) r flush is busy = absurd is
  flush-answered thread l r flush is busy = absurd flush

  answered : (n : NotedLine) (found : Option replies.Reply) → (found ≡ None → IsFlush n.line)
      → IsNotedReply n found
      → ((channel holder : ℕ) → n.line ≡ line.Flush channel → n.note.reply ≡ reply.Busy holder
      → Any (IsMerged script journal holder channel) (noted_lines script journal))
      → IsAnswer script journal n found
  answered n None flush is busy =
      flush-answered n.thread n.line n.note.reply (flush refl) is busy
  answered n (Some found) flush is busy = is

  module _ (have : HaveEnded script journal) where
    shape : HasShape script journal
    shape = all_zip-from
        (λ (ls : List lines.Line) (note : ThreadNote). length note.lines ≡ length ls)
        script.threads journal.threads have.many
        (λ thread ls note ran noted.
        (have.ended thread ls note (record { ran = ran; noted = noted })).keeps.long)

    order : HasOrder script journal.ops
    order thread ls ran =
        let within = slice_get_within script.threads thread ls ran in
        let many = have.many in
        let note : ThreadNote = get_or journal.threads thread no_note in
        let ended = have.ended thread ls note (record {
          ran = ran;
          noted = slice_get-get_or journal.threads thread no_note (omega (arith, within, many));
        }) in
        ap (placed_of thread) ended.begins.whole
        ∙ placed_of-front thread ended.known ended.begins.more ended.begins.others
        ∙ ended.keeps.order

    starts : All (StartIsRead script journal) journal.threads
    starts thread d below =
        let many = have.many in
        let note : ThreadNote = get_or journal.threads thread d in
        let ls : List lines.Line = get_or script.threads thread [] in
        let ended = have.ended thread ls note (record {
          ran = slice_get-get_or script.threads thread [] (omega (arith, below, many));
          noted = slice_get-get_or journal.threads thread d below;
        }) in
        record { there = ended.keeps.start.there; value = ended.keeps.start.value }

    -- each line keeps the rules, and is answered
    abbrev Rule : NotedLine → Type 0
    Rule n = LineKeeps script journal n × IsAnswered script journal n

    lines-answered : (thread : ℕ) (ls : List lines.Line) (note : ThreadNote)
        → RanLines script journal thread ls note
        → All Rule (noted_of script journal.ops (thread, (ls, note)))
    lines-answered thread ls note ran k d below =
        let ended = have.ended thread ls note ran in
        let ns : List NotedLine = noted_of script journal.ops (thread, (ls, note)) in
        let n : NotedLine = get_or ns k d in
        let keeps : LineKeeps script journal n =
        lines-front script journal.real ended.known thread ls note ended.keeps journal
        ended.begins.more ended.begins.whole refl k d below in
        let from : IsFrom script journal.ops thread (zip ls note.lines) n =
        lines-from script journal.ops thread 1 0 at_start (zip ls note.lines) k d below in
        let at = from.there in (
          keeps,
          answered n (found_reply script journal.ops n.line n.note n.state)
              (only-flush script (acted_on script journal.ops n.line n.note n.state) n.line)
              keeps.answered
              (λ channel holder flush busy. merged-line holder channel
              (have.busy thread ls note ran channel holder
              (at.0, (n.line, n.note), at.1, at.2, (flush, busy)))),
        )

    all-answered : All Rule (noted_lines script journal)
    all-answered = all-noted script journal.ops Rule 0 (zip script.threads journal.threads)
        (λ i t is.
        let both = slice_get-zip script.threads journal.threads i t is in
        subst (λ m. All Rule (noted_of script journal.ops (m, t)))
        (let e : i ≡ 0 + i = omega arith in e)
        (lines-answered i t.0 t.1 (record { ran = both.0; noted = both.1 })))

    pub together : Lawful script journal
    together = record {
      shape = shape;
      known = have.known;
      order = order;
      rises = λ k d l. (all-answered k d l).0.rises;
      within = λ k d l. (all-answered k d l).0.within;
      own = λ k d l. (all-answered k d l).0.own;
      fixed = λ k d l. (all-answered k d l).0.fixed;
      starts = starts;
      read = λ k d l. (all-answered k d l).0.read;
      answered = λ k d l. (all-answered k d l).1;
    }

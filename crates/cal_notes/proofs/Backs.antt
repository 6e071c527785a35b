-- The threads of a lawful journal have ended: no more is asked of them.
use Rattle.std.proofs.Common.{◌≡◌, ◌≢◌, ℕ, ◌+◌, List, [], length, get_or, refl, sym, ap, ◌∙◌}
use Rattle.std.proofs.Common.{subst, append-nil, arith}
use Rattle.std.specs.Prelude.{Any, Option, Some, None, zip}
use Rattle.std.specs.List.{All, Contains}
use Rattle.std.proofs.lemmas.List.Elements.{All-contains, All-nil, All-weaker, Contains-get_or}
use Rattle.std.proofs.lemmas.Option.{get_or_from_slice_get, slice_get_within}
use Rattle.std.proofs.lemmas.Slice.Zip.{AllZip-long}
use Rattle.cal_board.specs.Blackboard.{Blackboard}
use Rattle.cal_notes.proofs.Fronts.{line-front}
use Rattle.cal_notes.proofs.NotedLines.{IsFrom, all-noted, among-all, has-line, lines-from}
use Rattle.cal_notes.proofs.NotedLines.{slice_get-zip, zip-slice_get}
use Rattle.cal_notes.specs.Notes.{IsFlushNote, IsNotedReply, KeepsRules, LineKeeps, known_journal}
use Rattle.cal_notes.specs.Together.{HasEnded, HasFlushed, HasMerged, HaveEnded, RanLines}
use Rattle.cal_run.proofs.NumberLemmas.{all_zip-at}
use Rattle.cal_run.specs.Lawful.{IsAnswer, IsAnswered, IsFlushReply, IsMerged, Lawful, LineIsRead}
use Rattle.cal_run.specs.Lawful.{NotedLine, SeenFixed, SeenOwn, SeenRises, SeenWithin}
use Rattle.cal_run.specs.Lawful.{StartIsRead, noted_lines, noted_of}
use Rattle.cal_run.specs.Steps.{acted_on, at_start, found_reply, reply_to_line}
use Rattle.cal_script.specs.declared.journal.Journal.{Journal}
use Rattle.cal_script.specs.declared.journal.LineNote.{LineNote}
use Rattle.cal_script.specs.declared.journal.Placed.{Placed}
use Rattle.cal_script.specs.declared.journal.Reply as replies
use Rattle.cal_script.specs.declared.journal.Reply.TheVariants as reply
use Rattle.cal_script.specs.declared.journal.ThreadNote.{ThreadNote}
use Rattle.cal_script.specs.declared.script.Line as lines
use Rattle.cal_script.specs.declared.script.Line.TheVariants as line
use Rattle.cal_script.specs.declared.script.Script.{Script}
use Rattle.cal_value.specs.declared.variant.Variant.{Variant}

module _ (script : Script) (journal : Journal) where
  -- a noted line is one of a thread's lines with its note
  pub record IsOfRun (n : NotedLine) : Type 0 where
    pub ls : List lines.Line
    pub notes : ThreadNote
    pub ran : RanLines script journal n.thread ls notes
    pub there : Contains (zip ls notes.lines) (n.line, n.note)

  all-of-run : All IsOfRun (noted_lines script journal)
  all-of-run = all-noted script journal.ops IsOfRun 0 (zip script.threads journal.threads)
      (λ i t is.
      let both = slice_get-zip script.threads journal.threads i t is in
      let pairs : List (lines.Line × LineNote) = zip t.0 t.1.lines in
      let at : 0 + i ≡ i = omega arith in
      All-weaker (IsFrom script journal.ops (0 + i) pairs) IsOfRun (λ n from. record {
        ls = t.0;
        notes = t.1;
        ran = subst (λ k. RanLines script journal k t.0 t.1) (sym (from.thread_is ∙ at))
            (record { ran = both.0; noted = both.1 });
        there = from.there;
      }) (noted_of script journal.ops (0 + i, t))
      (lines-from script journal.ops (0 + i) 1 0 at_start pairs))

  -- and the other way round
  line-among : (thread : ℕ) (ls : List lines.Line) (note : ThreadNote)
      → RanLines script journal thread ls note → (n : NotedLine)
      → Contains (noted_of script journal.ops (thread, (ls, note))) n
      → Contains (noted_lines script journal) n
  line-among thread ls note ran n there =
      among-all script journal.ops 0 thread (zip script.threads journal.threads) (ls, note) n
      (zip-slice_get script.threads journal.threads thread ls note ran.ran ran.noted)
      (subst (λ k. Contains (noted_of script journal.ops (k, (ls, note))) n)
      (let e : thread ≡ 0 + thread = omega arith in e) there)

  flush-noted : (thread : ℕ) (l : lines.Line) (r : replies.Reply)
      → IsFlushReply script journal thread l r → IsFlushNote thread r
  flush-noted thread (line.Flush channel) reply.Merged is = tt
  flush-noted thread (line.Flush channel) (reply.Busy holder) is = is.0
  flush-noted thread l r is = absurd is

  answer-noted : (n : NotedLine) (found : Option replies.Reply) → IsAnswer script journal n found
      → IsNotedReply n found
  answer-noted n None is = flush-noted n.thread n.line n.note.reply is
  answer-noted n (Some found) is = is

  -- a busy flush tells who merged
  busy-told : (channel holder : ℕ) (n : NotedLine) → n.line ≡ line.Flush channel
      → n.note.reply ≡ reply.Busy holder → IsAnswered script journal n
      → Any (IsMerged script journal holder channel) (noted_lines script journal)
  busy-told channel holder n flush busy answered =
      let b : Blackboard Variant = acted_on script journal.ops n.line n.note n.state in
      let none : found_reply script journal.ops n.line n.note n.state ≡ None =
      ap (reply_to_line script b) flush in
      let is : IsFlushReply script journal n.thread n.line n.note.reply =
      subst (IsAnswer script journal n) none answered in
      let told : IsFlushReply script journal n.thread (line.Flush channel) (reply.Busy holder) =
      subst (IsFlushReply script journal n.thread (line.Flush channel)) busy
      (subst (λ l. IsFlushReply script journal n.thread l n.note.reply) flush is) in
      told.1

  module _ (lawful : Lawful script journal) where
    abbrev all : List NotedLine
    all = noted_lines script journal

    line-keeps : (n : NotedLine) → Contains all n
        → LineKeeps script (known_journal journal.real journal.ops) n
    line-keeps n among =
        let answered : IsAnswered script journal n =
        All-contains (IsAnswered script journal) all n lawful.answered among in
        line-front script journal (known_journal journal.real journal.ops) []
        (sym (append-nil journal.ops)) refl n (record {
          rises = All-contains (SeenRises script journal) all n lawful.rises among;
          within = All-contains (SeenWithin script journal) all n lawful.within among;
          own = All-contains (SeenOwn script journal) all n lawful.own among;
          fixed = All-contains (SeenFixed script journal) all n lawful.fixed among;
          read = All-contains (LineIsRead script journal) all n lawful.read among;
          answered = answer-noted n (found_reply script journal.ops n.line n.note n.state)
              answered;
        })

    module _ (thread : ℕ) (ls : List lines.Line) (note : ThreadNote)
        (ran : RanLines script journal thread ls note) where
      long : length note.lines ≡ length ls
      long =
          ap (λ (n : ThreadNote). length n.lines)
          (sym (get_or_from_slice_get journal.threads thread note note ran.noted))
          ∙ all_zip-at (λ (ls : List lines.Line) (n : ThreadNote). length n.lines ≡ length ls)
          script.threads journal.threads thread ls note lawful.shape
          (slice_get_within script.threads thread ls ran.ran)
          ∙ ap length (get_or_from_slice_get script.threads thread ls ls ran.ran)

      start : StartIsRead script journal note
      start = subst (StartIsRead script journal)
          (get_or_from_slice_get journal.threads thread note note ran.noted)
          (lawful.starts thread note (slice_get_within journal.threads thread note ran.noted))

      thread-keeps : KeepsRules script journal.real journal.ops thread ls note
      thread-keeps =
          let ns : List NotedLine = noted_of script journal.ops (thread, (ls, note)) in
          record {
            long = long;
            start = record { there = start.there; value = start.value };
            lines = λ k d below. line-keeps (get_or ns k d)
                (line-among thread ls note ran (get_or ns k d) (Contains-get_or ns k d below));
            order = lawful.order thread ls ran.ran;
          }

      thread-ended : HasEnded script journal thread ls note
      thread-ended = record {
        known = journal.ops;
        begins = record {
          more = [];
          whole = sym (append-nil journal.ops);
          others = All-nil (λ (op : Placed). op.thread ≢ thread);
        };
        keeps = thread-keeps;
      }

      holder-merged : (channel holder : ℕ)
          → HasFlushed channel (reply.Busy holder) ls note
          → HasMerged script journal holder channel
      holder-merged channel holder has =
          let found = has-line script journal.ops thread 1 0 at_start (zip ls note.lines) has.0
          has.1 has.2 has.3 in
          let n : NotedLine = found.noted in
          let any = busy-told channel holder n (found.line_is ∙ has.4.0)
          (ap (λ (m : LineNote). m.reply) found.note_is ∙ has.4.1)
          (All-contains (IsAnswered script journal) all n lawful.answered
          (line-among thread ls note ran n found.there)) in
          let m : NotedLine = any.1 in
          let of : IsOfRun m =
          All-contains IsOfRun all m all-of-run (any.0, any.2, any.3) in
          record {
            ls = of.ls;
            note = of.notes;
            ran = subst (λ k. RanLines script journal k of.ls of.notes) any.4.0 of.ran;
            merged = (of.there.0, (m.line, m.note), of.there.1, of.there.2, (any.4.1, any.4.2));
          }

    pub have-ended : HaveEnded script journal
    have-ended = record {
      many = AllZip-long (λ (ls : List lines.Line) (n : ThreadNote). length n.lines ≡ length ls)
          script.threads journal.threads lawful.shape;
      known = lawful.known;
      ended = thread-ended;
      busy = holder-merged;
    }

-- The replies of a lawful journal say which lines take snapshots.
use Rattle.std.proofs.Common.{◌≡◌, ℕ, ◌+◌, Bool, true, false, ◌&&◌, cond, List, [], ◌∷◌}
use Rattle.std.proofs.Common.{◌++◌, length, refl, sym, ap, ◌∙◌, arith}
use Rattle.std.specs.Prelude.{Option, Some, None, count_by, flat_map, sum_by, unwrap_or, zip}
use Rattle.std.specs.Prelude.{if◌then◌else◌}
use Rattle.std.specs.List.{All, enumerate_from}
use Rattle.std.proofs.lemmas.List.{length-append}
use Rattle.std.proofs.lemmas.List.Sums.{sum_by-cons}
use Rattle.cal_run.specs.Counting.{count_noted, is_noted_taken}
use Rattle.cal_run.specs.Lawful.{IsAnswer, IsAnswered, IsFlushReply, Lawful, NotedLine}
use Rattle.cal_run.specs.Lawful.{noted_from, noted_of}
use Rattle.cal_run.specs.Lines.{operation_of, takes}
use Rattle.cal_run.specs.Runs.{snapshots, taken_by_thread, taken_from}
use Rattle.cal_run.specs.Snapshots.{snapshot_of}
use Rattle.cal_run.specs.Steps.{ThreadState, at_start, found_reply, is_accepted, is_taken_by}
use Rattle.cal_run.specs.Steps.{previous_after, sight_after, state_after}
use Rattle.cal_run.proofs.LawLemmas.{all-back, all-front, all-rest}
use Rattle.cal_script.specs.declared.journal.Journal.{Journal}
use Rattle.cal_script.specs.declared.journal.LineNote.{LineNote}
use Rattle.cal_script.specs.declared.journal.Reply as replies
use Rattle.cal_script.specs.declared.journal.Reply.TheVariants as reply
use Rattle.cal_script.specs.declared.journal.ThreadNote.{ThreadNote}
use Rattle.cal_script.specs.declared.script.Channel.{Channel}
use Rattle.cal_script.specs.declared.script.Line as lines
use Rattle.cal_script.specs.declared.script.Line.TheVariants as line
use Rattle.cal_script.specs.declared.script.Script.{Script}
use Rattle.cal_value.specs.declared.record.Rec.{Rec}

-- one item more, if there is one
one-more : (b c : Bool) (r : Rec) (more : List Rec) (n : ℕ) → c ≡ b → length more ≡ n
    → length ((if b then r ∷ [] else []) ++ more) ≡ cond c 1 0 + n
one-more true true r more n e long = omega (arith, long)
one-more false false r more n e long = omega (arith, long)
one-more true false r more n e long = absurd cc
one-more false true r more n e long = absurd cc

module _ (script : Script) (journal : Journal) where
  not-done : (thread : ℕ) (l : lines.Line) → IsFlushReply script journal thread l reply.Done → ⊥
  not-done thread (line.Begin a v) is = is
  not-done thread (line.End a) is = is
  not-done thread (line.Set a v) is = is
  not-done thread line.Snapshot is = is
  not-done thread (line.Flush c) is = is
  not-done thread (line.Tick n) is = is

  -- what is replied to a flush is no acceptance
  flush-refused : (thread : ℕ) (l : lines.Line) (r : replies.Reply)
      → IsFlushReply script journal thread l r → is_accepted (Some r) ≡ false
  flush-refused thread l reply.Done is = absurd (not-done thread l is)
  flush-refused thread l (reply.Mismatch top) is = refl
  flush-refused thread l reply.NotOpen is = refl
  flush-refused thread l reply.TooDeep is = refl
  flush-refused thread l reply.SlotsFull is = refl
  flush-refused thread l reply.Merged is = refl
  flush-refused thread l (reply.Busy holder) is = refl

  -- a line is accepted as its note says
  answered : (n : NotedLine) (found : Option replies.Reply) → IsAnswer script journal n found
      → is_accepted (Some n.note.reply) ≡ is_accepted found
  answered n None is = flush-refused n.thread n.line n.note.reply is
  answered n (Some found) is = ap (λ r. is_accepted (Some r)) is

  module _ (channel : Channel) where
    abbrev Answered : NotedLine → Type 0
    Answered n = IsAnswered script journal n

    -- what lines take in the channel is counted by their notes
    counted_from : (thread number before previous : ℕ) (state : ThreadState)
        (ls : List (lines.Line × LineNote))
        → All Answered (noted_from script journal.ops thread number before state ls)
        → length (taken_from script journal.ops channel state previous ls)
        ≡ count_by (is_noted_taken script channel) ls
    counted_from thread number before previous state [] all = refl
    counted_from thread number before previous state (l ∷ ls) all =
        let n : NotedLine = record {
          thread = thread;
          number = number;
          line = l.0;
          note = l.1;
          before = before;
          state = state;
        } in
        let here : Answered n = all 0 n (omega arith) in
        let after = state_after script journal.ops l.0 l.1 state in
        let next = previous_after script journal.ops l.0 l.1 state channel previous in
        let same : is_noted_taken script channel l
        ≡ is_taken_by script journal.ops l.0 l.1 state channel =
        ap (λ a. a && takes script channel l.0)
        (answered n (found_reply script journal.ops l.0 l.1 state) here) in
        let rest = counted_from thread (number + 1) l.1.seen next after ls
        (all-rest Answered n (noted_from script journal.ops thread (number + 1) l.1.seen after ls)
        all) in
        one-more (is_taken_by script journal.ops l.0 l.1 state channel)
        (is_noted_taken script channel l)
        (snapshot_of script (sight_after script journal.ops l.0 l.1 state previous) channel
        (operation_of l.0))
        (taken_from script journal.ops channel after next ls) _ same rest
        ∙ sym (sum_by-cons (λ (x : lines.Line × LineNote).
        cond (is_noted_taken script channel x) 1 0) l ls)

    counted_threads : (k : ℕ) (ts : List (List lines.Line × ThreadNote))
        → All Answered (flat_map (noted_of script journal.ops) (enumerate_from k ts))
        → length (flat_map (taken_by_thread script journal.ops channel) ts)
        ≡ sum_by (count_noted script channel) ts
    counted_threads k [] all = refl
    counted_threads k (t ∷ ts) all =
        let one : List NotedLine = noted_of script journal.ops (k, t) in
        let more : List NotedLine =
        flat_map (noted_of script journal.ops) (enumerate_from (k + 1) ts) in
        let here : length (taken_by_thread script journal.ops channel t)
        ≡ count_noted script channel t =
        counted_from k 1 0 (unwrap_or t.1.start 0) at_start (zip t.0 t.1.lines)
        (all-front Answered one more all) in
        let rest = counted_threads (k + 1) ts (all-back Answered one more all) in
        let long = length-append (taken_by_thread script journal.ops channel t)
        (flat_map (taken_by_thread script journal.ops channel) ts) in
        let sums = sum_by-cons (count_noted script channel) t ts in
        omega (arith, here, rest, long, sums)

    pub snapshots-counted : Lawful script journal
        → length (snapshots script journal channel)
        ≡ sum_by (count_noted script channel) (zip script.threads journal.threads)
    snapshots-counted lawful = counted_threads 0 (zip script.threads journal.threads) lawful.answered

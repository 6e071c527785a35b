-- Where no flush of a channel of the script was answered busy, no line of a lawful journal was.
use Rattle.std.proofs.Common.{◌≡◌, ℕ, ◌+◌, ◌<◌, List, [], ◌∷◌, length, get_or, refl, sym, ap}
use Rattle.std.proofs.Common.{◌∙◌, subst, arith}
use Rattle.std.specs.Prelude.{false, Some, None, Option, IfSome, zip}
use Rattle.std.specs.List.{All, Contains}
use Rattle.std.proofs.lemmas.List.Elements.{All-contains, All-nil}
use Rattle.std.proofs.lemmas.Option.{get_or_from_slice_get, slice_get-get_or, slice_get_within}
use Rattle.std.proofs.lemmas.Slice.Zip.{AllZip-long, get_or-zip}
use Rattle.cal_board.specs.Blackboard.{Blackboard, reply_to}
use Rattle.cal_board.specs.declared.reply.BoardReply as boards
use Rattle.cal_board.specs.declared.reply.BoardReply.TheVariants as board
use Rattle.cal_call.specs.Refusals.{no_journal}
use Rattle.cal_call_live.specs.Quiet.{IsQuiet, IsQuietThread, is_busy}
use Rattle.cal_live_run.specs.Quiet as run
use Rattle.cal_notes.proofs.NotedLines.{among-all, has-line, zip-slice_get}
use Rattle.cal_notes.specs.Together.{RanLines}
use Rattle.cal_run.proofs.NumberLemmas.{all_zip-at}
use Rattle.cal_run.specs.Lawful.{IsAnswer, IsAnswered, IsFlushReply, Lawful, NotedLine, noted_lines}
use Rattle.cal_run.specs.Lawful.{noted_of}
use Rattle.cal_run.specs.Lines.{attr_ref}
use Rattle.cal_run.specs.Steps.{acted_on, as_reply, at_start, found_reply, reply_to_line}
use Rattle.cal_script.specs.Valid.{IsFlushed, IsPlaced, IsRunnable}
use Rattle.cal_script.specs.declared.journal.Journal.{Journal}
use Rattle.cal_script.specs.declared.journal.LineNote.{LineNote}
use Rattle.cal_script.specs.declared.journal.Reply as replies
use Rattle.cal_script.specs.declared.journal.Reply.TheVariants as reply
use Rattle.cal_script.specs.declared.journal.ThreadNote.{ThreadNote}
use Rattle.cal_script.specs.declared.script.Line as lines
use Rattle.cal_script.specs.declared.script.Line.TheVariants as line
use Rattle.cal_script.specs.declared.script.Script.{Script}
use Rattle.cal_value.specs.declared.variant.Variant.{Variant}
use Rattle.cal_words.specs.declared.op.OpCode.TheVariants as code

-- two lists of one length have as many pairs
zip-long : {A B : Type 0} (xs : List A) (ys : List B) → length ys ≡ length xs
    → length (zip xs ys) ≡ length xs
zip-long [] ys long = refl
zip-long (x ∷ xs) [] long = absurd (omega (arith, long))
zip-long (x ∷ xs) (y ∷ ys) long =
    let rest = zip-long xs ys (omega (arith, long)) in omega (arith, rest)

-- no board answers busy
board-quiet : (answer : boards.BoardReply) → is_busy (as_reply answer) ≡ false
board-quiet board.Done = refl
board-quiet (board.Mismatch top) = refl
board-quiet board.NotOpen = refl
board-quiet (board.TreeFull full) = refl
board-quiet board.TooDeep = refl
board-quiet board.SlotsFull = refl

-- nor does a line that isn't a flush
found-quiet : (script : Script) (b : Blackboard Variant) (l : lines.Line)
    → IfSome (reply_to_line script b l) (λ found. is_busy found ≡ false)
found-quiet script b (line.Begin a v) = board-quiet (reply_to b code.Begin (attr_ref script a))
found-quiet script b (line.End a) = board-quiet (reply_to b code.End (attr_ref script a))
found-quiet script b (line.Set a v) = board-quiet (reply_to b code.Set (attr_ref script a))
found-quiet script b (line.Flush c) = tt
found-quiet script b line.Snapshot = refl
found-quiet script b (line.Tick n) = refl

-- the journal of no run has no reply
pub no_journal-quiet : IsQuiet no_journal
no_journal-quiet = All-nil IsQuietThread

module _ (script : Script) (journal : Journal) where
  -- no flush of any channel was answered busy in this line
  abbrev Unbusy : lines.Line → replies.Reply → Type 0
  Unbusy l r = (channel holder : ℕ) → l ≡ line.Flush channel → r ≡ reply.Busy holder → ⊥

  flush-quiet : (thread : ℕ) (l : lines.Line) (r : replies.Reply)
      → IsFlushReply script journal thread l r → Unbusy l r → is_busy r ≡ false
  flush-quiet thread (line.Flush channel) reply.Merged is never = refl
  flush-quiet thread (line.Flush channel) (reply.Busy holder) is never =
      absurd (never channel holder refl refl)
  flush-quiet thread l r is never = absurd is

  answer-quiet : (n : NotedLine) (found : Option replies.Reply)
      → IfSome found (λ r. is_busy r ≡ false) → IsAnswer script journal n found
      → Unbusy n.line n.note.reply → is_busy n.note.reply ≡ false
  answer-quiet n None quiet is never = flush-quiet n.thread n.line n.note.reply is never
  answer-quiet n (Some found) quiet is never = ap is_busy is ∙ quiet

  noted-quiet : (n : NotedLine) → IsAnswered script journal n → Unbusy n.line n.note.reply
      → is_busy n.note.reply ≡ false
  noted-quiet n is never =
      answer-quiet n (found_reply script journal.ops n.line n.note n.state)
      (found-quiet script (acted_on script journal.ops n.line n.note n.state) n.line) is never

  module _ (runnable : IsRunnable script) (lawful : Lawful script journal)
      (quiet : run.IsQuiet script journal) where
    module _ (thread : ℕ) (ls : List lines.Line) (note : ThreadNote)
        (ran : RanLines script journal thread ls note) (long : length note.lines ≡ length ls)
        (k : ℕ) (m : LineNote) (below : k < length note.lines) where
      -- the line with its note
      abbrev l : lines.Line
      l = get_or ls k line.Snapshot

      abbrev of : LineNote
      of = get_or note.lines k m

      within : k < length ls
      within = omega (arith, below, long)

      at : get_or (zip ls note.lines) k (l, of) ≡ (l, of)
      at =
          let line_at : get_or ls k l ≡ l =
          get_or_from_slice_get ls k l l (slice_get-get_or ls k line.Snapshot within) in
          let note_at : get_or note.lines k of ≡ of =
          get_or_from_slice_get note.lines k of of (slice_get-get_or note.lines k m below) in
          get_or-zip ls note.lines k (l, of) within below ∙ (λ j. (line_at j, note_at j))

      zipped : k < length (zip ls note.lines)
      zipped = let pairs = zip-long ls note.lines long in omega (arith, pairs, within)

      -- a flush names a channel of the script
      named : (channel : ℕ) → l ≡ line.Flush channel → channel < length script.channels
      named channel flush =
          let places = runnable.places in
          let all = subst (All (IsPlaced script.attributes script.channels script.values))
          (get_or_from_slice_get script.threads thread ls [] ran.ran)
          (places thread [] (slice_get_within script.threads thread ls ran.ran)) in
          let placed : IsFlushed script.channels channel =
          subst (IsPlaced script.attributes script.channels script.values) flush
          (all k line.Snapshot within) in
          slice_get_within script.channels channel placed.flushed placed.declared

      unbusy : Unbusy l of.reply
      unbusy channel holder flush busy =
          quiet thread ls note ran channel holder (named channel flush)
          (k, (l, of), zipped, at, (flush, busy))

      line-quiet : is_busy of.reply ≡ false
      line-quiet =
          let found = has-line script journal.ops thread 1 0 at_start (zip ls note.lines) k (l, of)
          zipped at in
          let n : NotedLine = found.noted in
          let among : Contains (noted_lines script journal) n =
          among-all script journal.ops 0 thread (zip script.threads journal.threads) (ls, note) n
          (zip-slice_get script.threads journal.threads thread ls note ran.ran ran.noted)
          (subst (λ t. Contains (noted_of script journal.ops (t, (ls, note))) n)
          (let e : thread ≡ 0 + thread = omega arith in e) found.there) in
          let is : IsAnswered script journal n =
          All-contains (IsAnswered script journal) (noted_lines script journal) n lawful.answered
          among in
          let reply_is : n.note.reply ≡ of.reply =
          ap (λ (x : LineNote). x.reply) found.note_is in
          ap is_busy (sym reply_is)
          ∙ noted-quiet n is (λ channel holder flush busy.
          unbusy channel holder (sym found.line_is ∙ flush) (sym reply_is ∙ busy))

    pub journal-quiet : IsQuiet journal
    journal-quiet thread d below =
        let many = AllZip-long
        (λ (ls : List lines.Line) (n : ThreadNote). length n.lines ≡ length ls) script.threads
        journal.threads lawful.shape in
        let ls : List lines.Line = get_or script.threads thread [] in
        let note : ThreadNote = get_or journal.threads thread d in
        let inside : thread < length script.threads = omega (arith, below, many) in
        let ran : RanLines script journal thread ls note = record {
          ran = slice_get-get_or script.threads thread [] inside;
          noted = slice_get-get_or journal.threads thread d below;
        } in
        let long : length note.lines ≡ length ls =
        all_zip-at (λ (ls : List lines.Line) (n : ThreadNote). length n.lines ≡ length ls)
        script.threads journal.threads thread [] d lawful.shape inside in
        line-quiet thread ls note ran long

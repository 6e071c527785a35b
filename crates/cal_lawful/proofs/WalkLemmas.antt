-- What the two walks over the lines of a journal need.
use Rattle.std.proofs.Common.{◌≡◌, ◌↔◌, IsTrue, ℕ, ◌+◌, ◌<◌, ◌≤◌, List, [], ◌∷◌, ◌++◌, Bool, ◌&&◌}
use Rattle.std.proofs.Common.{length, map, get_or, drop, append_assoc, ap, subst, sym, ◌∙◌, arith}
use Rattle.std.specs.Prelude.{Option, None, flat_map, not, zip}
use Rattle.std.specs.List.{enumerate_from, list_any}
use Rattle.std.proofs.lemmas.List.{get_or_default}
use Rattle.std.proofs.lemmas.Slice.Zip.{AllZip-long}
use Rattle.cal_board.specs.Blackboard.{Blackboard}
use Rattle.cal_lawful.proofs.MergeLemmas.{merged-any}
use Rattle.cal_run.proofs.RunLemmas.{thread-All, zip_drop, zip_next}
use Rattle.cal_lawful.specs.Broken.{Row, all_rows, thread_rows}
use Rattle.cal_lawful.specs.Broken.{Noted, Start}
use Rattle.cal_lawful.specs.Checking.{AreMerged, found_of, found_on, found_with, has_merged}
use Rattle.cal_run.specs.Lawful.{IsAnswer, IsAnswered, IsFlushReply, IsRead, LineIsRead}
use Rattle.cal_run.specs.Lawful.{HasShape, NotedLine, noted_from}
use Rattle.cal_run.specs.Lines.{is_process_line, takes}
use Rattle.cal_run.specs.Seeing.{CanBeRead, MaySee, SeesInOrder}
use Rattle.cal_run.specs.Steps.{ThreadState, at_start, is_accepted, reply_to_line, state_after}
use Rattle.cal_lawful.specs.declared.found.Found.{Found}
use Rattle.cal_script.specs.declared.journal.Journal.{Journal}
use Rattle.cal_script.specs.declared.journal.LineNote.{LineNote}
use Rattle.cal_script.specs.declared.journal.Placed.{Placed}
use Rattle.cal_script.specs.declared.journal.Reply as replies
use Rattle.cal_script.specs.declared.journal.Reply.TheVariants as reply
use Rattle.cal_script.specs.declared.journal.ThreadNote.{ThreadNote}
use Rattle.cal_script.specs.declared.script.Channel.{Channel}
use Rattle.cal_script.specs.declared.script.Line.{Line}
use Rattle.cal_script.specs.declared.script.Line.TheVariants as line
use Rattle.cal_script.specs.declared.script.Script.{Script}

-- what a line finds, part by part
pub found-made : {V : Type 0} (script : Script) (b : Blackboard V) (l : Line) (clock : ℕ)
    (reply : Option replies.Reply) (accepted looks due : Bool)
    → reply ≡ reply_to_line script b l → accepted ≡ is_accepted reply
    → looks ≡ (list_any (λ (c : Channel). accepted && takes script c l) script.channels
    && not (is_process_line script l))
    → due ≡ list_any (λ (c : Channel). c.timer && (accepted && takes script c l)) script.channels
    → record { reply = reply; looks = looks; due = due; clock = clock } ≡ found_on script b l clock
found-made script b l clock reply accepted looks due reply-is accepted-is looks-is due-is =
    let looks-so = looks-is ∙ ap (λ (a : Bool). list_any (λ (c : Channel). a && takes script c l)
    script.channels && not (is_process_line script l)) accepted-is in
    let due-so = due-is ∙ ap (λ (a : Bool). list_any (λ (c : Channel).
    c.timer && (a && takes script c l)) script.channels) accepted-is in
    let made : record { reply = reply; looks = looks; due = due; clock = clock }
    ≡ found_with script reply l clock =
    λ j. record { reply = reply; looks = looks-so j; due = due-so j; clock = clock } in
    made ∙ ap (λ (r : Option replies.Reply). found_with script r l clock) reply-is

-- a flush is busy with another thread, of which a flush of the channel was merged
pub busy-is : (script : Script) (journal : Journal) (marks : List Bool)
    → AreMerged (all_rows script journal) marks
    → (thread holder channel : ℕ) (l : Line) (r : replies.Reply) (has : Bool)
    → l ≡ line.Flush channel → r ≡ reply.Busy holder → ¬ (holder ≡ thread)
    → has ≡ has_merged marks holder channel
    → (IsTrue has ↔ IsFlushReply script journal thread l r)
busy-is script journal marks are thread holder channel l r has l-is r-is other has-is =
    let merged = merged-any script journal holder channel marks are in
    subst (λ (x : Line). IsTrue has ↔ IsFlushReply script journal thread x r) (sym l-is)
    (subst (λ (x : replies.Reply). IsTrue has
    ↔ IsFlushReply script journal thread (line.Flush channel) x) (sym r-is)
    ((λ (h : IsTrue has). (other, merged.0 (sym has-is ∙ h))), (λ f. has-is ∙ merged.1 f.1)))

-- a line whose finds are known
module _ (script : Script) (journal : Journal) (n : NotedLine) (found : Found) (kept : Bool)
    (is : found ≡ found_of script journal.ops n.line n.note n.state) where
  pub reads-found : (IsTrue kept ↔ IsRead script journal found.due found.clock n.note.reading)
      → (IsTrue kept ↔ LineIsRead script journal n)
  reads-found read = subst (λ (f : Found). IsTrue kept
      ↔ IsRead script journal f.due f.clock n.note.reading) is read

  pub answers-found : (IsTrue kept ↔ IsAnswer script journal n found.reply)
      → (IsTrue kept ↔ IsAnswered script journal n)
  answers-found answered = subst (λ (f : Found). IsTrue kept
      ↔ IsAnswer script journal n f.reply) is answered

-- ---- one line more of a thread

-- a line that may follow one is behind those before it
pub may-sooner : (script : Script) (history : List Placed) (count before : ℕ) (l : Line)
    (n : LineNote) → count ≤ before → MaySee script history before l n
    → MaySee script history count l n
may-sooner script history count before l n less may = record {
  rises = (let rises = may.rises in omega (arith, less, rises));
  own = λ is. (let own = may.own is in omega (arith, less, own));
  within = may.within;
}

-- the rows of the lines so far and of those that are left, with one line more
pub noted-next : (script : Script) (history : List Placed) (thread number before : ℕ)
    (state : ThreadState) (lines : List Line) (notes : List LineNote) (i : ℕ) (l : Line)
    (n : LineNote) (rows all : List Row) → l ≡ get_or lines i l → n ≡ get_or notes i n
    → i < length lines → length notes ≡ length lines
    → rows ++ map Noted (noted_from script history thread number before state
    (drop i (zip lines notes))) ≡ all
    → (rows ++ Noted (record {
      thread = thread;
      number = number;
      line = l;
      note = n;
      before = before;
      state = state;
    }) ∷ []) ++ map Noted (noted_from script history thread (number + 1) n.seen
    (state_after script history l n state) (drop (i + 1) (zip lines notes))) ≡ all
noted-next script history thread number before state lines notes i l n rows all line-is note-is
    below long so_far =
    append_assoc rows _ _
    ∙ ap (λ ls. rows ++ map Noted (noted_from script history thread number before state ls))
    (sym (zip_next lines notes i l n line-is note-is below long))
    ∙ so_far

-- ---- one thread more

-- any note
pub no_note : ThreadNote
no_note = record { start = None; lines = [] }

-- there are as many notes as threads
pub notes-long : (script : Script) (journal : Journal) → HasShape script journal
    → length journal.threads ≡ length script.threads
notes-long script journal shape =
    AllZip-long (λ (thread : List Line) (note : ThreadNote). length note.lines ≡ length thread)
    script.threads journal.threads shape

-- what a thread sees, it sees in order
pub order-at : (script : Script) (journal : Journal) (t : ℕ) (ls : List Line) (ns : List LineNote)
    → CanBeRead script journal → t < length script.threads
    → ((d : List Line) → ls ≡ get_or script.threads t d)
    → ((d : ThreadNote) → ns ≡ (get_or journal.threads t d).lines)
    → SeesInOrder script journal.ops 0 (zip ls ns)
order-at script journal t ls ns read below ls-is ns-is =
    let long = notes-long script journal read.shape in
    let n : ThreadNote = get_or journal.threads t no_note in
    let in_notes : t < length journal.threads = omega (arith, long, below) in
    let n-is : n ≡ get_or journal.threads t n =
    get_or_default journal.threads t no_note n in_notes in
    subst (λ (xs : List LineNote). SeesInOrder script journal.ops 0 (zip ls xs))
    (sym (ns-is no_note))
    (thread-All script.threads journal.threads t ls n (ls-is ls) n-is below long
    (λ (x : List Line × ThreadNote). SeesInOrder script journal.ops 0 (zip x.0 x.1.lines))
    read.order)

-- the rows of the threads so far and of those that are left, with one thread more
pub rows-next : (script : Script) (journal : Journal) (threads : List (List Line))
    (notes : List ThreadNote) (t : ℕ) (note : ThreadNote) (ls : List Line) (ns : List LineNote)
    (rows all : List Row) → t < length threads → length notes ≡ length threads
    → ls ≡ get_or threads t ls → ns ≡ (get_or notes t note).lines
    → rows ++ flat_map (thread_rows script journal)
    (enumerate_from t (drop t (zip threads notes))) ≡ all
    → ((rows ++ Start (get_or notes t note) ∷ [])
    ++ map Noted (noted_from script journal.ops t 1 0 at_start (zip ls ns)))
    ++ flat_map (thread_rows script journal)
    (enumerate_from (t + 1) (drop (t + 1) (zip threads notes))) ≡ all
rows-next script journal threads notes t note ls ns rows all below long ls-is ns-is so_far =
    let here : ThreadNote = get_or notes t note in
    let one : List Row = map Noted (noted_from script journal.ops t 1 0 at_start (zip ls ns)) in
    let more : List Row = flat_map (thread_rows script journal)
    (enumerate_from (t + 1) (drop (t + 1) (zip threads notes))) in
    let next : drop t (zip threads notes) ≡ (get_or threads t ls, here) ∷ drop (t + 1)
    (zip threads notes) = zip_drop threads notes t ls note below long in
    append_assoc (rows ++ Start here ∷ []) one more
    ∙ append_assoc rows (Start here ∷ []) (one ++ more)
    ∙ ap (λ (xs : List LineNote). rows ++ (Start here ∷ (map Noted (noted_from script journal.ops t
    1 0 at_start (zip ls xs)) ++ more))) ns-is
    ∙ ap (λ (xs : List Line). rows ++ (Start here ∷ (map Noted (noted_from script journal.ops t
    1 0 at_start (zip xs here.lines)) ++ more))) ls-is
    ∙ ap (λ ts. rows ++ flat_map (thread_rows script journal) (enumerate_from t ts)) (sym next)
    ∙ so_far

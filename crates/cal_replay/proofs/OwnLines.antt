-- A line that is its thread's own.
use Rattle.std.proofs.Common.{◌≡◌, ℕ, ◌+◌, ◌<◌, ◌≤◌, List, [], ◌++◌, length, Bool, true}
use Rattle.std.proofs.Common.{false, if◌then◌else◌, refl, sym, ap, ◌∙◌, subst, arith, inl, inr, ◌⊎◌}
use Rattle.std.specs.Prelude.{Option, Some, None, unwrap_or, ◌&&◌}
use Rattle.std.specs.List.{list_any}
use Rattle.std.proofs.lemmas.Bool.{cases_lt}
use Rattle.std.proofs.lemmas.List.{append-nil, length-map, map-append}
use Rattle.cal_board.specs.Blackboard.{Blackboard}
use Rattle.cal_notes.specs.Notes.{IsNotedReply, OfOthers, known_journal}
use Rattle.cal_notes.specs.Running.{Learns}
use Rattle.cal_once.specs.Layout.{times}
use Rattle.cal_once.specs.Seats.{view}
use Rattle.cal_process.specs.Operations.{history_of, placed_as}
use Rattle.cal_process.specs.Replicas.{AddsWords}
use Rattle.cal_process.specs.declared.common.Common.{Common}
use Rattle.cal_process.specs.declared.replica.Replica.{Replica}
use Rattle.cal_replay.proofs.ShowingLemmas.{reads-nothing}
use Rattle.cal_replay.proofs.ShownAsNoted.{own-shown}
use Rattle.cal_replay.proofs.Takings.{looks-published, looks-used, taken-others}
use Rattle.cal_replay.specs.Steps.{Flushes, HasReply, IsGiven, KnowMore, Runs, Sees}
use Rattle.cal_replay.specs.Steps.{UsesWords, noted_line}
use Rattle.cal_replay.specs.Steps.{noted_with}
use Rattle.cal_replay.specs.Steps.{own_words, placed_words}
use Rattle.cal_replay.specs.Workers.{script_of}
use Rattle.cal_replay.specs.declared.shared.Shared.{Shared}
use Rattle.cal_replay.specs.declared.showing.ShownLine.{ShownLine}
use Rattle.cal_run.specs.Lawful.{IsRead}
use Rattle.cal_run.specs.Lines.{is_process_line, takes}
use Rattle.cal_run.specs.Steps.{ThreadState, changed, found_reply, is_accepted, looks}
use Rattle.cal_run.specs.Steps.{reading_of, reply_to_line, state_after}
use Rattle.cal_script.specs.Valid.{IsFlushed, IsPlaced}
use Rattle.cal_script.specs.declared.journal.LineNote.{LineNote}
use Rattle.cal_script.specs.declared.journal.Placed.{Placed}
use Rattle.cal_script.specs.declared.journal.Reply as replies
use Rattle.cal_script.specs.declared.journal.Reply.TheVariants as reply
use Rattle.cal_script.specs.declared.script.Channel.{Channel}
use Rattle.cal_script.specs.declared.script.Line as lines
use Rattle.cal_script.specs.declared.script.Line.TheVariants as line
use Rattle.cal_script.specs.declared.script.Script.{Script}
use Rattle.cal_thread.proofs.ThreadLemmas.{own-after}
use Rattle.cal_thread.specs.Lines.{Looks, MeetsOwn, words_of_line}
use Rattle.cal_thread.specs.Threads.{IsThread}
use Rattle.cal_thread.specs.declared.looking.Met.{Met}
use Rattle.cal_thread.specs.declared.thread.Thread.{Thread}
use Rattle.cal_value.specs.declared.variant.Variant.{Variant}
use Rattle.cal_words.specs.declared.op.OpRec.{OpRec}

-- ---- notes

-- whether a line takes a reading, by its reply
abbrev pub is_due : Script → lines.Line → Option replies.Reply → Bool
is_due script l found = list_any
    (λ (c : Channel). c.timer && (is_accepted found && takes script c l)) script.channels

-- a reading that is as it should be, by one journal and by another with the same clock
pub read-by : (script : Script) (real : Bool) (g h : List Placed) (due due' : Bool)
    (shown shown' : ℕ) (reading : Option ℕ) → due ≡ due' → shown ≡ shown'
    → IsRead script (known_journal real g) due shown reading
    → IsRead script (known_journal real h) due' shown' reading
read-by script real g h due due' shown shown' reading e s r = record {
  there = r.there ∙ e;
  value = λ not_real is. r.value not_real (e ∙ is) ∙ ap (λ (n : ℕ). Some n) s;
}

-- where no reply is found, merged may be given
pub merged-given : (thread : ℕ) (found : Option replies.Reply)
    → IsGiven thread found (unwrap_or found reply.Merged)
merged-given thread None = tt
merged-given thread (Some found) = refl

-- a board replies to every line but to a flush
pub replies-there : (script : Script) (b : Blackboard Variant) (l : lines.Line)
    → HasReply l (reply_to_line script b l)
replies-there script b (line.Begin a v) = refl
replies-there script b (line.End a) = refl
replies-there script b (line.Set a v) = refl
replies-there script b line.Snapshot = refl
replies-there script b (line.Flush c) = refl
replies-there script b (line.Tick n) = refl

-- a process line is no flush
pub shared-replies : (script : Script) (l : lines.Line) (found : replies.Reply)
    → is_process_line script l ≡ true → HasReply l (Some found)
shared-replies script (line.Begin a v) found is = refl
shared-replies script (line.End a) found is = refl
shared-replies script (line.Set a v) found is = refl
shared-replies script line.Snapshot found is = refl
shared-replies script (line.Flush c) found is = absurd cc
shared-replies script (line.Tick n) found is = refl

-- where a board replied, the line was no flush; and where none did it was one
module _ {F : Type 0} (flushed : F → F → ℕ → replies.Reply → Type 0) (old : F) where
  pub board-flushes : (l : lines.Line) (found : replies.Reply) → HasReply l (Some found)
      → Flushes flushed old old l found
  board-flushes (line.Begin a v) found there = refl
  board-flushes (line.End a) found there = refl
  board-flushes (line.Set a v) found there = refl
  board-flushes line.Snapshot found there = refl
  board-flushes (line.Flush c) found there = absurd cc
  board-flushes (line.Tick n) found there = refl

  pub flush-flushes : (new : F) (l : lines.Line) → HasReply l None → (channel : ℕ)
      → ((c : ℕ) → l ≡ line.Flush c → channel ≡ c) → (given : replies.Reply)
      → flushed old new channel given → Flushes flushed old new l given
  flush-flushes new (line.Begin a v) there channel is given done = absurd cc
  flush-flushes new (line.End a) there channel is given done = absurd cc
  flush-flushes new (line.Set a v) there channel is given done = absurd cc
  flush-flushes new line.Snapshot there channel is given done = absurd cc
  flush-flushes new (line.Flush c) there channel is given done =
      subst (λ (n : ℕ). flushed old new n given) (is c refl) done
  flush-flushes new (line.Tick n) there channel is given done = absurd cc

-- and the channel of a flush line, as it is placed, is what a flush may ask for
pub flush-placed : (script : Script) (l : lines.Line) → HasReply l None → (channel : ℕ)
    → ((c : ℕ) → l ≡ line.Flush c → channel ≡ c)
    → IsPlaced script.attributes script.channels script.values l
    → IsFlushed script.channels channel
flush-placed script (line.Begin a v) there channel is placed = absurd cc
flush-placed script (line.End a) there channel is placed = absurd cc
flush-placed script (line.Set a v) there channel is placed = absurd cc
flush-placed script line.Snapshot there channel is placed = absurd cc
flush-placed script (line.Flush c) there channel is placed =
    subst (IsFlushed script.channels) (sym (is c refl)) placed
flush-placed script (line.Tick n) there channel is placed = absurd cc

-- the reply that was given is noted
pub given-noted : (script : Script) (history : List Placed) (t : Thread) (done seen : ℕ)
    (l : lines.Line) (sees : ℕ) (reading : Option ℕ) (state : ThreadState)
    (found : Option replies.Reply) (given : replies.Reply)
    → ((note : LineNote) → note.seen ≡ sees → found_reply script history l note state ≡ found)
    → IsGiven t.number found given
    → (note : LineNote)
    → note ≡ record { reply = given; seen = sees; reading = reading }
    → IsNotedReply (noted_line t done seen l note state)
    (found_reply script history l note state)
given-noted script history t done seen l sees reading state found given is gives note e =
    let made : LineNote = record { reply = given; seen = sees; reading = reading } in
    let noted : IsNotedReply (noted_line t done seen l made state)
    (found_reply script history l made state) =
    subst (IsNotedReply (noted_line t done seen l made state)) (sym (is made refl))
    (by found gives) in
    subst (λ (n : LineNote). IsNotedReply (noted_line t done seen l n state)
    (found_reply script history l n state)) (sym e) noted
  where
    by : (f : Option replies.Reply) → IsGiven t.number f given
        → IsNotedReply (noted_line t done seen l
        (record { reply = given; seen = sees; reading = reading }) state) f
    by None flushed = flushed
    by (Some r) same = same

-- ---- the line

none-published : (ps : List ℕ) (seen place : ℕ) → ((q : ℕ) → 0 < times q ps → q < seen)
    → seen ≤ place → times place ps ≡ 0
none-published ps seen place below behind = by (cases_lt 0 (times place ps))
  where
    by : (0 < times place ps) ⊎ (times place ps ≤ 0) → times place ps ≡ 0
    by (inl some) = let less = below place some in absurd (omega (arith, less, behind))
    by (inr none) = omega (arith, none)

-- what such a line learns of the history
own-learns : (look : Bool) (thread number : ℕ) (ops : List OpRec) (common : Common)
    (old new : Replica) → OfOthers thread (history_of ops) → Looks common old new ops look
    → Learns false look (record { thread = thread; line = number }) (history_of ops)
own-learns true thread number ops common old new others l = others
own-learns false thread number ops common old new others l = ap history_of l.0

module _ (shared : Shared) (old mid new : Thread) (l : lines.Line) (met : Met)
    (given : replies.Reply) (reading : Option ℕ) (done : ℕ) (h : List OpRec) (state : ThreadState)
    (own : is_process_line (script_of shared) l ≡ false)
    (w : IsThread shared.common old done h state)
    (m : MeetsOwn shared.common old mid l met done h state)
    (number : mid.number ≡ old.number)
    (gives : IsGiven old.number met.reply given)
    (read : IsRead (script_of shared)
    (known_journal shared.real (history_of h ++ history_of m.ops))
    (is_due (script_of shared) l met.reply) mid.clock reading)
    (process : new.process ≡ mid.process)
    (makes : (note : LineNote) → reading_of note ≡ unwrap_or reading 0
    → IsThread shared.common mid done (h ++ m.ops) state
    → IsThread shared.common new (done + 1) (h ++ m.ops)
    (if met.accepted then changed (script_of shared) (history_of (h ++ m.ops)) l note state
    else state))
    (adds : AddsWords shared.common mid.tree new.tree (words_of_line (script_of shared) l))
    (learns : KnowMore old mid new) where
  abbrev script : Script
  script = script_of shared

  abbrev hist : List Placed
  hist = history_of h ++ history_of m.ops

  abbrev note : LineNote
  note = noted_with (record { reply = given; reading = reading }) new

  hist-is : history_of (h ++ m.ops) ≡ hist
  hist-is = map-append placed_as h m.ops

  found : (n : LineNote) → found_reply script hist l n state ≡ met.reply
  found n = ap (λ (ps : List Placed). found_reply script ps l n state) (sym hist-is) ∙ m.found n

  long : length hist ≡ new.process.seen
  long = ap length (sym hist-is) ∙ length-map (h ++ m.ops) placed_as ∙ m.kept.has.taken.long
      ∙ sym (ap (λ (p : Replica). p.seen) process)

  sees : Looks shared.common old.process new.process m.ops (looks script hist l note state)
  sees = subst (λ (ps : List Placed). Looks shared.common old.process new.process m.ops
      (looks script ps l note state)) hist-is
      (subst (λ (p : Replica). Looks shared.common old.process p m.ops
      (looks script (history_of (h ++ m.ops)) l note state)) (sym process) (m.sees note))

  others : OfOthers old.number (history_of m.ops)
  others = subst (λ (n : ℕ). OfOthers n (history_of m.ops)) number
      (taken-others shared.common mid h m.ops state m.kept.has (λ place behind within.
      let same = looks-published shared.common old.process mid.process m.ops
      (looks script (history_of (h ++ m.ops)) l note state) (m.sees note) in
      let was = w.has.taken.long in
      ap (times place) same ∙ none-published (view old.process.log).published old.process.seen
      place w.below (omega (arith, behind, was))))

  after : (if met.accepted then changed script (history_of (h ++ m.ops)) l note state else state)
      ≡ state_after script hist l note state
  after = ap (λ (b : Bool). if b then changed script hist l note state else state)
      (m.accepted ∙ ap is_accepted (sym (found note)))
      ∙ sym (own-after script hist l note state own)

  words : UsesWords shared old new l m.ops
  words =
      let none : placed_words script l ≡ 0 = ap (λ (p : Bool). if p then 7 else 0) own in
      let used = looks-used shared.common old.process mid.process m.ops
      (looks script (history_of (h ++ m.ops)) l note state) (m.sees note) in
      let same : (view new.process.log).used ≡ (view mid.process.log).used =
      ap (λ (p : Replica). (view p.log).used) process in
      let makes_own : own_words script l ≡ words_of_line script l =
      ap (λ (p : Bool). if p then 0 else words_of_line script l) own in
      let taken = m.words in
      record {
        placed = omega (arith, none, used, same);
        made = omega (arith, makes_own, taken, adds);
      }

  abbrev told : ShownLine
  told = record { line = l; accepted = met.accepted; reading = unwrap_or reading 0 }

  pub own-runs : Runs shared old mid new told l note done h state
  own-runs = record {
    ops = m.ops;
    next = λ seen. record {
      seen = sym long;
      learns = subst (λ (p : Bool). Learns p (looks script hist l note state)
          (record { thread = old.number; line = done + 1 }) (history_of m.ops)) (sym own)
          (own-learns (looks script hist l note state) old.number (done + 1) m.ops shared.common
          old.process new.process others sees);
      read = read-by script shared.real hist hist (is_due script l met.reply)
          (is_due script l (found_reply script hist l note state)) mid.clock state.clock reading
          (ap (is_due script l) (sym (found note))) m.kept.has.clock read;
      answered = given-noted script hist old done seen l new.process.seen reading state met.reply
          given (λ n is. found n) gives note refl;
    };
    sees = subst (λ (p : Bool). Sees shared old new done m.ops p
        (looks script hist l note state)) (sym own) sees;
    words = words;
    told_as = record {
      before = m.ops;
      rest = [];
      ops_are = sym (append-nil m.ops);
      as_noted = own-shown shared.common old mid mid told h state note (reads-nothing mid) refl met
          done m m.kept.has own refl (ap (λ (p : Replica). p.seen) process);
    };
    learns = learns;
    kept = subst (λ (s : ThreadState). IsThread shared.common new (done + 1) (h ++ m.ops) s) after
        (makes note refl m.kept);
  }

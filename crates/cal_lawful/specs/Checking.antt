-- What the parts of the check of a journal answer.
use Rattle.std.specs.Prelude.{◌≡◌, ℕ, ◌<◌, ◌+◌, ◌*◌, Bool, false, List, length, slice_index_or}
use Rattle.std.specs.Prelude.{Option, Some, None, All, if◌then◌else◌, not, ◌&&◌, ◌==◌, nat_lt, take}
use Rattle.std.specs.List.{AllZip, list_any}
use Rattle.std.specs.declared.vec.Vec.{Vec}
use Rattle.cal_board.specs.Blackboard.{Blackboard}
use Rattle.cal_context.specs.Tree.{Tree}
use Rattle.cal_journal.specs.declared.kind.JournalKind.{JournalKind}
use Rattle.cal_journal.specs.declared.kind.JournalKind.TheVariants as kind
use Rattle.cal_lawful.specs.Broken.{BreaksAt, BreaksRule, HasBegun, HoldAll, IsFirstBroken, KeepsRow}
use Rattle.cal_lawful.specs.Broken.{Noted, Row, Start, rules}
use Rattle.cal_run.specs.Held.{Holds, IsProcess}
use Rattle.cal_run.specs.Lawful.{NotedLine, placed_of, process_lines}
use Rattle.cal_run.specs.Lines.{is_process_line, takes}
use Rattle.cal_run.specs.Steps.{ThreadState, acted_on, is_accepted, reply_to_line}
use Rattle.cal_lawful.specs.declared.end.CoreEnd as ends
use Rattle.cal_lawful.specs.declared.end.CoreEnd.TheVariants as end
use Rattle.cal_lawful.specs.declared.found.Found.{Found}
use Rattle.cal_lawful.specs.declared.finding.FoundTests.{FoundTests}
use Rattle.cal_lawful.specs.declared.watch.Watch.{Watch}
use Rattle.cal_lawful.specs.declared.seen.SeenTests.{SeenTests}
use Rattle.cal_lawful.specs.declared.seen.Spot.{Spot}
use Rattle.cal_script.specs.declared.journal.Journal.{Journal}
use Rattle.cal_script.specs.declared.journal.JournalText.{JournalText}
use Rattle.cal_script.specs.declared.journal.LineNote.{LineNote}
use Rattle.cal_script.specs.declared.journal.Placed.{Placed}
use Rattle.cal_script.specs.declared.journal.Reply as replies
use Rattle.cal_script.specs.declared.journal.Reply.TheVariants as reply
use Rattle.cal_script.specs.declared.script.Channel.{Channel}
use Rattle.cal_script.specs.declared.script.Line as lines
use Rattle.cal_script.specs.declared.script.Line.TheVariants as line
use Rattle.cal_script.specs.declared.script.Script.{Script}

-- a check ends by a fault only of this rule
abbrev pub EndsBy : Script → JournalText → JournalKind → ends.CoreEnd → Type 0
EndsBy script text rule (end.JournalFault line kind) =
    (kind ≡ rule) × BreaksRule script text rule line
EndsBy script text rule end.OutOfMemory = Unit {0}

-- the first rules hold, in their order
abbrev pub HoldFirst : Script → JournalText → (count : ℕ) → Type 0
HoldFirst script text count = HoldAll script text (take count rules)

-- what a refusal says of a journal
abbrev pub IsRefusalOf : Script → JournalText → ends.CoreEnd → Type 0
IsRefusalOf script text (end.JournalFault line kind) = IsFirstBroken script text kind line
IsRefusalOf script text end.OutOfMemory = Unit {0}

-- the first item of a list that breaks a rule is told, or none does
abbrev pub Tells : {A : Type 0} → (A → Type 0) → Option ℕ → List A → Type 0
Tells Keeps None xs = All Keeps xs
Tells Keeps (Some place) xs = BreaksAt (All Keeps) xs place

-- ---- the history

-- these are the numbers of the process lines of threads
abbrev pub AreListed : {Z : Type 0} → Script → List (Vec ℕ Z) → List (List lines.Line) → Type 0
AreListed {Z} script lists threads =
    AllZip (λ (list : Vec ℕ Z) (ls : List lines.Line). list.items ≡ process_lines script ls)
    lists threads

-- Each thread has its first process lines in a history, and so many.
pub record AreCounted (script : Script) (history : List Placed) (counts : List ℕ) : Type 0 where
  pub begun : HasBegun script history
  pub long : length counts ≡ length script.threads
  pub counted : (thread : ℕ) → thread < length counts
      → slice_index_or counts thread 0 ≡ length (placed_of thread history)

-- the first operation that is out of order is told, or none is and they are counted
abbrev pub TellsOrder : Script → List Placed → Option ℕ → (counts : List ℕ) → Type 0
TellsOrder script history None counts = AreCounted script history counts
TellsOrder script history (Some place) counts = BreaksAt (HasBegun script) history place

-- ---- the rows

-- the first row that breaks a rule, behind one row more
abbrev pub next_first : Option ℕ → (row : ℕ) → (kept : Bool) → Option ℕ
next_first (Some first) row kept = Some first
next_first None row kept = if kept then None else Some row

-- a line with its note, where it stands
abbrev pub noted : Spot → lines.Line → LineNote → ThreadState → NotedLine
noted spot l note state = record {
  thread = spot.thread;
  number = spot.number;
  line = l;
  note = note;
  before = spot.before;
  state = state;
}

-- the channel of a flush that was merged
abbrev pub merged_channel : lines.Line → replies.Reply → Option ℕ
merged_channel (line.Flush channel) reply.Merged = Some channel
merged_channel _ _ = None

abbrev pub is_channel : (channel : ℕ) → Option ℕ → Bool
is_channel channel None = false
is_channel channel (Some merged) = merged == channel

-- whether a row is a flush of this channel that was merged in this thread
abbrev pub merges : (thread channel : ℕ) → Row → Bool
merges thread channel (Start note) = false
merges thread channel (Noted n) =
    n.thread == thread && is_channel channel (merged_channel n.line n.note.reply)

-- the marks of 64 threads with 16 channels each
abbrev pub has_merged : List Bool → (thread channel : ℕ) → Bool
has_merged marks thread channel = nat_lt thread 64 && nat_lt channel 16
    && slice_index_or marks (thread * 16 + channel) false

pub record AreMerged (rows : List Row) (marks : List Bool) : Type 0 where
  pub long : length marks ≡ 1024
  pub marked : (thread channel : ℕ)
      → has_merged marks thread channel ≡ list_any (merges thread channel) rows

-- a channel that was merged is one of 16
abbrev pub IsChannel : Option ℕ → Type 0
IsChannel None = Unit {0}
IsChannel (Some channel) = channel < 16

module _ (script : Script) (journal : Journal) where
  abbrev pub TellsRule : JournalKind → Option ℕ → List Row → Type 0
  TellsRule rule first rows = Tells (KeepsRow script journal rule) first rows

  -- the tests of what lines have seen tell of these rows
  pub record SeenTell (tests : SeenTests) (rows : List Row) : Type 0 where
    pub row : tests.row ≡ length rows
    pub falls : TellsRule kind.SeenFalls tests.falls rows
    pub past : TellsRule kind.SeenPast tests.past rows
    pub own : TellsRule kind.SeenOwn tests.own rows
    pub merged : AreMerged rows tests.merged.marks.items

  -- the tests of what lines find tell of these rows
  pub record FoundTell (tests : FoundTests) (rows : List Row) : Type 0 where
    pub row : tests.row ≡ length rows
    pub fixed : TellsRule kind.SeenFixed tests.fixed rows
    pub reading : TellsRule kind.Reading tests.reading rows
    pub reply : TellsRule kind.Reply tests.reply rows

-- ---- what a line finds

module _ (script : Script) where
  -- by its reply
  abbrev pub found_with : Option replies.Reply → lines.Line → (clock : ℕ) → Found
  found_with found l clock = record {
    reply = found;
    looks = list_any (λ (c : Channel). is_accepted found && takes script c l) script.channels
        && not (is_process_line script l);
    due = list_any (λ (c : Channel). c.timer && (is_accepted found && takes script c l))
        script.channels;
    clock = clock;
  }

  -- by the board that it acts on
  abbrev pub found_on : {V : Type 0} → Blackboard V → lines.Line → (clock : ℕ) → Found
  found_on b l clock = found_with (reply_to_line script b l) l clock

  abbrev pub found_of : List Placed → lines.Line → LineNote → ThreadState → Found
  found_of history l note state = found_on (acted_on script history l note state) l state.clock

-- A thread is kept in a context.
pub record IsWatched (t : Tree) (script : Script) (history : List Placed) (watch : Watch)
    (state : ThreadState) : Type 0 where
  pub mine : Holds t script watch.board state.board
  pub process : IsProcess t script history watch.process
  pub clock : watch.clock ≡ state.clock

-- a rule from SeenFalls on
abbrev pub IsOfRows : JournalKind → Type 0
IsOfRows kind.Form = ⊥
IsOfRows kind.Cut = ⊥
IsOfRows kind.After = ⊥
IsOfRows kind.Shape = ⊥
IsOfRows kind.OpStranger = ⊥
IsOfRows kind.OpOrder = ⊥
IsOfRows _ = Unit {0}

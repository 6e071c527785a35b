-- What a channel of a thread has taken over all lines done: what the plain meaning of a run takes,
-- part by part as it was flushed, and what wasn't flushed yet.
use Rattle.std.specs.Prelude.{◌≡◌, ℕ, List, [], ◌∷◌, ◌++◌}
use Rattle.std.specs.List.{AllZip}
use Rattle.cal_channel.specs.Channels.{Counts, HasTaken}
use Rattle.cal_channel.specs.Values.{ChannelValue}
use Rattle.cal_notes.specs.Running.{previous_behind}
use Rattle.cal_once.specs.declared.seat.RowSeat.{RowSeat}
use Rattle.cal_process.specs.Operations.{history_of}
use Rattle.cal_process.specs.declared.common.Common.{Common}
use Rattle.cal_replay.specs.declared.showing.ShownLine.{ShownLine}
use Rattle.cal_run.specs.Runs.{taken_by_thread}
use Rattle.cal_run.specs.Steps.{ThreadState, found_reply, is_accepted, reading_of, seen_before}
use Rattle.cal_script.specs.declared.journal.LineNote.{LineNote}
use Rattle.cal_script.specs.declared.journal.ThreadNote.{ThreadNote}
use Rattle.cal_script.specs.declared.script.Channel.{Channel}
use Rattle.cal_script.specs.declared.script.Line.{Line}
use Rattle.cal_table.specs.Tables.{TableValue}
use Rattle.cal_thread.specs.Threads.{HasState}
use Rattle.cal_thread.specs.declared.thread.Thread.{Thread}
use Rattle.cal_value.specs.declared.attribute.Attribute.{Attribute}
use Rattle.cal_value.specs.declared.record.Rec.{Rec}
use Rattle.cal_words.specs.declared.op.OpRec.{OpRec}
use Rattle.cal_words.specs.declared.sort.NodeSort.{NodeSort}

-- parts, one behind another
abbrev pub joined : List (List Rec) → List Rec
joined [] = []
joined (part ∷ parts) = part ++ joined parts

module _ (common : Common) (attributes : List Attribute) (seat : RowSeat NodeSort) where
  -- A channel has taken exactly these records: each part that was given to its book stands for a
  -- stretch of them, one behind another, and its table for the rest. This is its last reading.
  pub record HasShown (kept : ChannelValue) (given : List TableValue) (all : List Rec)
      (last : ℕ) : Type 0 where
    pub flushed : List (List Rec)
    pub unflushed : List Rec
    pub whole : joined flushed ++ unflushed ≡ all
    pub parts : AllZip (Counts attributes common.script.now common.tree seat) given flushed
    pub taken : HasTaken attributes common.script.now common.tree seat kept all unflushed
    pub previous : kept.previous ≡ last

  -- These are what the plain meaning of a run takes in the channel on a thread's lines, by its
  -- notes of them and the operations that it has seen.
  abbrev pub HasShownLines : List OpRec → List Line → ThreadNote → Channel → ChannelValue
      → List TableValue → Type 0
  HasShownLines h ls note channel kept given = HasShown kept given
      (taken_by_thread common.script.now (history_of h) channel (ls, note))
      (previous_behind common.script.now (history_of h) channel ls note)

-- A thread that had seen these operations, and sees the rest by the line's end, was shown a line as
-- its note has it: whether it is accepted, how much it had seen, and its reading.
pub record IsShownAs (common : Common) (thread : Thread) (shown : ShownLine)
    (h rest : List OpRec) (n : LineNote) (state : ThreadState) : Type 0 where
  pub has : HasState common thread h state
  pub accepted : shown.accepted
      ≡ is_accepted (found_reply common.script.now (history_of (h ++ rest)) shown.line n state)
  pub seen : thread.process.seen
      ≡ seen_before common.script.now (history_of (h ++ rest)) shown.line n
  pub reading : shown.reading ≡ reading_of n

-- A thread that had seen these operations, and sees these more by the line's end, was shown a line
-- as its note has it, behind the first of those.
pub record IsToldAs (common : Common) (thread : Thread) (shown : ShownLine) (h ops : List OpRec)
    (n : LineNote) (state : ThreadState) : Type 0 where
  pub before : List OpRec
  pub rest : List OpRec
  pub ops_are : ops ≡ before ++ rest
  pub as_noted : IsShownAs common thread shown (h ++ before) rest n state

-- What a world holds, as the plain meaning of its journal has it. (Giltmoth's rule.)
use Rattle.std.specs.Prelude.{◌≡◌, ℕ, ◌<◌, List, [], ◌∷◌, ◌++◌, length, map, flat_map, take, zip}
use Rattle.std.specs.Prelude.{All, None, Some, slice_get, slice_index_or, unwrap_or}
use Rattle.std.specs.List.{Contains, IsDistinct, enumerate_from}
use Rattle.std.specs.Ordering.{eq_by_cmp}
use Rattle.cal_context.specs.Lists.{IsFront}
use Rattle.cal_events.specs.Worlds.{Part, ThreadWorld, World, book_in, given_by, held_by, thread_in}
use Rattle.cal_run.specs.History.{process_board}
use Rattle.cal_run.specs.Paths.{nodes, paths_of}
use Rattle.cal_run.specs.Runs.{snapshots, state_after_lines, taken_from}
use Rattle.cal_run.specs.Steps.{at_start as state_at_start}
use Rattle.cal_script.specs.declared.journal.Journal.{Journal}
use Rattle.cal_script.specs.declared.journal.LineNote.{LineNote}
use Rattle.cal_script.specs.declared.journal.ThreadNote.{ThreadNote}
use Rattle.cal_script.specs.declared.script.Channel.{Channel}
use Rattle.cal_script.specs.declared.script.Line.{Line}
use Rattle.cal_script.specs.declared.script.Script.{Script}
use Rattle.cal_value.specs.Order.{path_cmp}
use Rattle.cal_value.specs.declared.attribute.Entry.{Entry}
use Rattle.cal_value.specs.declared.record.Rec.{Rec}
use Rattle.cal_world.specs.Progress.{reached_by}

-- ---- what a world has of a channel

-- the snapshots that the traces have, thread by thread
abbrev pub traced_in : World → (c : ℕ) → List Rec
traced_in w c = flat_map (λ (t : ThreadWorld). (held_by t c).trace) w.threads

-- and those that its book has and the threads keep
abbrev pub booked_in : World → (c : ℕ) → List Rec
booked_in w c = flat_map (λ (t : ℕ × ThreadWorld).
    given_by t.0 (book_in w c) ++ (held_by t.1 c).unflushed) (enumerate_from 0 w.threads)

-- ---- what it keeps of a journal

-- how many operations the last of these lines had seen
abbrev pub seen_from : (before : ℕ) → List (Line × LineNote) → ℕ
seen_from before [] = before
seen_from before (l ∷ ls) = seen_from l.1.seen ls

-- each of these paths stands in the list
abbrev pub HasPaths : (all some : List (List Entry)) → Type 0
HasPaths all some = All (Contains all) some

module _ (script : Script) (journal : Journal) where
  abbrev pub note_of : (thread : ℕ) → ThreadNote
  note_of thread = slice_index_or journal.threads thread (record { start = None; lines = [] })

  -- the lines of a thread with their notes
  abbrev pub noted : (thread : ℕ) → List (Line × LineNote)
  noted thread = zip (slice_index_or script.threads thread []) (note_of thread).lines

  -- the snapshots of a channel on lines of a thread
  abbrev pub taken_on : Channel → (thread : ℕ) → List (Line × LineNote) → List Rec
  taken_on channel thread ls = taken_from script journal.ops channel state_at_start
      (unwrap_or (note_of thread).start 0) ls

  -- Of a thread that has done these lines: its notes are those of the journal, and so is its state
  -- behind them. The trace of each channel has the snapshots of these lines, and so have the
  -- channel's book and what isn't flushed together. The paths stand in the list that its board
  -- holds, and those that the process's board holds behind what the last line had seen.
  pub record KeepsLines (w : World) (thread : ℕ) (ls : List (Line × LineNote)) : Type 0 where
    pub notes : (thread_in w thread).note
        ≡ record { start = (note_of thread).start; lines = map (λ l. l.1) ls }
    pub state : (thread_in w thread).state
        ≡ state_after_lines script journal.ops state_at_start ls
    pub traces : (c : ℕ) (channel : Channel) → slice_get script.channels c ≡ Some channel
        → (held_by (thread_in w thread) c).trace ≡ taken_on channel thread ls
    pub booked : (c : ℕ) (channel : Channel) → slice_get script.channels c ≡ Some channel
        → given_by thread (book_in w c) ++ (held_by (thread_in w thread) c).unflushed
        ≡ taken_on channel thread ls
    pub mine : HasPaths w.paths (paths_of script (thread_in w thread).state.board)
    pub process : HasPaths w.paths
        (paths_of script (process_board script journal.ops (seen_from 0 ls)))

  -- A world keeps a journal: its history is the first of the journal's, it keeps the lines done of
  -- each thread, no book has a part of another thread, and no path stands twice.
  pub record KeepsJournal (w : World) : Type 0 where
    pub history : IsFront w.progress.history journal.ops
    pub threads : (thread : ℕ) → thread < length script.threads
        → KeepsLines w thread (take (reached_by w.progress thread).lines (noted thread))
    pub books : All (λ book. All (λ (p : Part). p.thread < length script.threads) book) w.books
    pub apart : IsDistinct (eq_by_cmp path_cmp) w.paths

  -- ---- at the end

  -- The world is that of the whole journal.
  pub record EndsJournal (w : World) : Type 0 where
    pub history : w.progress.history ≡ journal.ops
    pub notes : map (λ (t : ThreadWorld). t.note) w.threads ≡ journal.threads
    pub traced : (c : ℕ) (channel : Channel) → slice_get script.channels c ≡ Some channel
        → traced_in w c ≡ snapshots script journal channel
    pub booked : (c : ℕ) (channel : Channel) → slice_get script.channels c ≡ Some channel
        → booked_in w c ≡ snapshots script journal channel
    pub paths : length w.paths ≡ nodes script journal

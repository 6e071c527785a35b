-- A world: what events have done so far. (Giltmoth's rule.)
use Rattle.std.specs.Prelude.{ℕ, List, [], map, filter, flat_map, Option, None, unwrap_or, ◌==◌}
use Rattle.std.specs.Prelude.{slice_index_or}
use Rattle.cal_run.specs.Steps.{ThreadState, at_start as state_at_start}
use Rattle.cal_script.specs.declared.journal.Journal.{Journal}
use Rattle.cal_script.specs.declared.journal.ThreadNote.{ThreadNote}
use Rattle.cal_script.specs.declared.script.Channel.{Channel}
use Rattle.cal_script.specs.declared.script.Script.{Script}
use Rattle.cal_value.specs.declared.attribute.Entry.{Entry}
use Rattle.cal_value.specs.declared.record.Rec.{Rec}
use Rattle.cal_world.specs.Progress.{Progress, at_start}

-- What a channel has of a thread: the reading of its last snapshot, its trace, and those of its
-- snapshots that aren't in the book.
pub record Held : Type 0 where
  pub previous : ℕ
  pub trace : List Rec
  pub unflushed : List Rec

-- What a thread has: how many operations of the history it has seen, its board with the readings
-- and its clock, the notes of its lines so far, and what each channel has of it.
pub record ThreadWorld : Type 0 where
  pub seen : ℕ
  pub state : ThreadState
  pub note : ThreadNote
  pub channels : List Held

-- snapshots that a thread gave to a book
pub record Part : Type 0 where
  pub thread : ℕ
  pub snapshots : List Rec

-- The history with how far each thread has come, the paths that have a node, each once, what each
-- thread has, and the book of each channel.
pub record World : Type 0 where
  pub progress : Progress
  pub paths : List (List Entry)
  pub threads : List ThreadWorld
  pub books : List (List Part)

-- ---- before the first event

-- A channel has the start reading, which is 0 where none was taken.
abbrev pub nothing_held : Option ℕ → Held
nothing_held start = record { previous = unwrap_or start 0; trace = []; unflushed = [] }

abbrev pub thread_at_start : Script → ThreadNote → ThreadWorld
thread_at_start script note = record {
  seen = 0;
  state = state_at_start;
  note = record { start = note.start; lines = [] };
  channels = map (λ (c : Channel). nothing_held note.start) script.channels;
}

abbrev pub world_at_start : Script → Journal → World
world_at_start script journal = record {
  progress = at_start script journal;
  paths = [];
  threads = map (thread_at_start script) journal.threads;
  books = map (λ (c : Channel). []) script.channels;
}

-- ---- the parts of a world

abbrev pub held_by : ThreadWorld → (channel : ℕ) → Held
held_by t channel = slice_index_or t.channels channel (nothing_held None)

abbrev pub no_thread : ThreadWorld
no_thread = record {
  seen = 0;
  state = state_at_start;
  note = record { start = None; lines = [] };
  channels = [];
}

abbrev pub thread_in : World → (thread : ℕ) → ThreadWorld
thread_in w thread = slice_index_or w.threads thread no_thread

abbrev pub book_in : World → (channel : ℕ) → List Part
book_in w channel = slice_index_or w.books channel []

-- what a book has of a thread, in the order in which it was given
abbrev pub given_by : (thread : ℕ) → List Part → List Rec
given_by thread book =
    flat_map (λ (p : Part). p.snapshots) (filter (λ (p : Part). p.thread == thread) book)

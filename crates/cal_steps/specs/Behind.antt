-- Worlds between two events of a run.
use Rattle.std.specs.Prelude.{◌≡◌, ℕ, ◌+◌, ◌-◌, ◌<◌, ◌≤◌, List, [], length, Option, Some}
use Rattle.std.specs.Prelude.{slice_index_or, slice_set}
use Rattle.cal_events.specs.Effects.{next_path, world_behind}
use Rattle.cal_events.specs.Worlds.{ThreadWorld, World, thread_in, world_at_start}
use Rattle.cal_run.specs.Held.{IsKnown}
use Rattle.cal_run.specs.Paths.{paths_of}
use Rattle.cal_script.specs.Valid.{IsPlaced}
use Rattle.cal_script.specs.declared.journal.Journal.{Journal}
use Rattle.cal_script.specs.declared.script.Script.{Script}
use Rattle.cal_steps.specs.Newest.{IsNewest}
use Rattle.cal_steps.specs.NodePlaces.{IsNodePlace, node_board}
use Rattle.cal_value.specs.declared.attribute.Entry.{Entry}
use Rattle.cal_world.specs.Events.{first_events, seen_before}
use Rattle.cal_world.specs.Progress.{AreNext, at_start, reached_by}
use Rattle.cal_world.specs.declared.event.Event as events
use Rattle.cal_world.specs.declared.event.Event.TheVariants as event
use Rattle.cal_world.specs.declared.turn.Turn.{Turn}

-- The world is behind some events, each the next of its thread at its turn.
pub record IsBehind (script : Script) (journal : Journal) (w : World) : Type 0 where
  pub events : List events.Event
  pub next : AreNext script journal (at_start script journal) events
  pub world : w ≡ world_behind script journal (world_at_start script journal) events

-- all but what this thread has is as before
abbrev pub IsSameBut : (thread : ℕ) → (old new : World) → Type 0
IsSameBut thread old new =
    (t : ThreadWorld) × (new ≡ record old { threads = slice_set old.threads thread t })

-- An event of a thread's line may come: the thread is one of the world's, its numbers are small,
-- its board is known, and each channel has a book and something of the thread.
pub record IsReady (script : Script) (w : World) (x : Turn) (t : ℕ) : Type 0 where
  pub within : t < length w.threads
  pub reached : t < length w.progress.threads
  pub few_events : (reached_by w.progress t).events + 1 < 18446744073709551616
  pub few_lines : (reached_by w.progress t).lines + 1 < 18446744073709551616
  pub placed : IsPlaced script.attributes script.channels script.values x.line
  pub known : IsKnown script (thread_in w t).state.board
  pub seen : (thread_in w t).seen ≤ length w.progress.history
  pub long : length (thread_in w t).channels ≡ length script.channels
  pub books : length w.books ≡ length script.channels

-- The next node of a thread's line may come: the line is one of the script's, the history has what
-- it has seen, and of the paths of the board behind the operation that the node is for, the one
-- that is next alone may lack a node.
pub record IsNodeReady (script : Script) (journal : Journal) (w : World) (x : Turn) (t : ℕ)
    : Type 0 where
  pub late : length (first_events script x) ≤ (reached_by w.progress t).events
  pub thread : x.thread < length script.threads
  pub line : x.number ≤ length (slice_index_or script.threads x.thread [])
  pub seen : x.note.seen ≤ length w.progress.history
  pub newest : (place : Option ℕ)
      → IsNodePlace script journal w.progress.history x.before (seen_before script x)
      ((reached_by w.progress t).events - length (first_events script x)) place
      → (path : List Entry) × (next_path script journal w x t ≡ Some path)
      × IsNewest w.paths (paths_of script (node_board script w.progress.history x place)) path

-- an event that is a Node may come
abbrev pub MayMakeNode : Script → Journal → World → Turn → events.Event → Type 0
MayMakeNode script journal w x (event.Node t) = IsNodeReady script journal w x t
MayMakeNode script journal w x _ = Unit {0}

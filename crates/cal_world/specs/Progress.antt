-- How far a run has come, and which events may come next. (Giltmoth's rule.)
use Rattle.std.specs.Prelude.{◌≡◌, ℕ, ◌+◌, ◌-◌, ◌<◌, List, [], ◌∷◌, ◌++◌, length, map}
use Rattle.std.specs.Prelude.{Option, Some, option_and_then, slice_get, slice_index_or, slice_set}
use Rattle.cal_script.specs.declared.journal.Journal.{Journal}
use Rattle.cal_script.specs.declared.journal.Placed.{Placed}
use Rattle.cal_script.specs.declared.script.Script.{Script}
use Rattle.cal_world.specs.Events.{events_of}
use Rattle.cal_world.specs.Turns.{turns_by_thread}
use Rattle.cal_world.specs.declared.event.Event as events
use Rattle.cal_world.specs.declared.event.Event.TheVariants as event
use Rattle.cal_world.specs.declared.turn.Turn.{Turn}

-- how many lines of a thread are done, and how many events of the line after these
pub record Reached : Type 0 where
  pub lines : ℕ
  pub events : ℕ

-- so many lines are done, and no event after these
abbrev pub behind : ℕ → Reached
behind lines = record { lines = lines; events = 0 }

-- the history so far, and how far each thread has come
pub record Progress : Type 0 where
  pub history : List Placed
  pub threads : List Reached

-- the thread of an event
abbrev pub thread_of : events.Event → ℕ
thread_of (event.Node t) = t
thread_of (event.Place t l) = t
thread_of (event.Look t l) = t
thread_of (event.Flush t l) = t
thread_of (event.Own t l) = t

-- ---- what an event does

-- Place adds a process line at the history's end.
abbrev pub history_after : List Placed → events.Event → List Placed
history_after history (event.Place t l) = history ++ record { thread = t; line = l } ∷ []
history_after history _ = history

-- Flush and Own end a line.
abbrev pub reached_after : Reached → events.Event → Reached
reached_after r (event.Flush t l) = behind (r.lines + 1)
reached_after r (event.Own t l) = behind (r.lines + 1)
reached_after r _ = record { lines = r.lines; events = r.events + 1 }

abbrev pub reached_by : Progress → ℕ → Reached
reached_by p thread = slice_index_or p.threads thread (behind 0)

abbrev pub progress_after : Progress → events.Event → Progress
progress_after p e = record {
  history = history_after p.history e;
  threads = slice_set p.threads (thread_of e) (reached_after (reached_by p (thread_of e)) e);
}

-- and events one after another
abbrev pub progress_behind : Progress → List events.Event → Progress
progress_behind p [] = p
progress_behind p (e ∷ es) = progress_behind (progress_after p e) es

-- ---- which event may come next

-- A process line is placed where the journal has it, and a line that looks sees what it has seen
-- there.
abbrev pub FindsHistory : List Placed → Turn → events.Event → Type 0
FindsHistory history turn (event.Place t l) = length history ≡ turn.note.seen - 1
FindsHistory history turn (event.Look t l) = length history ≡ turn.note.seen
FindsHistory history turn _ = Unit {0}

module _ (script : Script) (journal : Journal) where
  -- the line of a thread behind so many
  abbrev pub turn_behind : (thread lines : ℕ) → Option Turn
  turn_behind thread lines = option_and_then (λ (ts : List Turn). slice_get ts lines)
      (slice_get (turns_by_thread script journal) thread)

  -- An event is the next of its thread: all earlier ones of the thread are done.
  pub record IsNext (p : Progress) (e : events.Event) : Type 0 where
    pub within : thread_of e < length p.threads
    pub turn : Turn
    pub line : turn_behind (thread_of e) (reached_by p (thread_of e)).lines ≡ Some turn
    pub event : slice_get (events_of script journal turn) (reached_by p (thread_of e)).events
        ≡ Some e
    pub finds : FindsHistory p.history turn e

  -- events one after another, each the next of its thread at its turn
  abbrev pub AreNext : Progress → List events.Event → Type 0
  AreNext p [] = Unit {0}
  AreNext p (e ∷ es) = IsNext p e × AreNext (progress_after p e) es

  -- before the first event, and behind all lines
  abbrev pub at_start : Progress
  at_start = record {
    history = [];
    threads = map (λ (ts : List Turn). behind 0) (turns_by_thread script journal);
  }

  abbrev pub at_end : Progress
  at_end = record {
    history = journal.ops;
    threads = map (λ (ts : List Turn). behind (length ts)) (turns_by_thread script journal);
  }

  -- In this order each event is the next of its thread at its turn, and behind them all lines are
  -- done and the history is the journal's.
  pub record IsWholeRun (es : List events.Event) : Type 0 where
    pub next : AreNext at_start es
    pub ends : progress_behind at_start es ≡ at_end

-- What an event does to a world. (Giltmoth's rule.)
use Rattle.std.specs.Prelude.{ℕ, ◌-◌, List, [], ◌∷◌, ◌++◌, length, map, zip, Option, Some, None}
use Rattle.std.specs.Prelude.{slice_get, slice_index_or, slice_set, unwrap_or}
use Rattle.cal_events.specs.Nodes.{node_paths, with_path}
use Rattle.cal_events.specs.Worlds.{Held, Part, ThreadWorld, World, held_by, thread_in}
use Rattle.cal_run.specs.Steps.{found_reply, previous_after, state_after, taken_in}
use Rattle.cal_script.specs.declared.journal.Journal.{Journal}
use Rattle.cal_script.specs.declared.journal.LineNote.{LineNote}
use Rattle.cal_script.specs.declared.journal.Placed.{Placed}
use Rattle.cal_script.specs.declared.journal.Reply as replies
use Rattle.cal_script.specs.declared.journal.Reply.TheVariants as reply
use Rattle.cal_script.specs.declared.script.Channel.{Channel}
use Rattle.cal_script.specs.declared.script.Line as lines
use Rattle.cal_script.specs.declared.script.Line.TheVariants as line
use Rattle.cal_script.specs.declared.script.Script.{Script}
use Rattle.cal_value.specs.declared.attribute.Entry.{Entry}
use Rattle.cal_value.specs.declared.record.Rec.{Rec}
use Rattle.cal_world.specs.Events.{first_events}
use Rattle.cal_world.specs.Progress.{progress_after, reached_by, thread_of, turn_behind}
use Rattle.cal_world.specs.declared.event.Event as events
use Rattle.cal_world.specs.declared.event.Event.TheVariants as event
use Rattle.cal_world.specs.declared.turn.Turn.{Turn}

-- ---- the end of a line

module _ (script : Script) (history : List Placed) (x : Turn) (t : ThreadWorld) where
  -- The line met what its thread has seen, and the reading of the journal.
  abbrev pub met : replies.Reply → LineNote
  met found = record { reply = found; seen = t.seen; reading = x.note.reading }

  -- Its reply is found; that to a flush is the journal's.
  abbrev pub note_made : LineNote
  note_made = met (unwrap_or (found_reply script history x.line (met x.note.reply) t.state)
      x.note.reply)

  -- its snapshots are taken, channel by channel
  abbrev pub taken_now : Channel → Held → List Rec
  taken_now channel h = taken_in script history x.line note_made t.state channel h.previous

  abbrev pub held_after : Channel × Held → Held
  held_after c = record {
    previous = previous_after script history x.line note_made t.state c.0 c.1.previous;
    trace = c.1.trace ++ taken_now c.0 c.1;
    unflushed = c.1.unflushed ++ taken_now c.0 c.1;
  }

  -- its change is made, and its note is added
  abbrev pub line_ended : ThreadWorld
  line_ended = record {
    seen = t.seen;
    state = state_after script history x.line note_made t.state;
    note = record t.note { lines = t.note.lines ++ note_made ∷ [] };
    channels = map held_after (zip script.channels t.channels);
  }

-- ---- a flush

-- the channel whose flush was merged
abbrev pub merged_of : lines.Line → replies.Reply → Option ℕ
merged_of (line.Flush channel) reply.Merged = Some channel
merged_of _ _ = None

-- the thread keeps nothing of a channel that isn't in the book
abbrev pub handed_over : Option ℕ → ThreadWorld → ThreadWorld
handed_over None t = t
handed_over (Some channel) t = record t {
  channels = slice_set t.channels channel (record (held_by t channel) { unflushed = [] });
}

-- and the book has it
abbrev pub books_with : Option ℕ → (thread : ℕ) → ThreadWorld → List (List Part) → List (List Part)
books_with None thread t books = books
books_with (Some channel) thread t books = slice_set books channel (slice_index_or books channel []
    ++ record { thread = thread; snapshots = (held_by t channel).unflushed } ∷ [])

-- ---- each event

module _ (script : Script) (journal : Journal) (w : World) (x : Turn) where
  -- What the thread has behind the event of this line. Behind Place and Look it has seen the whole
  -- history.
  abbrev pub thread_after : events.Event → ThreadWorld
  thread_after (event.Node t) = thread_in w t
  thread_after (event.Place t l) =
      record (thread_in w t) { seen = length (progress_after w.progress (event.Place t l)).history }
  thread_after (event.Look t l) = record (thread_in w t) { seen = length w.progress.history }
  thread_after (event.Flush t l) = handed_over (merged_of x.line x.note.reply)
      (line_ended script w.progress.history x (thread_in w t))
  thread_after (event.Own t l) = line_ended script w.progress.history x (thread_in w t)

  -- A flush that was merged moves what the thread has to the book.
  abbrev pub books_after : events.Event → List (List Part)
  books_after (event.Flush t l) = books_with (merged_of x.line x.note.reply) t
      (line_ended script w.progress.history x (thread_in w t)) w.books
  books_after _ = w.books

  -- the path of the next node of the line
  abbrev pub next_path : (thread : ℕ) → Option (List Entry)
  next_path t = slice_get (node_paths script journal w.progress.history x (thread_in w t).state)
      ((reached_by w.progress t).events - length (first_events script x))

  -- Node adds it to the paths.
  abbrev pub paths_after : events.Event → List (List Entry)
  paths_after (event.Node t) = with_path w.paths (next_path t)
  paths_after _ = w.paths

  abbrev pub world_by : events.Event → World
  world_by e = record {
    progress = progress_after w.progress e;
    paths = paths_after e;
    threads = slice_set w.threads (thread_of e) (thread_after e);
    books = books_after e;
  }

module _ (script : Script) (journal : Journal) where
  -- An event is of the line that comes next of its thread.
  abbrev pub world_if : World → events.Event → Option Turn → World
  world_if w e None = w
  world_if w e (Some x) = world_by script journal w x e

  abbrev pub world_after : World → events.Event → World
  world_after w e = world_if w e
      (turn_behind script journal (thread_of e) (reached_by w.progress (thread_of e)).lines)

  -- and events one after another
  abbrev pub world_behind : World → List events.Event → World
  world_behind w [] = w
  world_behind w (e ∷ es) = world_behind (world_after w e) es

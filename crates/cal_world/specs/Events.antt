-- The events of a line, by what the journal tells of it. (Giltmoth's rule.)
use Rattle.std.specs.Prelude.{ℕ, ◌-◌, Bool, true, false, List, [], ◌∷◌, ◌++◌, flat_map, slice_get}
use Rattle.std.specs.Prelude.{if◌then◌else◌, not, ◌&&◌, Option, Some, None, option_and_then}
use Rattle.std.specs.Prelude.{slice_range}
use Rattle.cal_run.specs.Lines.{attr_ref, is_process_line, is_such, line_at, operation_of}
use Rattle.cal_run.specs.Noting.{is_taken}
use Rattle.cal_run.specs.Steps.{is_accepted}
use Rattle.cal_run.specs.declared.operation.Operation.{Operation}
use Rattle.cal_script.specs.declared.journal.Journal.{Journal}
use Rattle.cal_script.specs.declared.journal.LineNote.{LineNote}
use Rattle.cal_script.specs.declared.journal.Placed.{Placed}
use Rattle.cal_script.specs.declared.journal.ThreadNote.{ThreadNote}
use Rattle.cal_script.specs.declared.script.Line as lines
use Rattle.cal_script.specs.declared.script.Line.TheVariants as line
use Rattle.cal_script.specs.declared.script.Script.{Script}
use Rattle.cal_words.specs.declared.op.OpCode as codes
use Rattle.cal_words.specs.declared.op.OpCode.TheVariants as code
use Rattle.cal_world.specs.declared.event.Event as events
use Rattle.cal_world.specs.declared.event.Event.TheVariants as event
use Rattle.cal_world.specs.declared.turn.Turn.{Turn}

-- whether an operation opens a value
abbrev pub is_opening : codes.OpCode → Bool
is_opening code.Begin = true
is_opening code.End = false
is_opening code.Set = true

module _ (script : Script) where
  -- A `begin` or `set` of a reference attribute puts another path into a slot.
  abbrev pub opens_path : Operation → Bool
  opens_path op = is_opening op.code && not (attr_ref script op.attr).as_value

  -- whether a line was accepted that does so
  abbrev pub needs_node : lines.Line → LineNote → Bool
  needs_node l note = is_accepted (Some note.reply) && is_such opens_path (operation_of l)

  -- whether a line looks, by its reply
  abbrev pub is_looking : lines.Line → LineNote → Bool
  is_looking l note = is_taken script l (Some note.reply) && not (is_process_line script l)

  abbrev pub needs_node_if : Option lines.Line → Option LineNote → Bool
  needs_node_if (Some l) (Some note) = needs_node l note
  needs_node_if _ _ = false

-- the note of a place of the history
abbrev pub note_at : List ThreadNote → Placed → Option LineNote
note_at notes p =
    option_and_then (λ (t : ThreadNote). slice_get t.lines (p.line - 1)) (slice_get notes p.thread)

-- a node, if it is needed
abbrev pub node_if : (thread : ℕ) → Bool → List events.Event
node_if thread needed = if needed then event.Node thread ∷ [] else []

-- how a line ends
abbrev pub end_event : Turn → lines.Line → events.Event
end_event t (line.Flush c) = event.Flush t.thread t.number
end_event t _ = event.Own t.thread t.number

module _ (script : Script) (t : Turn) where
  -- A process line is placed, and another line that looks sees the whole history.
  abbrev pub first_events : List events.Event
  first_events = if is_process_line script t.line then event.Place t.thread t.number ∷ []
      else (if is_looking script t.line t.note then event.Look t.thread t.number ∷ [] else [])

  -- how much of the history a line takes in: all that it has seen, but for its own operation
  abbrev pub seen_before : ℕ
  seen_before = if is_process_line script t.line then t.note.seen - 1 else t.note.seen

module _ (script : Script) (journal : Journal) where
  -- whether the operation of a place needs a node
  abbrev pub placed_node : Placed → Bool
  placed_node p =
      needs_node_if script (line_at script p.thread p.line) (note_at journal.threads p)

  -- a node for the operation of a place that is taken in
  abbrev pub placed_nodes : (thread : ℕ) → Placed → List events.Event
  placed_nodes thread p = node_if thread (placed_node p)

  -- of a place, if there is one
  abbrev pub nodes_at : (thread : ℕ) → Option Placed → List events.Event
  nodes_at thread None = []
  nodes_at thread (Some p) = placed_nodes thread p

  -- The events of a line: what stands in the history behind what the thread had seen is taken in,
  -- and the line's own change gets its node, before the line ends.
  abbrev pub events_of : Turn → List events.Event
  events_of t = first_events script t
      ++ flat_map (placed_nodes t.thread) (slice_range journal.ops t.before (seen_before script t))
      ++ node_if t.thread (needs_node script t.line t.note)
      ++ end_event t t.line ∷ []

-- A line ends in memory as it ends in a world.
use Rattle.std.proofs.Common.{◌≡◌, ℕ, Bool, true, false, ◌&&◌, List, [], ◌∷◌, ◌++◌, length, map}
use Rattle.std.proofs.Common.{fold, take, ap, sym, refl, ◌∙◌, arith, if◌then◌else◌, append-nil}
use Rattle.std.proofs.Common.{true≢false}
use Rattle.std.specs.Prelude.{Option, Some, None, not, zip}
use Rattle.std.proofs.lemmas.List.Elements.{All-nil}
use Rattle.cal_board.specs.Blackboard.{Blackboard, nothing_open}
use Rattle.cal_board.specs.PathBoards.{AreKnown}
use Rattle.cal_board.specs.declared.opened.Slot.{Slot}
use Rattle.cal_board.specs.declared.reply.BoardReply as boards
use Rattle.cal_board.specs.declared.reply.BoardReply.TheVariants as board
use Rattle.cal_events.proofs.SightLemmas.{held_as}
use Rattle.cal_events.specs.Effects.{line_ended, note_made}
use Rattle.cal_events.specs.Worlds.{Held}
use Rattle.cal_run.proofs.HeldLemmas.{after-known, history-HasPlaces}
use Rattle.cal_run.specs.Adding.{MayHavePlaces}
use Rattle.cal_run.specs.Held.{IsKnown}
use Rattle.cal_run.specs.History.{board_placed, placed_operation, process_board}
use Rattle.cal_run.specs.Lines.{attr_ref, clock_after, is_process_line, operation_of, takes}
use Rattle.cal_run.specs.Lines.{value_of}
use Rattle.cal_run.specs.Snapshots.{Sight as seen, snapshot_of}
use Rattle.cal_run.specs.Steps.{ThreadState as states, as_reply, found_reply, is_accepted}
use Rattle.cal_run.specs.Steps.{process_seen, reading_of, readings_changed, reply_to_line}
use Rattle.cal_run.specs.Steps.{state_after}
use Rattle.cal_run.specs.declared.operation.Operation.{Operation}
use Rattle.cal_script.specs.Valid.{IsRunnable}
use Rattle.cal_script.specs.declared.journal.LineNote.{LineNote}
use Rattle.cal_script.specs.declared.journal.Placed.{Placed}
use Rattle.cal_script.specs.declared.journal.Reply as replies
use Rattle.cal_script.specs.declared.journal.ThreadNote.{ThreadNote}
use Rattle.cal_script.specs.declared.script.Channel.{Channel}
use Rattle.cal_script.specs.declared.script.Line as lines
use Rattle.cal_script.specs.declared.script.Line.TheVariants as line
use Rattle.cal_script.specs.declared.script.Script.{Script}
use Rattle.cal_steps.specs.Sights.{IsLeft, MayTake, held_with, shown_by, thread_world}
use Rattle.cal_steps.specs.declared.thread.ThreadState.{ThreadState}
use Rattle.cal_value.specs.declared.variant.Variant.{Variant}
use Rattle.cal_world.specs.declared.turn.Turn.{Turn}

-- ---- the process's board is known

module _ (script : Script) (runnable : IsRunnable script) where
  known-placed : (b : Blackboard Variant) (p : Placed) → IsKnown script b
      → IsKnown script (board_placed script b (placed_operation script p))
  known-placed b p known = by (placed_operation script p) refl
    where
      by : (o : Option Operation) → placed_operation script p ≡ o
          → IsKnown script (board_placed script b o)
      by None e = known
      by (Some op) e = after-known script b known (attr_ref script op.attr)
          (history-HasPlaces script p op runnable e).attr (value_of script op) op.code

  known-all : (ps : List Placed) (b : Blackboard Variant) → IsKnown script b
      → IsKnown script (fold (λ c p. board_placed script c (placed_operation script p)) b ps)
  known-all [] b known = known
  known-all (p ∷ ps) b known =
      known-all ps (board_placed script b (placed_operation script p)) (known-placed b p known)

  pub process-known : (history : List Placed) (count : ℕ)
      → IsKnown script (process_board script history count)
  process-known history count = known-all (take count history) nothing_open (record {
    references = All-nil (λ (s : Slot Variant). AreKnown script.attributes s.opened);
    as_values = All-nil (λ (s : Slot Variant). AreKnown script.attributes s.opened);
  })

-- ---- an accepted line may be taken

as-done : (r : boards.BoardReply) → is_accepted (Some (as_reply r)) ≡ true → r ≡ board.Done
as-done board.Done e = refl
as-done (board.Mismatch top) e = absurd (true≢false (sym e))
as-done board.NotOpen e = absurd (true≢false (sym e))
as-done (board.TreeFull full) e = absurd (true≢false (sym e))
as-done board.TooDeep e = absurd (true≢false (sym e))
as-done board.SlotsFull e = absurd (true≢false (sym e))

pub may-take : (script : Script) (s : seen) (l : lines.Line) → MayHavePlaces script (operation_of l)
    → is_accepted (reply_to_line script (if is_process_line script l then s.process else s.mine) l)
    ≡ true
    → MayTake script s (operation_of l)
may-take script s (line.Begin a v) places e = (places, as-done _ e)
may-take script s (line.End a) places e = (places, as-done _ e)
may-take script s (line.Set a v) places e = (places, as-done _ e)
may-take script s line.Snapshot places e = tt
may-take script s (line.Flush c) places e = tt
may-take script s (line.Tick n) places e = tt

-- ---- the end of a line

kept-seconds : (cs : List Channel) (hs : List Held) → length hs ≡ length cs
    → map (λ (c : Channel × Held). c.1) (zip cs hs) ≡ hs
kept-seconds [] [] long = refl
kept-seconds [] (h ∷ hs) long = absurd (omega (arith, long))
kept-seconds (c ∷ cs) [] long = absurd (omega (arith, long))
kept-seconds (c ∷ cs) (h ∷ hs) long = ap (λ ks. h ∷ ks) (kept-seconds cs hs (omega (arith, long)))

never : {A : Type 0} (b : Bool) (x y : A) → (if b && false then x else y) ≡ y
never true x y = refl
never false x y = refl

module _ (script : Script) (history : List Placed) (x : Turn) (old new : ThreadState)
    (r : replies.Reply) (shared accepted : Bool) (process : Blackboard Variant) where
  abbrev note : LineNote
  note = record { reply = r; seen = old.seen; reading = x.note.reading }

  abbrev state : states
  state = record { board = old.board; readings = old.readings; clock = old.clock }

  abbrev found : Option replies.Reply
  found = found_reply script history x.line note state

  abbrev zs : List (Channel × Held)
  zs = zip script.channels old.channels.items

  accepted-held : is_accepted found ≡ true → (c : Channel × Held)
      → held_as script history x note state c
      ≡ held_with script x.line (shown_by old (process_seen script history x.line note) note) c
  accepted-held e c = λ j. record {
    previous = if c.0.timer && (e j && takes script c.0 x.line) then reading_of note
        else c.1.previous;
    trace = c.1.trace ++ (if e j && takes script c.0 x.line
        then snapshot_of script (record {
          mine = old.board;
          process = process_seen script history x.line note;
          readings = old.readings;
          reading = reading_of note;
          previous = c.1.previous;
        }) c.0 (operation_of x.line) ∷ [] else []);
    unflushed = c.1.unflushed ++ (if e j && takes script c.0 x.line
        then snapshot_of script (record {
          mine = old.board;
          process = process_seen script history x.line note;
          readings = old.readings;
          reading = reading_of note;
          previous = c.1.previous;
        }) c.0 (operation_of x.line) ∷ [] else []);
  }

  refused-held : is_accepted found ≡ false → (c : Channel × Held)
      → held_as script history x note state c ≡ c.1
  refused-held e c =
      (λ j. record {
        previous = if c.0.timer && (e j && takes script c.0 x.line) then reading_of note
            else c.1.previous;
        trace = c.1.trace ++ (if e j && takes script c.0 x.line
            then snapshot_of script (record {
              mine = old.board;
              process = process_seen script history x.line note;
              readings = old.readings;
              reading = reading_of note;
              previous = c.1.previous;
            }) c.0 (operation_of x.line) ∷ [] else []);
        unflushed = c.1.unflushed ++ (if e j && takes script c.0 x.line
            then snapshot_of script (record {
              mine = old.board;
              process = process_seen script history x.line note;
              readings = old.readings;
              reading = reading_of note;
              previous = c.1.previous;
            }) c.0 (operation_of x.line) ∷ [] else []);
      })
      ∙ (λ j. record {
        previous = never c.0.timer (reading_of note) c.1.previous j;
        trace = append-nil c.1.trace j;
        unflushed = append-nil c.1.unflushed j;
      })

  module _ (kind : shared ≡ is_process_line script x.line)
      (process_is : process ≡ process_seen script history x.line note)
      (answer : accepted ≡ is_accepted found)
      (long : length old.channels.items ≡ length script.channels)
      (left : IsLeft script x.line note shared accepted process old new) where
    channels-left : new.channels.items ≡ map (held_as script history x note state) zs
    channels-left = left.channels
        ∙ (λ j. if answer j
        then map (held_with script x.line (shown_by old (process_is j) note)) zs
        else old.channels.items)
        ∙ by (is_accepted found) refl
      where
        by : (a : Bool) → is_accepted found ≡ a
            → (if a then map (held_with script x.line
            (shown_by old (process_seen script history x.line note) note)) zs
            else old.channels.items)
            ≡ map (held_as script history x note state) zs
        by true e = sym (λ j. map (λ (c : Channel × Held). accepted-held e c j) zs)
        by false e = sym ((λ j. map (λ (c : Channel × Held). refused-held e c j) zs)
            ∙ kept-seconds script.channels old.channels.items long)

    state-if : (b : Bool) → record {
      board = if b then board_placed script old.board (operation_of x.line) else old.board;
      readings = if b then readings_changed script old.readings note (operation_of x.line)
          else old.readings;
      clock = if b then clock_after old.clock x.line else old.clock;
    } ≡ (if b then record {
      board = board_placed script old.board (operation_of x.line);
      readings = readings_changed script old.readings note (operation_of x.line);
      clock = clock_after old.clock x.line;
    } else state)
    state-if true = refl
    state-if false = refl

    state-left : record { board = new.board; readings = new.readings; clock = new.clock }
        ≡ state_after script history x.line note state
    state-left =
        (λ j. record { board = left.board j; readings = left.readings j; clock = left.clock j })
        ∙ (λ j. record {
          board = if answer j && not (kind j)
              then board_placed script old.board (operation_of x.line) else old.board;
          readings = if answer j && not (kind j)
              then readings_changed script old.readings note (operation_of x.line)
              else old.readings;
          clock = if answer j && not (kind j) then clock_after old.clock x.line else old.clock;
        })
        ∙ state-if (is_accepted found && not (is_process_line script x.line))

    pub ends-left : (n : ThreadNote) → note ≡ note_made script history x (thread_world old n)
        → thread_world new (record n { lines = n.lines ++ note ∷ [] })
        ≡ line_ended script history x (thread_world old n)
    ends-left n made =
        (λ j. record {
          seen = left.seen j;
          state = state-left j;
          note = record { start = n.start; lines = n.lines ++ note ∷ [] };
          channels = channels-left j;
        })
        ∙ ap (λ (m : LineNote). record {
          seen = old.seen;
          state = state_after script history x.line m state;
          note = record { start = n.start; lines = n.lines ++ m ∷ [] };
          channels = map (held_as script history x m state) zs;
        }) made

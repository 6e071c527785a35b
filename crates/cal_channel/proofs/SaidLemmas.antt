-- The boards of a running thread and of its process hold values of the script.
use Rattle.std.proofs.Common.{ℕ, zero, suc, ◌<◌, ◌^◌, Bool, true, false, ◌&&◌, if◌then◌else◌}
use Rattle.std.proofs.Common.{List, [], ◌∷◌, arith}
use Rattle.std.specs.Prelude.{not, slice_index_or, zip}
use Rattle.std.specs.List.{All}
use Rattle.std.proofs.lemmas.List.Elements.{All-nil, All-take}
use Rattle.cal_channel.proofs.SmallLemmas.{small-snapshot}
use Rattle.cal_channel.specs.Channels.{CanTake, HasSmallNumber}
use Rattle.cal_channel.specs.SmallNumbers.{HasSaidValues, IsLineOf, first_lines, sight_behind}
use Rattle.cal_hand.specs.Nodes.{NodeAt}
use Rattle.cal_once.specs.declared.seat.RowSeat.{RowSeat}
use Rattle.cal_run.proofs.FitLemmas.{line-good, nothing-fits, placed-fits, process-fits}
use Rattle.cal_run.specs.Held.{Shows}
use Rattle.cal_run.specs.History.{board_placed}
use Rattle.cal_run.specs.Lines.{clock_after, is_process_line, operation_of}
use Rattle.cal_run.specs.Runs.{state_after_lines}
use Rattle.cal_run.specs.Snapshots.{snapshot_of}
use Rattle.cal_run.specs.Steps.{ThreadState, at_start, found_reply, is_accepted, readings_changed}
use Rattle.cal_run.specs.Steps.{state_after}
use Rattle.cal_run.specs.declared.moment.Moment.{Moment}
use Rattle.cal_script.specs.Valid.{IsRunnable}
use Rattle.cal_script.specs.declared.journal.LineNote.{LineNote}
use Rattle.cal_script.specs.declared.journal.Placed.{Placed}
use Rattle.cal_script.specs.declared.script.Channel.{Channel}
use Rattle.cal_script.specs.declared.script.Line.{Line}
use Rattle.cal_script.specs.declared.script.Script.{Script}
use Rattle.cal_tree.specs.declared.tree.Tree.{Tree}
use Rattle.cal_words.specs.declared.node.NodeId.{NodeId}
use Rattle.cal_words.specs.declared.sort.NodeSort.{NodeSort}

-- before the first line nothing is on the board
pub said-start : (script : Script) → HasSaidValues script at_start.board
said-start script = nothing-fits script

-- a line keeps it, whether it is accepted or not
pub said-after : (script : Script) (history : List Placed) (l : Line) (n : LineNote)
    (state : ThreadState) → IsLineOf script l → HasSaidValues script state.board
    → HasSaidValues script (state_after script history l n state).board
said-after script history l n state placed said =
    by (is_accepted (found_reply script history l n state) && not (is_process_line script l))
  where
    by : (t : Bool) → HasSaidValues script (if t then record {
      board = board_placed script state.board (operation_of l);
      readings = readings_changed script state.readings n (operation_of l);
      clock = clock_after state.clock l;
    } else state).board
    by true = placed-fits script state.board said (operation_of l) (line-good script l placed)
    by false = said

-- and so do many lines
said-from : (script : Script) (history : List Placed) (ls : List Line) (notes : List LineNote)
    (state : ThreadState) → All (IsLineOf script) ls → HasSaidValues script state.board
    → HasSaidValues script (state_after_lines script history state (zip ls notes)).board
said-from script history [] notes state placed said = said
said-from script history (l ∷ ls) [] state placed said = said
said-from script history (l ∷ ls) (n ∷ notes) state placed said =
    said-from script history ls notes (state_after script history l n state)
    (λ i d m. placed (suc i) d (omega (arith, m)))
    (said-after script history l n state (placed 0 l (omega arith)) said)

pub said-behind : (script : Script) (history : List Placed) (ls : List Line)
    (notes : List LineNote) → All (IsLineOf script) ls
    → HasSaidValues script (state_after_lines script history at_start (zip ls notes)).board
said-behind script history ls notes placed =
    said-from script history ls notes at_start placed (said-start script)

-- ---- the lines of a thread

-- those of each thread are of the script
thread-lines : (P : Line → Type 0) (threads : List (List Line)) (thread : ℕ) → All (All P) threads
    → All P (slice_index_or threads thread [])
thread-lines P [] thread all = All-nil P
thread-lines P (t ∷ ts) zero all = all 0 t (omega arith)
thread-lines P (t ∷ ts) (suc thread) all =
    thread-lines P ts thread (λ i d m. all (suc i) d (omega (arith, m)))

pub first-lines : (script : Script) (thread many : ℕ) → IsRunnable script
    → All (IsLineOf script) (first_lines script thread many)
first-lines script thread many runnable = All-take (IsLineOf script) many
    (slice_index_or script.threads thread [])
    (thread-lines (IsLineOf script) script.threads thread runnable.places)

pub said-thread : (script : Script) (history : List Placed) (thread many : ℕ)
    (notes : List LineNote) → IsRunnable script → HasSaidValues script
    (state_after_lines script history at_start (zip (first_lines script thread many) notes)).board
said-thread script history thread many notes runnable =
    said-behind script history (first_lines script thread many) notes
    (first-lines script thread many runnable)

-- ---- what a snapshot shows

module _ (script : Script) (history : List Placed) (seen : ℕ) (state : ThreadState)
    (reading previous : ℕ) (channel : Channel) (l : Line) (runnable : IsRunnable script)
    (placed : IsLineOf script l) (said : HasSaidValues script state.board)
    (small : reading < 2 ^ 64) where
  pub small-behind : All HasSmallNumber (snapshot_of script
      (sight_behind script history seen state reading previous) channel (operation_of l)).imms
  small-behind = small-snapshot script (sight_behind script history seen state reading previous)
      said (process-fits script runnable history seen) small channel (operation_of l)
      (line-good script l placed)

  pub can-take : (tree : Tree) (seat : RowSeat NodeSort) (moment : Moment NodeId)
      → Shows (NodeAt tree seat) script moment
      (sight_behind script history seen state reading previous)
      → CanTake tree seat script moment channel (operation_of l)
  can-take tree seat moment shows = record {
    sight = sight_behind script history seen state reading previous;
    shows = shows;
    small = small-behind;
  }

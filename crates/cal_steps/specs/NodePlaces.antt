-- The operation that the next node of a line is for, and the board behind it.
use Rattle.std.specs.Prelude.{◌≡◌, ℕ, ◌+◌, ◌<◌, ◌≤◌, true, List, [], filter, fold, length, take}
use Rattle.std.specs.Prelude.{Option, Some, None, if◌then◌else◌, slice_index_or, slice_range}
use Rattle.cal_board.specs.Blackboard.{Blackboard, nothing_open}
use Rattle.cal_run.specs.History.{board_placed, process_board}
use Rattle.cal_run.specs.Lines.{is_process_line}
use Rattle.cal_run.specs.Paths.{own_operation}
use Rattle.cal_script.specs.declared.journal.Journal.{Journal}
use Rattle.cal_script.specs.declared.journal.Placed.{Placed}
use Rattle.cal_script.specs.declared.script.Line.{Line}
use Rattle.cal_script.specs.declared.script.Script.{Script}
use Rattle.cal_value.specs.declared.variant.Variant.{Variant}
use Rattle.cal_world.specs.Events.{placed_node}
use Rattle.cal_world.specs.declared.turn.Turn.{Turn}

module _ (script : Script) (journal : Journal) (history : List Placed) where
  -- how many operations need a node, of those from a place up to another
  abbrev pub needing : (from to : ℕ) → ℕ
  needing from to = length (filter (placed_node script journal) (slice_range history from to))

  -- The operation of this place needs a node, and so many before it do.
  pub record NeedsNode (from to count place : ℕ) : Type 0 where
    pub late : from ≤ place
    pub early : place < to
    pub needs : (d : Placed) → placed_node script journal (slice_index_or history place d) ≡ true
    pub before : needing from place ≡ count

  -- The place of that operation. There is none where no more need a node than so many.
  abbrev pub IsNodePlace : (from to count : ℕ) → Option ℕ → Type 0
  IsNodePlace from to count None = needing from to ≤ count
  IsNodePlace from to count (Some place) = NeedsNode from to count place

module _ (script : Script) where
  -- a thread's board behind its first lines
  abbrev pub board_of_lines : List Line → Blackboard Variant
  board_of_lines lines = fold (λ b l. board_placed script b (own_operation script l)) nothing_open
      lines

  module _ (history : List Placed) (x : Turn) where
    -- the board on which a line acts, behind its operation
    abbrev pub board_behind : Blackboard Variant
    board_behind = if is_process_line script x.line
        then process_board script history x.note.seen
        else board_of_lines (take x.number (slice_index_or script.threads x.thread []))

    -- the board behind the operation that a node is for: that of a place, or else the line's own
    abbrev pub node_board : Option ℕ → Blackboard Variant
    node_board None = board_behind
    node_board (Some place) = process_board script history (place + 1)

-- The paths that boards hold in a run, which are the nodes of its context tree. (Caliper's data
-- model.)
use Rattle.std.specs.Prelude.{ℕ, List, [], ◌∷◌, ◌++◌, flat_map, map, if◌then◌else◌}
use Rattle.std.specs.Prelude.{Option, Some, None}
use Rattle.std.specs.Ordering.{eq_by_cmp}
use Rattle.std.specs.Set.{distinct_count}
use Rattle.cal_board.specs.Blackboard.{Blackboard, nothing_open}
use Rattle.cal_board.specs.PathBoards.{entries_of}
use Rattle.cal_run.specs.History.{board_placed, board_with, placed_operation}
use Rattle.cal_run.specs.Lines.{is_process_line, operation_of}
use Rattle.cal_run.specs.declared.operation.Operation.{Operation}
use Rattle.cal_script.specs.declared.journal.Journal.{Journal}
use Rattle.cal_script.specs.declared.journal.Placed.{Placed}
use Rattle.cal_script.specs.declared.script.Line.{Line}
use Rattle.cal_script.specs.declared.script.Script.{Script}
use Rattle.cal_value.specs.Order.{path_cmp}
use Rattle.cal_value.specs.declared.attribute.Entry.{Entry}
use Rattle.cal_value.specs.declared.variant.Variant.{Variant}

module _ (script : Script) where
  -- the paths of a board, one for each reference slot
  abbrev pub paths_of : Blackboard Variant → List (List Entry)
  paths_of b = entries_of script.attributes b.references

  -- the paths that a board holds behind an operation, if there is one
  abbrev pub held_behind : Blackboard Variant → Option Operation → List (List Entry)
  held_behind b None = []
  held_behind b (Some op) = paths_of (board_with script b op)

  -- and behind one after another, from a board on
  abbrev pub held_from : Blackboard Variant → List (Option Operation) → List (List Entry)
  held_from b [] = []
  held_from b (op ∷ ops) = held_behind b op ++ held_from (board_placed script b op) ops

  -- What a line does to its thread's own board. A process line acts on the process's.
  abbrev pub own_operation : Line → Option Operation
  own_operation l = if is_process_line script l then None else operation_of l

  abbrev pub held_by_thread : List Line → List (List Entry)
  held_by_thread lines = held_from nothing_open (map own_operation lines)

  -- what the process's board holds behind each operation of a history
  abbrev pub held_by_process : List Placed → List (List Entry)
  held_by_process history = held_from nothing_open (map (placed_operation script) history)

-- the paths that the boards of the threads and of the process hold in a run
abbrev pub held_paths : Script → Journal → List (List Entry)
held_paths script journal =
    flat_map (held_by_thread script) script.threads ++ held_by_process script journal.ops

-- how many different ones they are
abbrev pub nodes : Script → Journal → ℕ
nodes script journal = distinct_count (eq_by_cmp path_cmp) (held_paths script journal)

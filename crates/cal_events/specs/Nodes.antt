-- The paths for which a line needs nodes, in the order of its Node events. (Caliper's data model.)
use Rattle.std.specs.Prelude.{ℕ, Bool, List, [], ◌∷◌, ◌++◌, flat_map, map, if◌then◌else◌, Option}
use Rattle.std.specs.Prelude.{Some, None, slice_range}
use Rattle.std.specs.List.{enumerate_from}
use Rattle.std.specs.Ordering.{eq_by_cmp}
use Rattle.std.specs.Set.{is_member}
use Rattle.cal_board.specs.Blackboard.{Blackboard, slot_number}
use Rattle.cal_board.specs.PathBoards.{entry_in}
use Rattle.cal_board.specs.Slots.{opened_in}
use Rattle.cal_run.specs.History.{board_with, placed_operation, process_board}
use Rattle.cal_run.specs.Lines.{attr_ref, operation_of}
use Rattle.cal_run.specs.Steps.{ThreadState, acted_on}
use Rattle.cal_run.specs.declared.operation.Operation.{Operation}
use Rattle.cal_script.specs.declared.journal.Journal.{Journal}
use Rattle.cal_script.specs.declared.journal.Placed.{Placed}
use Rattle.cal_script.specs.declared.script.Script.{Script}
use Rattle.cal_value.specs.Order.{path_cmp}
use Rattle.cal_value.specs.declared.attribute.Entry.{Entry}
use Rattle.cal_value.specs.declared.variant.Variant.{Variant}
use Rattle.cal_world.specs.Events.{needs_node, placed_node, seen_before}
use Rattle.cal_world.specs.declared.turn.Turn.{Turn}

module _ (script : Script) where
  -- the path in an operation's slot behind it
  abbrev pub path_behind : Blackboard Variant → Operation → List Entry
  path_behind b op = map (entry_in script.attributes)
      (opened_in (slot_number (attr_ref script op.attr)) (board_with script b op).references)

  -- of an operation, if it needs a node
  abbrev pub path_if : (needed : Bool) → Blackboard Variant → Option Operation → List (List Entry)
  path_if needed b None = []
  path_if needed b (Some op) = if needed then path_behind b op ∷ [] else []

module _ (script : Script) (journal : Journal) (history : List Placed) where
  -- for an operation of the history, by its place there
  abbrev pub placed_path : ℕ × Placed → List (List Entry)
  placed_path p = path_if script (placed_node script journal p.1)
      (process_board script history p.0) (placed_operation script p.1)

  -- for the line's own change
  abbrev pub own_path : Turn → ThreadState → List (List Entry)
  own_path x state = path_if script (needs_node script x.line x.note)
      (acted_on script history x.line x.note state) (operation_of x.line)

  -- The line takes in what stands in the history behind what the thread had seen, and then makes
  -- its own change.
  abbrev pub node_paths : Turn → ThreadState → List (List Entry)
  node_paths x state = flat_map placed_path
      (enumerate_from x.before (slice_range history x.before (seen_before script x)))
      ++ own_path x state

-- a path is added to others, unless it is there
abbrev pub with_path : List (List Entry) → Option (List Entry) → List (List Entry)
with_path paths None = paths
with_path paths (Some p) =
    if is_member (eq_by_cmp path_cmp) paths p then paths else paths ++ p ∷ []

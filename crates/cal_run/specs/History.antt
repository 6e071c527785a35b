-- The history of process lines, and the board that they make. (Giltmoth's rule.)
use Rattle.std.specs.Prelude.{ℕ, List, Option, Some, None, fold, take, option_and_then}
use Rattle.cal_board.specs.Blackboard.{Blackboard, board_after, nothing_open, reply_to}
use Rattle.cal_board.specs.declared.reply.BoardReply.{BoardReply}
use Rattle.cal_run.specs.Lines.{attr_ref, line_at, operation_of, value_of}
use Rattle.cal_run.specs.declared.operation.Operation.{Operation}
use Rattle.cal_script.specs.declared.journal.Placed.{Placed}
use Rattle.cal_script.specs.declared.script.Script.{Script}
use Rattle.cal_value.specs.declared.variant.Variant.{Variant}

module _ (script : Script) where
  -- what a board replies to an operation, and the board after it
  abbrev pub reply_of : Blackboard Variant → Operation → BoardReply
  reply_of b op = reply_to b op.code (attr_ref script op.attr)

  abbrev pub board_with : Blackboard Variant → Operation → Blackboard Variant
  board_with b op =
      board_after b op.code (attr_ref script op.attr) (value_of script op) (value_of script op)

  -- the operation of a place of the history
  abbrev pub placed_operation : Placed → Option Operation
  placed_operation p = option_and_then operation_of (line_at script p.thread p.line)

  -- the board after what is placed there
  abbrev pub board_placed : Blackboard Variant → Option Operation → Blackboard Variant
  board_placed b None = b
  board_placed b (Some op) = board_with b op

  -- The process's board after the first operations of a history, from the empty board.
  abbrev pub process_board : List Placed → ℕ → Blackboard Variant
  process_board history count =
      fold (λ b p. board_placed b (placed_operation p)) nothing_open (take count history)

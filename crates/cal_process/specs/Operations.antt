-- The operations of a script's process lines: as records of the shared history, and as the journal
-- has them.
use Rattle.std.specs.Prelude.{◌≡◌, ℕ, ◌<◌, ◌^◌, List, Option, Some, None, map, option_map}
use Rattle.std.specs.Prelude.{if◌then◌else◌, sum_by}
use Rattle.std.specs.List.{Contains}
use Rattle.cal_run.specs.Held.{HasPlaces}
use Rattle.cal_run.specs.History.{placed_operation}
use Rattle.cal_run.specs.Lawful.{IsKnown}
use Rattle.cal_run.specs.Lines.{attribute_of, is_process_line, line_at, operation_of, value_of}
use Rattle.cal_run.specs.declared.operation.Operation.{Operation}
use Rattle.cal_script.specs.declared.journal.Placed.{Placed}
use Rattle.cal_script.specs.declared.script.Line.{Line}
use Rattle.cal_script.specs.declared.script.Script.{Script}
use Rattle.cal_value.specs.Props.{is_as_value}
use Rattle.cal_value.specs.declared.variant.Variant.{Variant}
use Rattle.cal_words.specs.Words.{node_length, text_length}
use Rattle.cal_words.specs.declared.op.OpCode as codes
use Rattle.cal_words.specs.declared.op.OpCode.TheVariants as code
use Rattle.cal_words.specs.declared.op.OpRec.{OpRec}

-- an operation's line, as the journal has it
abbrev pub placed_as : OpRec → Placed
placed_as op = record { thread = op.thread; line = op.line }

abbrev pub history_of : List OpRec → List Placed
history_of ops = map placed_as ops

-- what an operation does to a board
abbrev pub operation_in : OpRec → Operation
operation_in op = record { code = op.code; attr = op.attr; value = op.value }

-- An operation is that of the process line at its place in the script.
pub record IsOpOf (script : Script) (op : OpRec) : Type 0 where
  pub known : IsKnown script (placed_as op)
  pub does : placed_operation script (placed_as op) ≡ Some (operation_in op)

-- the record of an operation, by its thread and the number of its line
abbrev pub record_of : (thread number : ℕ) → Operation → OpRec
record_of thread number op = record {
  thread = thread;
  line = number;
  code = op.code;
  attr = op.attr;
  value = op.value;
}

-- that of a process line; no other line has one
abbrev pub op_of_line : Script → (thread number : ℕ) → Line → Option OpRec
op_of_line script thread number l = if is_process_line script l
    then option_map (record_of thread number) (operation_of l) else None

-- These operations are those of all process lines.
abbrev pub HasAll : Script → List OpRec → Type 0
HasAll script ops = (thread number : ℕ) (l : Line) (op : OpRec)
    → line_at script thread number ≡ Some l → op_of_line script thread number l ≡ Some op
    → Contains ops op

-- the text of a value that is opened has fewer than 2 ^ 32 bytes
abbrev pub IsShort : codes.OpCode → Variant → Type 0
IsShort code.Begin v = text_length v < 2 ^ 32
IsShort code.End v = Unit {0}
IsShort code.Set v = text_length v < 2 ^ 32

-- An operation has its places in the script, and opens a short text if any.
pub record MayDo (script : Script) (op : Operation) : Type 0 where
  pub places : HasPlaces script op
  pub short : IsShort op.code (value_of script op)

-- the words of the node of the value that an operation opens
abbrev pub words_by : codes.OpCode → Variant → ℕ
words_by code.Begin v = node_length v
words_by code.End v = 0
words_by code.Set v = node_length v

-- The words of the node that an operation may make: a value that stands for itself makes none.
abbrev pub words_made : Script → Operation → ℕ
words_made script op = if is_as_value (attribute_of script op.attr).props then 0
    else words_by op.code (value_of script op)

-- those of the nodes that operations may make
abbrev pub words_of_ops : Script → List OpRec → ℕ
words_of_ops script ops = sum_by (λ op. words_made script (operation_in op)) ops

-- the words of the node that a line may make, and that one may make which is its thread's own
abbrev pub words_if : Script → Option Operation → ℕ
words_if script None = 0
words_if script (Some op) = words_made script op

abbrev pub words_of_line : Script → Line → ℕ
words_of_line script l = words_if script (operation_of l)

abbrev pub own_words : Script → Line → ℕ
own_words script l = if is_process_line script l then 0 else words_of_line script l

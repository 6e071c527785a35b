-- What a line of a thread is about.
use Rattle.std.specs.Prelude.{ℕ, ◌+◌, ◌-◌, Bool, true, false, [], Option, Some, None, min}
use Rattle.std.specs.Prelude.{not, ◌&&◌, ◌==◌, if◌then◌else◌, slice_get, slice_index_or}
use Rattle.cal_board.specs.declared.attr.AttrRef.{AttrRef}
use Rattle.cal_context.specs.Tree.{no_attribute, no_value}
use Rattle.cal_run.specs.declared.operation.Operation.{Operation}
use Rattle.cal_script.specs.declared.script.Channel.{Channel}
use Rattle.cal_script.specs.declared.script.Line as lines
use Rattle.cal_script.specs.declared.script.Line.TheVariants as line
use Rattle.cal_script.specs.declared.script.Script.{Script}
use Rattle.cal_script.specs.Ticks.{number_of_ticks}
use Rattle.cal_value.specs.Props.{has_process_scope, is_as_value, is_nested, skips_events}
use Rattle.cal_value.specs.declared.attribute.Attribute.{Attribute}
use Rattle.cal_value.specs.declared.variant.Variant.{Variant}
use Rattle.cal_words.specs.declared.op.OpCode.TheVariants as code

-- What a line does to a board, if it is a `begin`, `end` or `set`. An `end` has no value.
abbrev pub operation_of : lines.Line → Option Operation
operation_of (line.Begin a v) = Some (record { code = code.Begin; attr = a; value = v })
operation_of (line.End a) = Some (record { code = code.End; attr = a; value = 0 })
operation_of (line.Set a v) = Some (record { code = code.Set; attr = a; value = v })
operation_of line.Snapshot = None
operation_of (line.Flush c) = None
operation_of (line.Tick n) = None

-- whether there is an operation that passes a test
abbrev pub is_such : (Operation → Bool) → Option Operation → Bool
is_such test None = false
is_such test (Some op) = test op

module _ (script : Script) where
  -- the attribute of a number
  abbrev pub attribute_of : ℕ → Attribute
  attribute_of a = slice_index_or script.attributes a no_attribute

  -- an attribute as boards know it
  abbrev pub attr_ref : ℕ → AttrRef
  attr_ref a = record {
    number = a;
    nested = is_nested (attribute_of a).props;
    as_value = is_as_value (attribute_of a).props;
  }

  -- the value that an operation opens
  abbrev pub value_of : Operation → Variant
  value_of op = slice_index_or script.values op.value no_value

  -- An operation of an attribute with process scope is the process's: its line is a process line.
  abbrev pub is_shared : Operation → Bool
  is_shared op = has_process_scope (attribute_of op.attr).props

  abbrev pub is_process_line : lines.Line → Bool
  is_process_line l = is_such is_shared (operation_of l)

  -- an accepted operation of an attribute without skip events is an event
  abbrev pub is_event : Operation → Bool
  is_event op = not (skips_events (attribute_of op.attr).props)

  -- whether a channel takes a snapshot on a line that is accepted
  abbrev pub takes : Channel → lines.Line → Bool
  takes channel line.Snapshot = true
  takes channel l = channel.event && is_such is_event (operation_of l)

  -- the line of a thread, by its number from 1
  abbrev pub line_at : (thread number : ℕ) → Option lines.Line
  line_at thread number = if number == 0 then None
      else slice_get (slice_index_or script.threads thread []) (number - 1)

-- The script clock behind a line: `tick n` adds n to it, and it stops at the greatest number.
abbrev pub clock_after : ℕ → lines.Line → ℕ
clock_after clock (line.Tick n) = min (clock + number_of_ticks n) 18446744073709551615
clock_after clock _ = clock

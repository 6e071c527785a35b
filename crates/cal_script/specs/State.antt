-- What the lines of a script have said so far.
use Rattle.std.specs.Prelude.{ℕ, ◌+◌, Bool, false, List, [], ◌∷◌, ◌++◌, length, Option, Some, None, max, unwrap_or, if◌then◌else◌, option_to_list}
use Rattle.cal_value.specs.declared.attribute.Attribute.{Attribute}
use Rattle.cal_value.specs.declared.attribute.Entry.{Entry}
use Rattle.cal_value.specs.declared.variant.Variant.{Variant}
use Rattle.cal_value.specs.Props.{has_process_scope, is_reference}
pub use Rattle.cal_words.specs.Words.{node_length}
use Rattle.cal_script.specs.declared.script.Script.{Script}
use Rattle.cal_script.specs.declared.script.Channel.{Channel}
use Rattle.cal_script.specs.declared.script.Line.{Line}
use Rattle.cal_script.specs.declared.tally.Tally.{Tally}
use Rattle.cal_script.specs.declared.opening.Opening.{Opening}

-- What stands so far. In the header there is no thread; behind it there is a last one, whose lines
-- go on.
pub record State : Type 0 where
  pub attributes : List Attribute
  pub channels : List Channel
  -- whether the channel declared last has a `value` line
  pub valued : Bool
  pub globals : List Entry
  pub values : List Variant
  -- the threads before the last, and the last
  pub earlier : List (List Line)
  pub thread : Option (List Line)
  pub tally : Tally

-- before the first line
abbrev pub no_lines : State
no_lines = record {
  attributes = [];
  channels = [];
  valued = false;
  globals = [];
  values = [];
  earlier = [];
  thread = None;
  tally = record { lines = 0; process_lines = 0; shared = 0; own = 0; most = 0 };
}

-- the script that they say
abbrev pub script_of : State → Script
script_of state = record {
  attributes = state.attributes;
  channels = state.channels;
  values = state.values;
  threads = state.earlier ++ option_to_list state.thread;
  globals = state.globals;
}

-- A thread with one line more, which may be a process line, and whose node has so many words.
abbrev pub counted : Bool → ℕ → Tally → Tally
counted process words tally = record {
  lines = tally.lines + 1;
  process_lines = if process then tally.process_lines + 1 else tally.process_lines;
  shared = if process then tally.shared + words else tally.shared;
  own = if process then tally.own else tally.own + words;
  most = tally.most;
}

-- the tally where the next thread begins
abbrev pub next_thread : Tally → Tally
next_thread tally = record tally { own = 0; most = max tally.most tally.own }

-- the last thread with one line more
abbrev pub with_line : Line → Bool → ℕ → State → State
with_line line process words state = record state {
  thread = Some (unwrap_or state.thread [] ++ line ∷ []);
  tally = counted process words state.tally;
}

-- the words of the node that a line of an attribute makes for a value: as-value ones make none
abbrev pub made_words : Attribute → Variant → ℕ
made_words attribute value = if is_reference attribute.props then node_length value else 0

-- a line that opens a value, before it is counted: its attribute's place, and the value
abbrev pub opening : ℕ → Attribute → Variant → Opening
opening place attribute value = record {
  attr = place;
  process = has_process_scope attribute.props;
  words = made_words attribute value;
  value = value;
}

-- the last thread with this line more: the value is the next of the script's
abbrev pub with_opening : (ℕ → ℕ → Line) → Opening → State → State
with_opening line_of opening state =
    with_line (line_of opening.attr (length state.values)) opening.process opening.words
    (record state { values = state.values ++ opening.value ∷ [] })

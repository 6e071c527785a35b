-- What the limits count of a script, by its lines: `cal_script` has the tally and its steps.
use Rattle.std.specs.Prelude.{ℕ, Bool, false, List, [], ◌∷◌, Option, Some, None, slice_get}
use Rattle.cal_value.specs.Props.{has_process_scope}
use Rattle.cal_value.specs.declared.attribute.Attribute.{Attribute}
use Rattle.cal_value.specs.declared.variant.Variant.{Variant}
use Rattle.cal_script.specs.State.{counted, made_words, next_thread}
use Rattle.cal_script.specs.declared.script.Script.{Script}
use Rattle.cal_script.specs.declared.script.Line as lines
use Rattle.cal_script.specs.declared.script.Line.TheVariants as line
use Rattle.cal_script.specs.declared.tally.Tally.{Tally}

-- the attribute that a line is of
abbrev pub attribute_at : List Attribute → lines.Line → Option Attribute
attribute_at attributes (line.Begin attr value) = slice_get attributes attr
attribute_at attributes (line.Set attr value) = slice_get attributes attr
attribute_at attributes (line.End attr) = slice_get attributes attr
attribute_at attributes _ = None

-- the value that a line opens
abbrev pub value_at : List Variant → lines.Line → Option Variant
value_at values (line.Begin attr value) = slice_get values value
value_at values (line.Set attr value) = slice_get values value
value_at values _ = None

-- whether a line of this attribute is a process line
abbrev pub is_process : Option Attribute → Bool
is_process None = false
is_process (Some attribute) = has_process_scope attribute.props

-- how many words the node has that a line makes
abbrev pub words_made : Option Attribute → Option Variant → ℕ
words_made (Some attribute) (Some value) = made_words attribute value
words_made _ _ = 0

module _ (attributes : List Attribute) (values : List Variant) where
  abbrev pub is_process_line : lines.Line → Bool
  is_process_line l = is_process (attribute_at attributes l)

  abbrev pub line_words : lines.Line → ℕ
  line_words l = words_made (attribute_at attributes l) (value_at values l)

  -- the tally behind the lines of a thread, and behind threads
  abbrev pub tally_lines : Tally → List lines.Line → Tally
  tally_lines tally [] = tally
  tally_lines tally (l ∷ ls) = tally_lines (counted (is_process_line l) (line_words l) tally) ls

  abbrev pub tally_threads : Tally → List (List lines.Line) → Tally
  tally_threads tally [] = tally
  tally_threads tally (thread ∷ threads) =
      tally_threads (tally_lines (next_thread tally) thread) threads

-- nothing is counted yet
abbrev pub no_tally : Tally
no_tally = record { lines = 0; process_lines = 0; shared = 0; own = 0; most = 0 }

-- what the limits count of threads, and of a script
abbrev pub tally_of : List Attribute → List Variant → List (List lines.Line) → Tally
tally_of attributes values threads = tally_threads attributes values no_tally threads

abbrev pub script_tally : Script → Tally
script_tally script = tally_of script.attributes script.values script.threads

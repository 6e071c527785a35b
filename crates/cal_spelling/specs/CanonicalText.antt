-- How a script is written: each line by its words. (Giltmoth's rule.)
use Rattle.std.specs.Prelude.{ℕ, List, [], ◌∷◌, ◌++◌, Option, Some, None, codes, decimal, map}
use Rattle.std.specs.Prelude.{slice_get, if◌then◌else◌}
use Rattle.std.specs.List.{flat_map, join_with_byte}
use Rattle.cal_value.specs.Kinds.{kind_name}
use Rattle.cal_value.specs.Values.{value_text}
use Rattle.cal_value.specs.declared.attribute.Attribute.{Attribute}
use Rattle.cal_value.specs.declared.attribute.Entry.{Entry}
use Rattle.cal_value.specs.declared.variant.Variant.{Variant}
use Rattle.cal_line.specs.Escapes.{escaped}
use Rattle.cal_script.specs.declared.script.Channel.{Channel}
use Rattle.cal_script.specs.declared.script.Line as lines
use Rattle.cal_script.specs.declared.script.Line.TheVariants as line
use Rattle.cal_script.specs.declared.script.ProbeKind as probes
use Rattle.cal_script.specs.declared.script.ProbeKind.TheVariants as probe
use Rattle.cal_script.specs.declared.script.Script.{Script}
use Rattle.cal_script.specs.Lines.{joined}
use Rattle.cal_script.specs.Ticks.{number_of_ticks}

-- a line by its words, the last of which may be a value and hold spaces
abbrev pub Words : Type 0
Words = List (List ℕ)

-- ---- the header

-- `attribute NAME KIND PROPS`
abbrev pub attribute_line : Attribute → Words
attribute_line attribute =
    codes "attribute" ∷ attribute.name ∷ kind_name attribute.kind ∷ decimal attribute.props.0 ∷ []

abbrev pub probe_name : probes.ProbeKind → List ℕ
probe_name probe.Depth = codes "region.depth"
probe_name probe.Count = codes "region.count"

-- the services of a channel: its probes stand last, in their order
abbrev pub services : Channel → List (List ℕ)
services channel =
    (if channel.event then codes "event" ∷ [] else [])
    ++ (if channel.timer then codes "timer" ∷ [] else [])
    ++ (if channel.trace then codes "trace" ∷ [] else [])
    ++ (if channel.aggregate then codes "aggregate" ∷ [] else [])
    ++ map probe_name channel.probes

-- `channel NAME SERVICES`, with commas between the services
abbrev pub channel_line : Channel → Words
channel_line channel =
    codes "channel" ∷ channel.name ∷ join_with_byte 44 (services channel) ∷ []

-- `key NAME NAME` and so on, and `value NAME NAME` and so on, unless there is no name
abbrev pub names_line : List ℕ → List (List ℕ) → List Words
names_line word [] = []
names_line word (name ∷ names) = (word ∷ name ∷ names) ∷ []

-- a channel, with its keys and value attributes
abbrev pub channel_lines : Channel → List Words
channel_lines channel =
    channel_line channel
    ∷ names_line (codes "key") channel.query.keys
    ++ names_line (codes "value") channel.query.values

-- VALUE: the text of a value, escaped
abbrev pub spelled : Variant → List ℕ
spelled value = escaped (value_text value)

-- `global NAME VALUE`
abbrev pub global_line : Entry → Words
global_line entry = codes "global" ∷ entry.attr.name ∷ spelled entry.value ∷ []

-- ---- threads

-- what is written of the item at a place
abbrev pub of_item : {A : Type 0} → (A → List ℕ) → Option A → List ℕ
of_item write None = []
of_item write (Some item) = write item

module _ (script : Script) where
  abbrev pub attribute_at : ℕ → List ℕ
  attribute_at place = of_item (λ attribute. attribute.name) (slice_get script.attributes place)

  abbrev pub channel_at : ℕ → List ℕ
  channel_at place = of_item (λ channel. channel.name) (slice_get script.channels place)

  abbrev pub value_at : ℕ → List ℕ
  value_at place = of_item spelled (slice_get script.values place)

  -- a line of a thread
  abbrev pub thread_line : lines.Line → Words
  thread_line (line.Begin attr value) =
      codes "begin" ∷ attribute_at attr ∷ value_at value ∷ []
  thread_line (line.End attr) = codes "end" ∷ attribute_at attr ∷ []
  thread_line (line.Set attr value) = codes "set" ∷ attribute_at attr ∷ value_at value ∷ []
  thread_line line.Snapshot = codes "snapshot" ∷ []
  thread_line (line.Flush channel) = codes "flush" ∷ channel_at channel ∷ []
  thread_line (line.Tick n) = codes "tick" ∷ decimal (number_of_ticks n) ∷ []

  -- `thread`, and its lines
  abbrev pub thread_lines : List lines.Line → List Words
  thread_lines thread = (codes "thread" ∷ []) ∷ map thread_line thread

  -- the lines of a script
  abbrev pub script_lines : List Words
  script_lines =
      map attribute_line script.attributes ++ flat_map channel_lines script.channels
      ++ map global_line script.globals ++ flat_map thread_lines script.threads

-- a line with a space between each two words, and the newline that ends it
abbrev pub line_text : Words → List ℕ
line_text words = joined words ++ 10 ∷ []

-- The canonical text of a script. A channel that sums the durations by default has a `value` line
-- that says so.
abbrev pub canonical_text : Script → List ℕ
canonical_text script = flat_map line_text (script_lines script)

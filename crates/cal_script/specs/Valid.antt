-- What holds of each script that some bytes mean, so that it can be run without a test.
use Rattle.std.specs.Prelude.{◌≡◌, ◌≢◌, ℕ, ◌<◌, ◌≤◌, List, length, sum_by, slice_get, All}
use Rattle.std.specs.Prelude.{AllPairs, Some, true}
use Rattle.cal_value.specs.Reading.{IsInRange, IsProper}
use Rattle.cal_value.specs.Values.{kind_of}
use Rattle.cal_value.specs.declared.attribute.Attribute.{Attribute}
use Rattle.cal_value.specs.declared.attribute.Entry.{Entry}
use Rattle.cal_value.specs.declared.variant.Variant.{Variant}
use Rattle.cal_script.specs.declared.script.Script.{Script}
use Rattle.cal_script.specs.declared.script.Channel.{Channel}
use Rattle.cal_script.specs.declared.script.Line as lines
use Rattle.cal_script.specs.declared.script.Line.TheVariants as line
use Rattle.cal_script.specs.Names.{is_attribute_name}
use Rattle.cal_script.specs.Parts.{is_allowed}
use Rattle.cal_script.specs.Ticks.{AreHalves}
use Rattle.cal_script.specs.Shapes.{process_lines, tree_shape}
use Rattle.cal_words.specs.Shapes.{word_count}

-- A line may say this value of the attribute: it is of the attribute's kind and one that a script
-- may have, in its range, and no Real whose text reads as a Fixed.
pub record IsSaid (attribute : Attribute) (value : Variant) : Type 0 where
  pub kind : kind_of value ≡ attribute.kind
  pub allowed : is_allowed value ≡ true
  pub range : IsInRange value
  pub proper : IsProper value

-- The attribute and the value of a line are declared and kept.
pub record IsOpening (attributes : List Attribute) (values : List Variant) (attr value : ℕ)
    : Type 0 where
  pub attribute : Attribute
  pub opened : Variant
  pub declared : slice_get attributes attr ≡ Some attribute
  pub kept : slice_get values value ≡ Some opened
  pub said : IsSaid attribute opened

-- The channel of a line is declared, and aggregates.
pub record IsFlushed (channels : List Channel) (channel : ℕ) : Type 0 where
  pub flushed : Channel
  pub declared : slice_get channels channel ≡ Some flushed
  pub aggregates : flushed.aggregate ≡ true

-- the numbers in a line are places of what stands
abbrev pub IsPlaced : List Attribute → List Channel → List Variant → lines.Line → Type 0
IsPlaced attributes channels values (line.Begin attr value) = IsOpening attributes values attr value
IsPlaced attributes channels values (line.Set attr value) = IsOpening attributes values attr value
IsPlaced attributes channels values (line.End attr) = attr < length attributes
IsPlaced attributes channels values line.Snapshot = Unit {0}
IsPlaced attributes channels values (line.Flush channel) = IsFlushed channels channel
IsPlaced attributes channels values (line.Tick n) = AreHalves n

-- Attributes have names that a script may declare, and no two have one name.
pub record AreDeclared (attributes : List Attribute) : Type 0 where
  pub names : All (λ a. is_attribute_name a.name ≡ true) attributes
  pub apart : AllPairs (λ a b. a.name ≢ b.name) attributes

-- the attribute of a global is declared
pub record IsGlobalOf (attributes : List Attribute) (global : Entry) : Type 0 where
  pub place : ℕ
  pub declared : slice_get attributes place ≡ Some global.attr
  pub said : IsSaid global.attr global.value

-- A script that can be run: its names are apart, its lines have their places, its numbers are small,
-- and the context tree of a run has room for the nodes that its lines can make.
pub record IsRunnable (script : Script) : Type 0 where
  pub few_attributes : length script.attributes ≤ 1024
  pub few_channels : length script.channels ≤ 16
  pub few_threads : length script.threads ≤ 64
  pub few_lines : sum_by length script.threads ≤ 1048576
  pub few_process_lines : sum_by (process_lines script) script.threads ≤ 65536
  pub room : word_count (tree_shape script) ≤ 134217728
  pub declared : AreDeclared script.attributes
  pub globals : All (IsGlobalOf script.attributes) script.globals
  pub places : All (All (IsPlaced script.attributes script.channels script.values)) script.threads

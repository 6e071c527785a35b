-- What the reader of a script knows of the lines so far (private).
use Rattle.std.specs.Prelude.{◌≡◌, ◌++◌, option_to_list, ◌≤◌, Bool, List, [], length, Option, Some, None, if◌then◌else◌}
use Rattle.std.specs.Prelude.{nat_le, ◌&&◌}
use Rattle.std.specs.Prelude.{IsTrue}
use Rattle.std.specs.List.{All}
use Rattle.cal_value.specs.declared.attribute.Attribute.{Attribute}
use Rattle.cal_script.specs.Names.{is_name}
use Rattle.cal_script.specs.declared.script.Line.{Line}
use Rattle.cal_script.specs.declared.reader.Reader.{Reader}
use Rattle.cal_script.specs.declared.tally.Tally.{Tally}
use Rattle.cal_script.specs.Registers.{IsAttributes, IsChannels, IsGlobals}
use Rattle.cal_script.specs.State.{State}

-- the lines of the last thread, where one has begun
abbrev pub last_thread : Bool → List Line → Option (List Line)
last_thread in_thread lines = if in_thread then Some lines else None

-- what stands so far
abbrev pub state_of : Reader → State
state_of reader = record {
  attributes = reader.attributes.items;
  channels = reader.channels.items;
  valued = reader.valued;
  globals = reader.globals.items;
  values = reader.values;
  earlier = reader.earlier;
  thread = last_thread reader.in_thread reader.lines;
  tally = reader.tally;
}

-- each attribute has a name that one may declare
abbrev pub AreNamed : List Attribute → Type 0
AreNamed attributes = All (λ attribute. IsTrue (is_name attribute.name)) attributes

-- Names are found by hash, and those of attributes are words.
pub record HasNames (reader : Reader) : Type 0 where
  pub attributes : IsAttributes reader.attributes
  pub channels : IsChannels reader.channels
  pub globals : IsGlobals reader.globals
  pub words : AreNamed reader.attributes.items

-- Names are found by hash, and each value stands in a line.
pub record IsReading (reader : Reader) : Type 0 where
  pub names : HasNames reader
  pub few_values : length reader.values ≤ reader.tally.lines

-- So much has been counted where no limit is passed, that the counts of one line more are counts.
pub record IsSmall (tally : Tally) : Type 0 where
  pub lines : tally.lines ≤ 1048576
  pub process_lines : tally.process_lines ≤ 65536
  pub shared : tally.shared ≤ 134217728
  pub own : tally.own ≤ 134217728
  pub most : tally.most ≤ 134217728

-- The same behind a line.
pub record IsNear (tally : Tally) : Type 0 where
  pub lines : tally.lines ≤ 1048577
  pub process_lines : tally.process_lines ≤ 65537
  pub shared : tally.shared ≤ 134218244
  pub own : tally.own ≤ 134218244
  pub most : tally.most ≤ 134217728

-- the limits that a line without a node may pass
abbrev pub counts_fit : Tally → Bool
counts_fit tally = nat_le tally.lines 1048576 && nat_le tally.process_lines 65536

-- A header line leaves the lines of threads.
pub record SameLines (old new : Reader) : Type 0 where
  pub earlier : new.earlier ≡ old.earlier
  pub tally : new.tally ≡ old.tally

-- The last thread is one of the earlier ones.
abbrev pub ended : Reader → Reader
ended reader = record reader {
  earlier = reader.earlier ++ option_to_list (last_thread reader.in_thread reader.lines);
  lines = [];
}

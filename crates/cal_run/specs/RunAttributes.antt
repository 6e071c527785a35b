-- The attributes of the snapshots of a run.
use Rattle.std.specs.Prelude.{List, [], ◌∷◌, ◌++◌, ◌⊎◌, Contains, flat_map}
use Rattle.cal_run.specs.Snapshots.{duration, event_of, inclusive_duration, probe_of}
use Rattle.cal_script.specs.declared.script.ProbeKind.TheVariants as probe
use Rattle.cal_script.specs.declared.script.Script.{Script}
use Rattle.cal_value.specs.declared.attribute.Attribute.{Attribute}
use Rattle.cal_words.specs.declared.op.OpCode.TheVariants as code

-- those of the events of an attribute
abbrev pub events_of : Attribute → List Attribute
events_of a = event_of code.Begin a ∷ event_of code.End a ∷ event_of code.Set a ∷ []

-- those that services add: times, probes, and the events of each attribute
abbrev pub added_attributes : List Attribute → List Attribute
added_attributes attributes =
    duration ∷ inclusive_duration ∷ probe_of probe.Depth ∷ probe_of probe.Count
    ∷ flat_map events_of attributes

-- the attributes of a run: the script's, and those that services add
abbrev pub run_attributes : Script → List Attribute
run_attributes script = script.attributes ++ added_attributes script.attributes

-- These attributes are some of a run's.
abbrev pub AreOfRun : Script → List Attribute → Type 0
AreOfRun script attributes = (a : Attribute) → Contains attributes a
    → Contains (run_attributes script) a

-- What is new among attributes is among these (private).
pub record GainsOnly (old new more : List Attribute) : Type 0 where
  pub gains : (a : Attribute) → Contains new a → Contains old a ⊎ Contains more a

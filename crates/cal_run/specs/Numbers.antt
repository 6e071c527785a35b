-- How what a run needs stands by numbers: attributes in a list of them, and values in a context.
use Rattle.std.specs.Prelude.{◌≡◌, ℕ, ◌<◌, List, length, map, All, slice_index_or}
use Rattle.std.specs.List.{AllZip}
use Rattle.cal_context.specs.Lists.{IsFront}
use Rattle.cal_context.specs.Tree.{Tree, no_attribute, value_at}
use Rattle.cal_context.specs.declared.numbers.AttributeNumber.{AttributeNumber}
use Rattle.cal_context.specs.declared.numbers.ValueNumber.{ValueNumber}
use Rattle.cal_run.specs.Snapshots.{duration, event_of, inclusive_duration, probe_of}
use Rattle.cal_run.specs.declared.numbers.EventNumbers.{EventNumbers}
use Rattle.cal_run.specs.declared.numbers.Numbers.{Numbers}
use Rattle.cal_script.specs.declared.script.ProbeKind as probes
use Rattle.cal_script.specs.declared.script.ProbeKind.TheVariants as probe
use Rattle.cal_script.specs.declared.script.Script.{Script}
use Rattle.cal_value.specs.declared.attribute.Attribute.{Attribute}
use Rattle.cal_value.specs.declared.variant.Variant.{Variant}
use Rattle.cal_words.specs.declared.op.OpCode.TheVariants as code

-- the attribute of a number
abbrev pub attribute_in : List Attribute → AttributeNumber → Attribute
attribute_in attributes n = slice_index_or attributes n.0 no_attribute

-- an attribute has this number
pub record IsNumber (attributes : List Attribute) (n : AttributeNumber) (a : Attribute)
    : Type 0 where
  pub within : n.0 < length attributes
  pub is : attribute_in attributes n ≡ a

-- the number at a place
abbrev pub number_in : List ValueNumber → ℕ → ValueNumber
number_in numbers place = slice_index_or numbers place (record { 0 = 0 })

-- values have these numbers, place by place
pub record ValuesStand (t : Tree) (ns : List ValueNumber) (vs : List Variant) : Type 0 where
  pub values : map (value_at t) ns ≡ vs
  pub within : All (λ (n : ValueNumber). n.0 < length t.values) ns

-- the attributes of the events of an attribute have these numbers
pub record EventsStand (attributes : List Attribute) (ns : EventNumbers) (a : Attribute)
    : Type 0 where
  pub begin : IsNumber attributes ns.begin (event_of code.Begin a)
  pub end : IsNumber attributes ns.end (event_of code.End a)
  pub set : IsNumber attributes ns.set (event_of code.Set a)

-- The attributes of the script are the first of these, in their order, and those that services add
-- have these numbers. This is all that services need.
pub record AreNamed (attributes : List Attribute) (script : Script) (ns : Numbers) : Type 0 where
  pub front : IsFront script.attributes attributes
  pub events : AllZip (EventsStand attributes) ns.events.items script.attributes
  pub duration : IsNumber attributes ns.duration duration
  pub inclusive : IsNumber attributes ns.inclusive inclusive_duration
  pub depth : IsNumber attributes ns.depth (probe_of probe.Depth)
  pub count : IsNumber attributes ns.count (probe_of probe.Count)

-- in some list
abbrev pub AreNamedInSome : Script → Numbers → Type 0
AreNamedInSome script ns = (attributes : List Attribute) × AreNamed attributes script ns

-- The attributes stand so in a context, and the values of the script have these numbers there.
pub record AreNumbered (t : Tree) (script : Script) (ns : Numbers) : Type 0 where
  pub named : AreNamed t.attributes script ns
  pub values : ValuesStand t ns.values.items script.values

-- the number of the attribute of a probe
abbrev pub probe_number : Numbers → probes.ProbeKind → AttributeNumber
probe_number ns probe.Depth = ns.depth
probe_number ns probe.Count = ns.count

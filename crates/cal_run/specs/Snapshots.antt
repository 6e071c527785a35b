-- What a snapshot of a channel has, in the order of its parts. (After Caliper; the order and the
-- services' entries are Giltmoth's.)
use Rattle.std.specs.Prelude.{ℕ, ◌-◌, ◌<◌, ◌≤◌, Bool, List, [], ◌∷◌, ◌++◌, map, sum, codes, not}
use Rattle.std.specs.Prelude.{if◌then◌else◌, ◌&&◌, true, false, Option, Some, None, option_map}
use Rattle.std.specs.Prelude.{All, length, slice_index_or, unwrap_or}
use Rattle.cal_board.specs.Blackboard.{Blackboard, depths}
use Rattle.cal_board.specs.PathBoards.{entries_of, last_at, last_entries}
use Rattle.cal_board.specs.declared.opened.Opened.{Opened}
use Rattle.cal_board.specs.declared.opened.Slot.{Slot}
use Rattle.cal_context.specs.Tree.{no_value}
use Rattle.cal_run.specs.Lines.{attr_ref, attribute_of, is_shared, value_of}
use Rattle.cal_board.specs.Readings.{last_reading}
use Rattle.cal_run.specs.declared.operation.Operation.{Operation}
use Rattle.cal_script.specs.declared.script.Channel.{Channel}
use Rattle.cal_script.specs.declared.script.ProbeKind as probes
use Rattle.cal_script.specs.declared.script.ProbeKind.TheVariants as probe
use Rattle.cal_script.specs.declared.script.Script.{Script}
use Rattle.cal_value.specs.declared.attribute.Attribute.{Attribute}
use Rattle.cal_value.specs.declared.attribute.Entry.{Entry}
use Rattle.cal_value.specs.declared.kind.Kind as kinds
use Rattle.cal_value.specs.declared.kind.Kind.TheVariants as kind
use Rattle.cal_value.specs.declared.record.Rec.{Rec}
use Rattle.cal_value.specs.declared.variant.Variant as variants
use Rattle.cal_value.specs.declared.variant.Variant.TheVariants as variant
use Rattle.cal_words.specs.declared.op.OpCode as opcodes
use Rattle.cal_words.specs.declared.op.OpCode.TheVariants as code

-- ---- what services add

-- an attribute that a service adds is as value and no event (1 and 64)
abbrev pub added : List ℕ → kinds.Kind → Attribute
added name kind = record { name = name; kind = kind; props = record { 0 = 65 } }

abbrev pub duration : Attribute
duration = added (codes "time.duration.ns") kind.Uint

abbrev pub inclusive_duration : Attribute
inclusive_duration = added (codes "time.inclusive.duration.ns") kind.Uint

abbrev pub event_name : opcodes.OpCode → List ℕ
event_name code.Begin = codes "event.begin#"
event_name code.End = codes "event.end#"
event_name code.Set = codes "event.set#"

-- the event of an attribute has the attribute's kind
abbrev pub event_of : opcodes.OpCode → Attribute → Attribute
event_of c attribute = added (event_name c ++ attribute.name) attribute.kind

abbrev pub probe_of : probes.ProbeKind → Attribute
probe_of probe.Depth = added (codes "region.depth") kind.Uint
probe_of probe.Count = added (codes "region.count") kind.Uint

abbrev pub numbered : Attribute → ℕ → Entry
numbered attribute n = record { attr = attribute; value = variant.Uint n }

-- What a probe answers, by the number of values in the slot `nested` and then in each other slot.
abbrev pub probe_value : probes.ProbeKind → List ℕ → ℕ
probe_value probe.Depth depths = slice_index_or depths 0 0
probe_value probe.Count depths = sum depths

-- the depths on which a probe may be asked: of 1 to 65 slots, with at most 128 values each
pub record CanBeAsked (depths : List ℕ) : Type 0 where
  pub some : 0 < length depths
  pub few : length depths ≤ 65
  pub each : All (λ depth. depth ≤ 128) depths

-- ---- what a snapshot sees

-- The boards of its thread and of the process, the readings by which the thread's values were put
-- there, the line's reading, and that of the thread's snapshot before it in the channel.
pub record Sight : Type 0 where
  pub mine : Blackboard variants.Variant
  pub process : Blackboard variants.Variant
  pub readings : List (Slot ℕ)
  pub reading : ℕ
  pub previous : ℕ

-- ---- its parts

-- the value that an end closes, which is the last one of its slot
abbrev pub closed_on : Script → Blackboard variants.Variant → Operation → variants.Variant
closed_on script b op = unwrap_or
    (option_map (λ (o : Opened variants.Variant). o.value) (last_at b (attr_ref script op.attr)))
    no_value

-- the value of an event: that of a begin or set is the new one
abbrev pub value_on : Script → Blackboard variants.Variant → opcodes.OpCode → Operation
    → variants.Variant
value_on script b code.Begin op = value_of script op
value_on script b code.Set op = value_of script op
value_on script b code.End op = closed_on script b op

abbrev pub is_end : opcodes.OpCode → Bool
is_end code.End = true
is_end _ = false

module _ (script : Script) (sight : Sight) where
  -- the board on which an operation acts
  abbrev pub board_of : Operation → Blackboard variants.Variant
  board_of op = if is_shared script op then sight.process else sight.mine

  -- 1. the event
  abbrev pub event_entries : Option Operation → List Entry
  event_entries None = []
  event_entries (Some op) = record {
    attr = event_of op.code (attribute_of script op.attr);
    value = value_on script (board_of op) op.code op;
  } ∷ []

  -- 2. the time since the snapshot before
  abbrev pub duration_entries : List Entry
  duration_entries = numbered duration (sight.reading - sight.previous) ∷ []

  -- 3. at the end of a value of the thread, the time since it was put there
  abbrev pub inclusive_entries : Option Operation → List Entry
  inclusive_entries None = []
  inclusive_entries (Some op) = if is_end op.code && not (is_shared script op)
      then numbered inclusive_duration
      (sight.reading - last_reading sight.readings (attr_ref script op.attr)) ∷ []
      else []

  abbrev pub time_entries : Bool → Option Operation → List Entry
  time_entries true op = duration_entries ++ inclusive_entries op
  time_entries false op = []

  -- 4. the probes
  abbrev pub probe_entries : List probes.ProbeKind → List Entry
  probe_entries kinds = map (λ p. numbered (probe_of p) (probe_value p (depths sight.mine))) kinds

  -- 5. the last value of each as-value slot of the thread, then of the process
  abbrev pub value_entries : List Entry
  value_entries = last_entries script.attributes sight.mine.as_values
      ++ last_entries script.attributes sight.process.as_values

  -- A path for each reference slot of the thread, then of the process; and these parts.
  unfoldable pub snapshot_of : Channel → Option Operation → Rec
  snapshot_of channel op = record {
    paths = entries_of script.attributes sight.mine.references
        ++ entries_of script.attributes sight.process.references;
    imms = event_entries op ++ time_entries channel.timer op ++ probe_entries channel.probes
        ++ value_entries;
  }

-- What the words of a line say by themselves, or what is wrong with them.
use Rattle.std.specs.Prelude.{ℕ, ℤ, pos, negsuc, Bool, true, false, List, [], ◌∷◌, ◌++◌, length, Option, Some, None, Result, Ok, Err, codes, position, map, nat_le, slice_get, not, ◌==◌, ◌&&◌, ◌||◌, if◌then◌else◌}
use Rattle.std.specs.List.{list_any}
use Rattle.std.specs.Option.{ok_or, option_map}
use Rattle.std.specs.Str.{bytes_eq}
use Rattle.cal_value.specs.Kinds.{kind_named}
use Rattle.cal_value.specs.Numerals.{at_most, number_of}
use Rattle.cal_value.specs.Props.{is_as_value}
use Rattle.cal_value.specs.Reading.{value_of, uint_of}
use Rattle.cal_value.specs.declared.attribute.Attribute.{Attribute}
use Rattle.cal_value.specs.declared.kind.Kind as kinds
use Rattle.cal_value.specs.declared.kind.Kind.TheVariants as kind
use Rattle.cal_value.specs.declared.props.Props.{Props}
use Rattle.cal_value.specs.declared.variant.Variant as variants
use Rattle.cal_value.specs.declared.variant.Variant.TheVariants as variant
use Rattle.cal_line.specs.Tokens.{spelled_text}
use Rattle.cal_line.specs.FirstFault.{◌>>=◌, after_lines}
use Rattle.cal_script.specs.declared.kind.ScriptKind.{ScriptKind}
use Rattle.cal_script.specs.declared.kind.ScriptKind.TheVariants.{BadName, DuplicateName, BadKind, BadProps, BadService, UnknownName, BadEscape, BadValue}
use Rattle.cal_script.specs.declared.script.Channel.{Channel}
use Rattle.cal_script.specs.declared.script.ProbeKind as probes
use Rattle.cal_script.specs.declared.script.ProbeKind.TheVariants as probe
use Rattle.cal_script.specs.Lines.{pieces}
use Rattle.cal_script.specs.Names.{is_name, is_attribute_name}

-- ---- names

-- one of these names
abbrev pub is_among : List (List ℕ) → List ℕ → Bool
is_among names name = list_any (bytes_eq name) names

-- the place of a name, which is the first of them
abbrev pub place_of : List (List ℕ) → List ℕ → Option ℕ
place_of names name = position (bytes_eq name) names

-- a name that is new to those of its kind
abbrev pub new_name : Bool → List (List ℕ) → List ℕ → Result (List ℕ) ScriptKind
new_name allowed names name =
    if not allowed then Err BadName
    else (if is_among names name then Err DuplicateName else Ok name)

abbrev pub attribute_names : List Attribute → List (List ℕ)
attribute_names attributes = map (λ attribute. attribute.name) attributes

abbrev pub channel_names : List Channel → List (List ℕ)
channel_names channels = map (λ channel. channel.name) channels

-- what is named: its place among those declared, and itself
abbrev pub at_place : {A : Type 0} → List A → Option ℕ → Result (ℕ × A) ScriptKind
at_place items None = Err UnknownName
at_place items (Some place) = ok_or (option_map (λ item. (place, item)) (slice_get items place)) UnknownName

abbrev pub attribute_named : List Attribute → List ℕ → Result (ℕ × Attribute) ScriptKind
attribute_named attributes name = at_place attributes (place_of (attribute_names attributes) name)

abbrev pub channel_named : List Channel → List ℕ → Result (ℕ × Channel) ScriptKind
channel_named channels name = at_place channels (place_of (channel_names channels) name)

-- ---- attributes

-- the kind of an attribute that a script declares
abbrev pub declarable : Option kinds.Kind → Result kinds.Kind ScriptKind
declarable (Some kind.Str) = Ok kind.Str
declarable (Some kind.Int) = Ok kind.Int
declarable (Some kind.Uint) = Ok kind.Uint
declarable (Some kind.Addr) = Ok kind.Addr
declarable (Some kind.Double) = Ok kind.Double
declarable (Some kind.Bool) = Ok kind.Bool
declarable _ = Err BadKind

-- the properties are a decimal of at most 65,535
abbrev pub declared_props : List ℕ → Result Props ScriptKind
declared_props word =
    ok_or (option_map (λ bits. record { 0 = bits }) (at_most 65535 (number_of 10 word))) BadProps

-- kinds whose values are texts, for which there is no as-value attribute
abbrev pub is_text_kind : kinds.Kind → Bool
is_text_kind kind.Str = true
is_text_kind kind.Double = true
is_text_kind _ = false

-- `attribute NAME KIND PROPS`: the kind is judged once more with its properties
abbrev pub attribute_of : List Attribute → List ℕ × List ℕ × List ℕ → Result Attribute ScriptKind
attribute_of attributes words = do
  name ← new_name (is_attribute_name words.0) (attribute_names attributes) words.0
  kind ← declarable (kind_named words.1)
  props ← declared_props words.2
  if is_as_value props && is_text_kind kind then Err BadKind
      else Ok (record { name = name; kind = kind; props = props })

-- ---- channels

-- a channel of this name before its services are read
abbrev pub bare_channel : List ℕ → Channel
bare_channel name = record {
  name = name;
  event = false;
  timer = false;
  trace = false;
  aggregate = false;
  probes = [];
  query = record { by_default = true; keys = []; values = [] };
}

abbrev pub is_probe : probes.ProbeKind → probes.ProbeKind → Bool
is_probe probe.Depth probe.Depth = true
is_probe probe.Count probe.Count = true
is_probe _ _ = false

-- the channel with one probe more, unless it has it
abbrev pub with_probe : Channel → probes.ProbeKind → Result Channel ScriptKind
with_probe channel probe =
    if list_any (is_probe probe) channel.probes then Err BadService
    else Ok (record channel { probes = channel.probes ++ probe ∷ [] })

-- the channel with one service more, which it doesn't have
abbrev pub with_service : Channel → List ℕ → Result Channel ScriptKind
with_service channel word =
    if bytes_eq word (codes "event") then
    (if channel.event then Err BadService else Ok (record channel { event = true }))
    else (if bytes_eq word (codes "timer") then
    (if channel.timer then Err BadService else Ok (record channel { timer = true }))
    else (if bytes_eq word (codes "trace") then
    (if channel.trace then Err BadService else Ok (record channel { trace = true }))
    else (if bytes_eq word (codes "aggregate") then
    (if channel.aggregate then Err BadService else Ok (record channel { aggregate = true }))
    else (if bytes_eq word (codes "region.depth") then with_probe channel probe.Depth
    else (if bytes_eq word (codes "region.count") then with_probe channel probe.Count
    else Err BadService)))))

-- Without a `value` line a channel that aggregates and has the timer sums the durations.
abbrev pub with_default_values : Channel → Channel
with_default_values channel =
    if channel.aggregate && channel.timer
    then record channel {
      query = record channel.query {
        values = channel.query.values ++ codes "time.duration.ns" ∷ [];
      };
    }
    else channel

-- `channel NAME SERVICES`: the services stand between commas, and `trace` or `aggregate` is there
abbrev pub channel_of : List Channel → List ℕ × List ℕ → Result Channel ScriptKind
channel_of channels words = do
  name ← new_name (is_name words.0) (channel_names channels) words.0
  channel ← after_lines with_service (bare_channel name) (pieces 44 words.1)
  if channel.trace || channel.aggregate then Ok (with_default_values channel) else Err BadService

-- ---- the names of `key` and `value` lines

-- what services add to each snapshot
abbrev pub service_names : List (List ℕ)
service_names =
    codes "time.duration.ns" ∷ codes "time.inclusive.duration.ns" ∷ codes "region.depth"
    ∷ codes "region.count" ∷ []

-- the fronts of what services add at the events of an attribute, before `#` and its name
abbrev pub event_fronts : List (List ℕ)
event_fronts = codes "event.begin" ∷ codes "event.end" ∷ codes "event.set" ∷ []

abbrev pub is_event_name : List (List ℕ) → List (List ℕ) → Bool
is_event_name declared (front ∷ attribute ∷ []) =
    is_among event_fronts front && is_among declared attribute
is_event_name declared _ = false

-- a name that is declared, or that services add
abbrev pub is_known : List (List ℕ) → List ℕ → Bool
is_known declared name =
    is_among declared name || is_among service_names name || is_event_name declared (pieces 35 name)

-- The names of a `key` or `value` line with one more. The first of a `key` line may be `path`.
abbrev pub with_name :
    Bool → List (List ℕ) → List (List ℕ) → List ℕ → Result (List (List ℕ)) ScriptKind
with_name is_key declared names name =
    if is_key && bytes_eq name (codes "path")
    then (if length names == 0 then Ok (names ++ name ∷ []) else Err BadName)
    else (if is_among names name then Err DuplicateName
    else (if is_known declared name then Ok (names ++ name ∷ []) else Err UnknownName))

-- ---- values

-- a whole number, or a decimal in nano-units, that 64 bits hold
abbrev pub is_short_number : ℤ → Bool
is_short_number (pos n) = nat_le n 9223372036854775807
is_short_number (negsuc n) = nat_le n 9223372036854775807

-- the values that a script may have: numbers of 64 bits, and texts of at most 4,096 bytes
abbrev pub is_allowed : variants.Variant → Bool
is_allowed (variant.Int n) = is_short_number n
is_allowed (variant.Fixed n) = is_short_number n
is_allowed (variant.Text t) = nat_le (length t) 4096
is_allowed (variant.Real t) = nat_le (length t) 4096
is_allowed (variant.Uint n) = true
is_allowed (variant.Addr a) = true
is_allowed (variant.Bool b) = true
is_allowed _ = false

abbrev pub allowed : variants.Variant → Result variants.Variant ScriptKind
allowed value = if is_allowed value then Ok value else Err BadValue

-- VALUE spells a text as a stream does, and the text writes a value of the attribute's kind
abbrev pub value_said : kinds.Kind → List ℕ → Result variants.Variant ScriptKind
value_said kind spelled = do
  text ← ok_or (spelled_text spelled) BadEscape
  value ← ok_or (value_of kind text) BadValue
  allowed value

-- a decimal that 64 bits hold
abbrev pub number_said : List ℕ → Result ℕ ScriptKind
number_said word = ok_or (uint_of word) BadValue

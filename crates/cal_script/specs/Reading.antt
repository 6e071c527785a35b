-- What each line of a script makes of what stands before it, or what kind of fault it has there.
-- The tests of a line stand in their order: where it may stand, its words, its channel's services,
-- and then its words from the left.
use Rattle.std.specs.Prelude.{◌≡◌, ℕ, true, false, List, [], ◌∷◌, ◌++◌, length, Option, Some, None, Result, Ok, Err, codes, is_some, not, if◌then◌else◌}
use Rattle.std.specs.Prelude.{map, slice_get, take, ◌-◌}
use Rattle.std.specs.Option.{ok_or, option_to_list}
use Rattle.std.specs.Str.{bytes_eq, is_utf8}
use Rattle.cal_value.specs.Props.{has_process_scope, is_global}
use Rattle.cal_value.specs.declared.attribute.Entry.{Entry}
use Rattle.cal_line.specs.FirstFault.{◌>>=◌, after_lines}
use Rattle.cal_script.specs.declared.kind.ScriptKind.{ScriptKind}
use Rattle.cal_script.specs.declared.kind.ScriptKind.TheVariants.{NotText, UnknownWord, Misplaced, WrongArity, NotAggregate, DuplicateName, NotGlobal, TooMany}
use Rattle.cal_script.specs.declared.script.Script.{Script}
use Rattle.cal_script.specs.declared.script.Channel.{Channel}
use Rattle.cal_script.specs.declared.script.Line as lines
use Rattle.cal_script.specs.declared.script.Line.TheVariants as line
use Rattle.cal_script.specs.declared.opening.Opening.{Opening}
use Rattle.cal_script.specs.Lines.{lines_of, words_of, is_skipped, no_word, one_word, two_words, three_words, some_words, word_and_rest}
use Rattle.cal_script.specs.Parts.{attribute_names, attribute_named, attribute_of, channel_named, channel_of, is_among, number_said, value_said, with_name}
use Rattle.cal_script.specs.State.{State, no_lines, next_thread, opening, script_of, with_line, with_opening}
use Rattle.cal_script.specs.Limits.{fits}
use Rattle.cal_script.specs.Ticks.{ticks_of}

-- a header line stands before the first `thread` line, and a line of a thread behind one
abbrev pub in_header : {A : Type 0} → State → Result A ScriptKind → Result A ScriptKind
in_header state said = if is_some state.thread then Err Misplaced else said

abbrev pub in_thread : {A : Type 0} → State → Result A ScriptKind → Result A ScriptKind
in_thread state said = if is_some state.thread then said else Err Misplaced

-- `attribute NAME KIND PROPS`
abbrev pub attribute_after : State → List (List ℕ) → Result State ScriptKind
attribute_after state words = in_header state (do
  three ← ok_or (three_words words) WrongArity
  attribute ← attribute_of state.attributes three
  Ok (record state { attributes = state.attributes ++ attribute ∷ [] }))

-- `global NAME VALUE`, once for an attribute that is a global's
abbrev pub global_names : List Entry → List (List ℕ)
global_names globals = map (λ entry. entry.attr.name) globals

abbrev pub global_of : State → List ℕ × List ℕ → Result Entry ScriptKind
global_of state words =
    if is_among (global_names state.globals) words.0 then Err DuplicateName
    else (do
      named ← attribute_named state.attributes words.0
      attribute ← ok_or (if is_global named.1.props then Some named.1 else None) NotGlobal
      value ← value_said attribute.kind words.1
      Ok (record { attr = attribute; value = value }))

abbrev pub global_after : State → List (List ℕ) → Result State ScriptKind
global_after state words = in_header state (do
  two ← ok_or (word_and_rest words) WrongArity
  entry ← global_of state two
  Ok (record state { globals = state.globals ++ entry ∷ [] }))

-- `channel NAME SERVICES`
abbrev pub channel_after : State → List (List ℕ) → Result State ScriptKind
channel_after state words = in_header state (do
  two ← ok_or (two_words words) WrongArity
  channel ← channel_of state.channels two
  Ok (record state { channels = state.channels ++ channel ∷ []; valued = false }))

-- the channel declared last, and those before it
abbrev pub last_channel : List Channel → Option Channel
last_channel channels = slice_get channels (length channels - 1)

abbrev pub earlier_channels : List Channel → List Channel
earlier_channels channels = take (length channels - 1) channels

-- the names of a `key` or `value` line of a channel, which aggregates
abbrev pub names_said : Channel → List (List ℕ) → Result (List (List ℕ)) ScriptKind
names_said channel words = do
  names ← ok_or (some_words words) WrongArity
  if channel.aggregate then Ok names else Err NotAggregate

-- `key NAME NAME` and so on, once for a channel
abbrev pub keyed : List (List ℕ) → Channel → List (List ℕ) → Result Channel ScriptKind
keyed declared channel words =
    if not channel.query.by_default then Err Misplaced
    else (do
      names ← names_said channel words
      keys ← after_lines (with_name true declared) [] names
      Ok (record channel { query = record channel.query { by_default = false; keys = keys } }))

abbrev pub key_after : State → List (List ℕ) → Result State ScriptKind
key_after state words = in_header state (do
  channel ← ok_or (last_channel state.channels) Misplaced
  channel ← keyed (attribute_names state.attributes) channel words
  Ok (record state { channels = earlier_channels state.channels ++ channel ∷ [] }))

-- `value NAME NAME` and so on, once for a channel
abbrev pub with_values : List (List ℕ) → Channel → List (List ℕ) → Result Channel ScriptKind
with_values declared channel words = do
  names ← names_said channel words
  values ← after_lines (with_name false declared) [] names
  Ok (record channel { query = record channel.query { values = values } })

abbrev pub value_after : State → List (List ℕ) → Result State ScriptKind
value_after state words = in_header state (do
  channel ← ok_or (last_channel state.channels) Misplaced
  channel ← (if state.valued then Err Misplaced
      else with_values (attribute_names state.attributes) channel words)
  Ok (record state {
    channels = earlier_channels state.channels ++ channel ∷ [];
    valued = true;
  }))

-- `thread`
abbrev pub thread_after : State → List (List ℕ) → Result State ScriptKind
thread_after state words =
    if no_word words
    then Ok (record state {
      earlier = state.earlier ++ option_to_list state.thread;
      thread = Some [];
      tally = next_thread state.tally;
    })
    else Err WrongArity

-- `begin NAME VALUE` and `set NAME VALUE`
abbrev pub opening_said : State → List (List ℕ) → Result Opening ScriptKind
opening_said state words = do
  two ← ok_or (word_and_rest words) WrongArity
  named ← attribute_named state.attributes two.0
  value ← value_said named.1.kind two.1
  Ok (opening named.0 named.1 value)

abbrev pub opening_after : (ℕ → ℕ → lines.Line) → State → List (List ℕ) → Result State ScriptKind
opening_after line_of state words = in_thread state (do
  opening ← opening_said state words
  Ok (with_opening line_of opening state))

-- `end NAME`
abbrev pub end_after : State → List (List ℕ) → Result State ScriptKind
end_after state words = in_thread state (do
  name ← ok_or (one_word words) WrongArity
  named ← attribute_named state.attributes name
  Ok (with_line (line.End named.0) (has_process_scope named.1.props) 0 state))

-- `snapshot`
abbrev pub snapshot_after : State → List (List ℕ) → Result State ScriptKind
snapshot_after state words = in_thread state
    (if no_word words then Ok (with_line line.Snapshot false 0 state) else Err WrongArity)

-- `flush CHANNEL`, of a channel that aggregates
abbrev pub flush_after : State → List (List ℕ) → Result State ScriptKind
flush_after state words = in_thread state (do
  name ← ok_or (one_word words) WrongArity
  named ← channel_named state.channels name
  if named.1.aggregate then Ok (with_line (line.Flush named.0) false 0 state)
      else Err NotAggregate)

-- `tick N`
abbrev pub tick_after : State → List (List ℕ) → Result State ScriptKind
tick_after state words = in_thread state (do
  word ← ok_or (one_word words) WrongArity
  n ← number_said word
  Ok (with_line (line.Tick (ticks_of n)) false 0 state))

-- a line goes by its first word
abbrev pub words_after : State → List (List ℕ) → Result State ScriptKind
words_after state [] = Err UnknownWord
words_after state (word ∷ words) =
    if bytes_eq word (codes "attribute") then attribute_after state words
    else (if bytes_eq word (codes "global") then global_after state words
    else (if bytes_eq word (codes "channel") then channel_after state words
    else (if bytes_eq word (codes "key") then key_after state words
    else (if bytes_eq word (codes "value") then value_after state words
    else (if bytes_eq word (codes "thread") then thread_after state words
    else (if bytes_eq word (codes "begin") then opening_after line.Begin state words
    else (if bytes_eq word (codes "set") then opening_after line.Set state words
    else (if bytes_eq word (codes "end") then end_after state words
    else (if bytes_eq word (codes "snapshot") then snapshot_after state words
    else (if bytes_eq word (codes "flush") then flush_after state words
    else (if bytes_eq word (codes "tick") then tick_after state words
    else Err UnknownWord)))))))))))

-- A line that passes a limit has no other fault.
abbrev pub limited : State → Result State ScriptKind
limited next = if fits next then Ok next else Err TooMany

-- a line that says something
abbrev pub text_after : State → List ℕ → Result State ScriptKind
text_after state line = do
  next ← words_after state (words_of line)
  limited next

-- A line is UTF-8. One that says nothing leaves what stands.
unfoldable pub line_after : State → List ℕ → Result State ScriptKind
line_after state line =
    if not (is_utf8 line) then Err NotText
    else (if is_skipped line then Ok state else text_after state line)

-- the script that bytes say, or the kind of their first fault
abbrev pub meaning : List ℕ → Result Script ScriptKind
meaning bytes = do
  state ← after_lines line_after no_lines (lines_of bytes)
  Ok (script_of state)

-- The bytes mean the script.
abbrev pub Means : List ℕ → Script → Type 0
Means bytes script = meaning bytes ≡ Ok script

-- A valid script is one that some bytes mean.
abbrev pub IsValidScript : Script → Type 0
IsValidScript script = (bytes : List ℕ) × Means bytes script

-- The words of `watch --trigger=main|slow [--q=TEXT]`, of which `--trigger` is required (ours).
use Rattle.std.specs.Prelude.{ℕ, ◌+◌, Bool, false, List, [], ◌∷◌, codes, map}
use Rattle.std.specs.Prelude.{Option, None, Some, Result, Ok, Err, String, string_bytes}
use Rattle.std.specs.Prelude.{is_some, if◌then◌else◌}
use Rattle.std.specs.Global.{Global}
use Rattle.std.specs.Option.{option_map_or}
use Rattle.std.specs.Str.{bytes_eq}
use Rattle.cal_call.specs.Words.{given_once, q_text}
use Rattle.cal_watch.specs.declared.watched.TriggerName as triggers
use Rattle.cal_watch.specs.declared.watched.TriggerName.TheVariants as trigger
use Rattle.cal_call_watch.specs.declared.words.WatchCommand.{WatchCommand}
use Rattle.cal_call_watch.specs.declared.words.WatchOptions.{WatchOptions}

abbrev pub no_options : WatchOptions
no_options = record { trigger = None; q = None }

-- the trigger that a word names
abbrev pub trigger_named : List ℕ → Option triggers.TriggerName
trigger_named word =
    if bytes_eq word (codes "--trigger=main") then Some trigger.Main
    else (if bytes_eq word (codes "--trigger=slow") then Some trigger.Slow else None)

abbrev pub with_q : WatchOptions → Option (Option ℕ) → Option WatchOptions
with_q options None = None
with_q options (Some q) = Some (record { trigger = options.trigger; q = q })

abbrev pub with_trigger : WatchOptions → Option (Option triggers.TriggerName)
    → Option WatchOptions
with_trigger options None = None
with_trigger options (Some name) = Some (record { trigger = name; q = options.q })

-- The options with those of the word at this place, where it is one of `watch` and comes once. Of
-- the text of a query the place of its word is kept.
abbrev pub with_word : ℕ → WatchOptions → List ℕ → Option WatchOptions
with_word place options word =
    if is_some (q_text word) then with_q options (given_once options.q place)
    else option_map_or (λ name. with_trigger options (given_once options.trigger name))
    (trigger_named word) None

-- the command of a trigger, or the number of words where none is named
abbrev pub watch_from : ℕ → Option triggers.TriggerName → Option ℕ → Result WatchCommand ℕ
watch_from place (Some name) q = Ok (record { trigger = name; q = q })
watch_from place None q = Err place

-- the command of these options, and of the words from this place on
abbrev pub watch_of : ℕ → WatchOptions → List (List ℕ) → Result WatchCommand ℕ
watch_of place options [] = watch_from place options.trigger options.q
watch_of place options (word ∷ words) =
    option_map_or (λ next. watch_of (place + 1) next words) (with_word place options word)
    (Err place)

-- whether words begin with `watch`
abbrev pub begins_watch : List (List ℕ) → Bool
begins_watch [] = false
begins_watch (word ∷ words) = bytes_eq word (codes "watch")

-- What a command line asks `watch` for: each word behind it is an option of it that comes once, in
-- any order. Otherwise the place, from 0, of the first word that breaks this rule, or the number of
-- words where one is missing.
abbrev pub command_of : List (List ℕ) → Result WatchCommand ℕ
command_of [] = Err 0
command_of (word ∷ words) =
    if bytes_eq word (codes "watch") then watch_of 1 no_options words else Err 0

-- what the words behind the program's name ask for
abbrev pub asked : List (String Global) → Result WatchCommand ℕ
asked words = command_of (map string_bytes words)

-- how many options were given
abbrev pub given : WatchOptions → ℕ
given options =
    (if is_some options.trigger then 1 else 0) + (if is_some options.q then 1 else 0)

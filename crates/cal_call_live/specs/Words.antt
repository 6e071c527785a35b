-- The words of `live [--clock=script|real] [--room=N]` (ours).
use Rattle.std.specs.Prelude.{ℕ, ◌+◌, ◌≤◌, Bool, false, List, [], ◌∷◌, codes, map}
use Rattle.std.specs.Prelude.{Option, None, Some, Result, Ok, Err, String, string_bytes}
use Rattle.std.specs.Prelude.{is_some, unwrap_or, if◌then◌else◌}
use Rattle.std.specs.Global.{Global}
use Rattle.std.specs.Option.{option_map, option_map_or}
use Rattle.std.specs.Str.{bytes_eq}
use Rattle.cal_call.specs.GenWords.{number_of, number_once, value_behind}
use Rattle.cal_call.specs.Words.{clock_named, given_once}
use Rattle.cal_call_live.specs.declared.words.LiveCommand.{LiveCommand}
use Rattle.cal_call_live.specs.declared.words.LiveOptions.{LiveOptions}

abbrev pub no_options : LiveOptions
no_options = record { real = None; room = None }

-- a mailbox may have room for so many parts
abbrev pub IsRoom : ℕ → Type 0
IsRoom room = (1 ≤ room) × (room ≤ 1024)

-- the room that a decimal of at most four digits writes, from 1 to 1024
abbrev pub room_in : List ℕ → Option ℕ
room_in text = number_of 4 1 1024 text

abbrev pub with_clock : LiveOptions → Option (Option Bool) → Option LiveOptions
with_clock options None = None
with_clock options (Some real) = Some (record { real = real; room = options.room })

abbrev pub with_room : LiveOptions → Option (Option ℕ) → Option LiveOptions
with_room options room = option_map (λ n. record { real = options.real; room = n }) room

-- The options with that of the word, where it is one of `live` and comes once.
abbrev pub with_word : LiveOptions → List ℕ → Option LiveOptions
with_word options word =
    option_map_or (λ real. with_clock options (given_once options.real real)) (clock_named word)
    (option_map_or (λ text. with_room options (number_once options.room (room_in text)))
    (value_behind (codes "--room=") word) None)

-- the command of these options: by default the script's clock, and room for 16 parts
abbrev pub command_from : LiveOptions → LiveCommand
command_from options =
    record { real = unwrap_or options.real false; room = unwrap_or options.room 16 }

-- the command of these options and of the words from this place on
abbrev pub live_of : ℕ → LiveOptions → List (List ℕ) → Result LiveCommand ℕ
live_of place options [] = Ok (command_from options)
live_of place options (word ∷ words) =
    option_map_or (λ next. live_of (place + 1) next words) (with_word options word) (Err place)

-- whether words begin with `live`
abbrev pub begins_live : List (List ℕ) → Bool
begins_live [] = false
begins_live (word ∷ words) = bytes_eq word (codes "live")

-- What a command line asks `live` for: each word behind it is an option of it that comes once, in
-- any order. Otherwise the place, from 0, of the first word that breaks this rule.
abbrev pub command_of : List (List ℕ) → Result LiveCommand ℕ
command_of [] = Err 0
command_of (word ∷ words) =
    if bytes_eq word (codes "live") then live_of 1 no_options words else Err 0

-- what the words behind the program's name ask for
abbrev pub asked : List (String Global) → Result LiveCommand ℕ
asked words = command_of (map string_bytes words)

-- how many options were given
abbrev pub given : LiveOptions → ℕ
given options = (if is_some options.real then 1 else 0) + (if is_some options.room then 1 else 0)

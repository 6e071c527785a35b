-- The words of a command line.
use Rattle.std.specs.Prelude.{ℕ, ◌+◌, Bool, true, false, List, [], ◌∷◌, codes, map}
use Rattle.std.specs.Prelude.{Option, None, Some, Result, Ok, Err, String, string_bytes}
use Rattle.std.specs.Prelude.{unwrap_or, is_some, drop, nat_eq, slice_get, if◌then◌else◌}
use Rattle.std.specs.List.{starts_with}
use Rattle.std.specs.Global.{Global}
use Rattle.std.specs.Option.{ok_or, option_map_or}
use Rattle.std.specs.Str.{bytes_eq}
use Rattle.cal_call.specs.GenWords.{gen_of, no_gen_options}
use Rattle.cal_call.specs.declared.words.Command.{Command}
use Rattle.cal_call.specs.declared.words.Command.TheVariants.{Serial, Replay, Journal, Query}
use Rattle.cal_call.specs.declared.words.Options.{Options}

-- the command, where no word follows it; else the place of the first word that does
abbrev pub alone : Command → List (List ℕ) → Result Command ℕ
alone command [] = Ok command
alone command (word ∷ words) = Err 1

-- ---- replay [--clock=script|real], and so journal

-- whether the clock that a word names is a real one, or else the script's
abbrev pub clock_named : List ℕ → Option Bool
clock_named word =
    if bytes_eq word (codes "--clock=script") then Some false
    else (if bytes_eq word (codes "--clock=real") then Some true else None)

-- what the words behind the command name, by default the script's clock; or the place of the first
-- that breaks the rule
abbrev pub clock_of : List (List ℕ) → Result Bool ℕ
clock_of [] = Ok false
clock_of (word ∷ []) = ok_or (clock_named word) 1
clock_of (word ∷ other ∷ words) = if is_some (clock_named word) then Err 2 else Err 1

abbrev pub replay_by : Result Bool ℕ → Result Command ℕ
replay_by (Ok real) = Ok (Replay real)
replay_by (Err place) = Err place

abbrev pub journal_by : Result Bool ℕ → Result Command ℕ
journal_by (Ok real) = Ok (Journal real)
journal_by (Err place) = Err place

-- ---- query [--q=TEXT] [--globals=off|join]

abbrev pub no_options : Options
no_options = record { q = None; join = None }

-- the text of a word `--q=TEXT`
abbrev pub q_text : List ℕ → Option (List ℕ)
q_text word = if starts_with nat_eq word (codes "--q=") then Some (drop 4 word) else None

-- an option's value, unless a word gave one before
abbrev pub given_once : {A : Type 0} → Option A → A → Option (Option A)
given_once None a = Some (Some a)
given_once (Some before) a = None

abbrev pub with_q : Options → Option (Option ℕ) → Option Options
with_q options None = None
with_q options (Some q) = Some (record { q = q; join = options.join })

abbrev pub with_join : Options → Option (Option Bool) → Option Options
with_join options None = None
with_join options (Some join) = Some (record { q = options.q; join = join })

-- The options with those of the word at this place, where it is one of `query` and comes once. Of
-- the text of a query the place of its word is kept.
abbrev pub with_word : ℕ → Options → List ℕ → Option Options
with_word place options word =
    if is_some (q_text word) then with_q options (given_once options.q place)
    else (if bytes_eq word (codes "--globals=off")
    then with_join options (given_once options.join false)
    else (if bytes_eq word (codes "--globals=join")
    then with_join options (given_once options.join true) else None))

-- the command of these options, and of the words from this place on
abbrev pub query_of : ℕ → Options → List (List ℕ) → Result Command ℕ
query_of place options [] = Ok (Query options.q (unwrap_or options.join false))
query_of place options (word ∷ words) =
    option_map_or (λ next. query_of (place + 1) next words) (with_word place options word)
    (Err place)

-- ---- the command line

-- What a command line asks for (ours): a command, each further word an option of it that comes
-- once, in any order. Otherwise the place, from 0, of the first word that breaks this rule, or the
-- number of words where one is missing.
abbrev pub command_of : List (List ℕ) → Result Command ℕ
command_of [] = Err 0
command_of (word ∷ words) =
    if bytes_eq word (codes "serial") then alone Serial words
    else (if bytes_eq word (codes "replay") then replay_by (clock_of words)
    else (if bytes_eq word (codes "journal") then journal_by (clock_of words)
    else (if bytes_eq word (codes "query") then query_of 1 no_options words
    else (if bytes_eq word (codes "gen") then gen_of 1 no_gen_options words else Err 0))))

-- what the words behind the program's name ask for
abbrev pub asked : List (String Global) → Result Command ℕ
asked words = command_of (map string_bytes words)

-- What a person is told, of a help and a version: each is asked for by its word, alone (ours).
abbrev pub told_about : List ℕ → List ℕ → List (List ℕ) → Option (List ℕ)
told_about help version [] = None
told_about help version (word ∷ []) =
    if bytes_eq word (codes "--help") then Some help
    else (if bytes_eq word (codes "--version") then Some version else None)
told_about help version (word ∷ other ∷ words) = None

-- how many options were given
abbrev pub given : Options → ℕ
given options = (if is_some options.q then 1 else 0) + (if is_some options.join then 1 else 0)

-- the text of a query whose word has this place; without one it is empty
abbrev pub text_at : List (String Global) → Option ℕ → List ℕ
text_at words None = []
text_at words (Some place) =
    option_map_or (λ word. unwrap_or (q_text (string_bytes word)) []) (slice_get words place) []

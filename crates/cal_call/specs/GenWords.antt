-- The words behind `gen`: --seed=N --threads=N --lines=N [--print=script|summary] (Giltmoth's
-- rule).
use Rattle.std.specs.Prelude.{ℕ, ◌+◌, ◌*◌, List, [], ◌∷◌, length, codes, drop}
use Rattle.std.specs.Prelude.{Option, None, Some, Result, Ok, Err, is_some, unwrap_or}
use Rattle.std.specs.Prelude.{nat_eq, nat_le, ◌&&◌, if◌then◌else◌}
use Rattle.std.specs.List.{starts_with}
use Rattle.std.specs.Option.{option_map, option_map_or}
use Rattle.std.specs.Str.{bytes_eq}
use Rattle.cal_value.specs.Reading.{uint_of}
use Rattle.cal_call.specs.declared.gen_words.GenOptions.{GenOptions}
use Rattle.cal_call.specs.declared.words.Command.{Command}
use Rattle.cal_call.specs.declared.words.Command.TheVariants.{Gen}
use Rattle.cal_call.specs.declared.words.Print as prints
use Rattle.cal_call.specs.declared.words.Print.TheVariants as print

abbrev pub no_gen_options : GenOptions
no_gen_options = record { seed = None; threads = None; lines = None; print = None }

-- the value of a word that begins so, as with `--seed=`
abbrev pub value_behind : List ℕ → List ℕ → Option (List ℕ)
value_behind front word =
    if starts_with nat_eq word front then Some (drop (length front) word) else None

-- a number in a range
abbrev pub in_range : ℕ → ℕ → Option ℕ → Option ℕ
in_range least most None = None
in_range least most (Some n) = if nat_le least n && nat_le n most then Some n else None

-- what a decimal of at most so many digits writes, in a range
abbrev pub number_of : ℕ → ℕ → ℕ → List ℕ → Option ℕ
number_of digits least most text =
    if nat_le (length text) digits then in_range least most (uint_of text) else None

-- the same of ten digits
abbrev pub number_in : ℕ → ℕ → List ℕ → Option ℕ
number_in least most text = number_of 10 least most text

-- a number, unless a word gave one before
abbrev pub number_once : Option ℕ → Option ℕ → Option (Option ℕ)
number_once None (Some n) = Some (Some n)
number_once before number = None

-- A seed of at most 2147483647, from 1 to 64 threads, and at most 1,048,576 lines.

abbrev pub with_seed : GenOptions → List ℕ → Option GenOptions
with_seed options text =
    option_map (λ seed. record options { seed = seed })
    (number_once options.seed (number_in 0 2147483647 text))

abbrev pub with_threads : GenOptions → List ℕ → Option GenOptions
with_threads options text =
    option_map (λ threads. record options { threads = threads })
    (number_once options.threads (number_in 1 64 text))

abbrev pub with_lines : GenOptions → List ℕ → Option GenOptions
with_lines options text =
    option_map (λ lines. record options { lines = lines })
    (number_once options.lines (number_in 0 1048576 text))

-- what is printed, which is said once
abbrev pub with_print : GenOptions → prints.Print → Option GenOptions
with_print options printed =
    if is_some options.print then None else Some (record options { print = Some printed })

-- the options with that of a word that says neither a seed nor threads
abbrev pub with_other_word : GenOptions → List ℕ → Option GenOptions
with_other_word options word =
    option_map_or (with_lines options) (value_behind (codes "--lines=") word)
    (if bytes_eq word (codes "--print=script") then with_print options print.Script
    else (if bytes_eq word (codes "--print=summary") then with_print options print.Summary
    else None))

-- the options with that of a word
abbrev pub with_gen_word : GenOptions → List ℕ → Option GenOptions
with_gen_word options word =
    option_map_or (with_seed options) (value_behind (codes "--seed=") word)
    (option_map_or (with_threads options) (value_behind (codes "--threads=") word)
    (with_other_word options word))

-- so many lines in all threads, as far as the options say
abbrev pub all_lines : GenOptions → ℕ
all_lines options = unwrap_or options.threads 1 * unwrap_or options.lines 0

-- options that ask for at most 1,048,576 lines in all
abbrev pub not_too_many : Option GenOptions → Option GenOptions
not_too_many None = None
not_too_many (Some options) = if nat_le (all_lines options) 1048576 then Some options else None

-- the options with that of a next word, where the lines aren't too many in all
abbrev pub with_next_word : GenOptions → List ℕ → Option GenOptions
with_next_word options word = not_too_many (with_gen_word options word)

-- the command of three numbers, or the number of words where one is missing
abbrev pub gen_of_numbers : ℕ → Option ℕ → Option ℕ → Option ℕ → prints.Print → Result Command ℕ
gen_of_numbers place (Some seed) (Some threads) (Some lines) printed =
    Ok (Gen seed threads lines printed)
gen_of_numbers place seed threads lines printed = Err place

-- the command of these options, by default one that prints the script
abbrev pub gen_from : ℕ → GenOptions → Result Command ℕ
gen_from place options = gen_of_numbers place options.seed options.threads options.lines
    (unwrap_or options.print print.Script)

-- The command of these options, and of the words from this place on. Where the lines are too many
-- in all, the later of the two words breaks the rule.
abbrev pub gen_of : ℕ → GenOptions → List (List ℕ) → Result Command ℕ
gen_of place options [] = gen_from place options
gen_of place options (word ∷ words) =
    option_map_or (λ next. gen_of (place + 1) next words)
    (with_next_word options word) (Err place)

-- how many options were given
abbrev pub count_given : GenOptions → ℕ
count_given options =
    (if is_some options.seed then 1 else 0) + (if is_some options.threads then 1 else 0)
    + (if is_some options.lines then 1 else 0) + (if is_some options.print then 1 else 0)

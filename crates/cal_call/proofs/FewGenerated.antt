-- A script that the words ask for has few threads, and few lines in all.
use Rattle.std.proofs.Common.{◌≡◌, ℕ, ◌+◌, ◌*◌, ◌≤◌, Bool, true, false, List, [], ◌∷◌, Option, Some, None, Result, Ok, Err, leb, lit≤}
use Rattle.std.specs.Prelude.{String, map, string_bytes, unwrap_or, is_some, codes, nat_le, length, ◌&&◌, if◌then◌else◌, IfSome, refl}
use Rattle.std.specs.Global.{Global}
use Rattle.std.specs.Option.{option_map, option_map_or}
use Rattle.std.specs.Str.{bytes_eq}
use Rattle.std.proofs.lemmas.Bool.{leb-true}
use Rattle.cal_value.specs.Reading.{uint_of}
use Rattle.cal_call.specs.GenWords.{all_lines, gen_from, gen_of, gen_of_numbers, in_range, no_gen_options, not_too_many, number_in, number_once, value_behind, with_gen_word, with_lines, with_next_word, with_other_word, with_print, with_seed, with_threads}
use Rattle.cal_call.specs.Words.{alone, asked, clock_of, command_of, journal_by, no_options, query_of}
use Rattle.cal_call.specs.Words.{replay_by, with_word}
use Rattle.cal_call.specs.declared.gen_words.GenOptions.{GenOptions}
use Rattle.cal_call.specs.declared.words.Command.{Command}
use Rattle.cal_call.specs.declared.words.Command.TheVariants as command
use Rattle.cal_call.specs.declared.words.Options.{Options}
use Rattle.cal_call.specs.declared.words.Print as prints
use Rattle.cal_call.specs.declared.words.Print.TheVariants as print

-- a script that a command generates is within the limits of scripts
abbrev pub IsFew : Result Command ℕ → Type 0
IsFew (Ok (command.Gen seed threads lines printed)) = (threads ≤ 64) × (threads * lines ≤ 1048576)
IsFew (Ok command.Serial) = Unit {0}
IsFew (Ok (command.Replay real)) = Unit {0}
IsFew (Ok (command.Journal real)) = Unit {0}
IsFew (Ok (command.Query q join)) = Unit {0}
IsFew (Err place) = Unit {0}

-- so many threads, as far as options say
abbrev FewThreads : GenOptions → Type 0
FewThreads o = unwrap_or o.threads 1 ≤ 64

record AreFew (o : GenOptions) : Type 0 where
  threads : FewThreads o
  lines : all_lines o ≤ 1048576

-- ---- the options of a word

ranged : (n : ℕ) (low high : Bool) → nat_le n 64 ≡ high
    → IfSome (if low && high then Some n else None) (λ m. m ≤ 64)
ranged n true true is = leb-true n 64 is
ranged n true false is = tt
ranged n false high is = tt

in_range_few : (found : Option ℕ) → IfSome (in_range 1 64 found) (λ m. m ≤ 64)
in_range_few None = tt
in_range_few (Some n) = ranged n (nat_le 1 n) (nat_le n 64) refl

number_few : (short : Bool) (found : Option ℕ)
    → IfSome (if short then in_range 1 64 found else None) (λ m. m ≤ 64)
number_few true found = in_range_few found
number_few false found = tt

threads_once : (o : GenOptions) (before found : Option ℕ) → IfSome found (λ m. m ≤ 64)
    → IfSome (option_map (λ threads. record o { threads = threads }) (number_once before found)) FewThreads
threads_once o None None few = tt
threads_once o None (Some n) few = few
threads_once o (Some m) None few = tt
threads_once o (Some m) (Some n) few = tt

threads_few : (o : GenOptions) (text : List ℕ) → IfSome (with_threads o text) FewThreads
threads_few o text = threads_once o o.threads (number_in 1 64 text) (number_few (nat_le (length text) 10) (uint_of text))

seed_mapped : (o : GenOptions) (found : Option (Option ℕ)) → FewThreads o
    → IfSome (option_map (λ seed. record o { seed = seed }) found) FewThreads
seed_mapped o None few = tt
seed_mapped o (Some seed) few = few

lines_mapped : (o : GenOptions) (found : Option (Option ℕ)) → FewThreads o
    → IfSome (option_map (λ lines. record o { lines = lines }) found) FewThreads
lines_mapped o None few = tt
lines_mapped o (Some lines) few = few

printed_once : (o : GenOptions) (before : Bool) (printed : prints.Print) → FewThreads o
    → IfSome (if before then None else Some (record o { print = Some printed })) FewThreads
printed_once o true printed few = tt
printed_once o false printed few = few

either : (first : Bool) (one other : Option GenOptions) → IfSome one FewThreads → IfSome other FewThreads
    → IfSome (if first then one else other) FewThreads
either true one other a b = a
either false one other a b = b

behind : (with : List ℕ → Option GenOptions) (found : Option (List ℕ)) (other : Option GenOptions)
    → ((text : List ℕ) → IfSome (with text) FewThreads) → IfSome other FewThreads
    → IfSome (option_map_or with found other) FewThreads
behind with None other a b = b
behind with (Some text) other a b = a text

module _ (o : GenOptions) (word : List ℕ) (few : FewThreads o) where
  other_few : IfSome (with_other_word o word) FewThreads
  other_few =
      behind (with_lines o) (value_behind (codes "--lines=") word) _
      (λ text. lines_mapped o (number_once o.lines (number_in 0 1048576 text)) few)
      (either (bytes_eq word (codes "--print=script")) (with_print o print.Script) _
      (printed_once o (is_some o.print) print.Script few)
      (either (bytes_eq word (codes "--print=summary")) (with_print o print.Summary) None
      (printed_once o (is_some o.print) print.Summary few) tt))

  word_few : IfSome (with_gen_word o word) FewThreads
  word_few =
      behind (with_seed o) (value_behind (codes "--seed=") word) _
      (λ text. seed_mapped o (number_once o.seed (number_in 0 2147483647 text)) few)
      (behind (with_threads o) (value_behind (codes "--threads=") word) (with_other_word o word)
      (threads_few o) other_few)

limited : (o : GenOptions) (small : Bool) → nat_le (all_lines o) 1048576 ≡ small → FewThreads o
    → IfSome (if small then Some o else None) AreFew
limited o true is few = record { threads = few; lines = leb-true (all_lines o) 1048576 is }
limited o false is few = tt

all_few : (found : Option GenOptions) → IfSome found FewThreads → IfSome (not_too_many found) AreFew
all_few None few = tt
all_few (Some o) few = limited o (nat_le (all_lines o) 1048576) refl few

-- ---- commands

numbers_few : (place : ℕ) (seed threads lines : Option ℕ) (printed : prints.Print)
    → unwrap_or threads 1 ≤ 64 → unwrap_or threads 1 * unwrap_or lines 0 ≤ 1048576
    → IsFew (gen_of_numbers place seed threads lines printed)
numbers_few place None threads lines printed few all = tt
numbers_few place (Some seed) None lines printed few all = tt
numbers_few place (Some seed) (Some threads) None printed few all = tt
numbers_few place (Some seed) (Some threads) (Some lines) printed few all = (few, all)

next_few : (rest : GenOptions → Result Command ℕ) (place : ℕ) (found : Option GenOptions)
    → IfSome found AreFew → ((o : GenOptions) → AreFew o → IsFew (rest o))
    → IsFew (option_map_or rest found (Err place))
next_few rest place None few go = tt
next_few rest place (Some o) few go = go o few

gen_few : (words : List (List ℕ)) (place : ℕ) (o : GenOptions) → AreFew o → IsFew (gen_of place o words)
gen_few [] place o few =
    numbers_few place o.seed o.threads o.lines (unwrap_or o.print print.Script) few.threads few.lines
gen_few (word ∷ words) place o few =
    next_few (λ next. gen_of (place + 1) next words) place (with_next_word o word)
    (all_few (with_gen_word o word) (word_few o word few.threads))
    (λ next fine. gen_few words (place + 1) next fine)

query_next : (rest : Options → Result Command ℕ) (place : ℕ) (found : Option Options)
    → ((o : Options) → IsFew (rest o)) → IsFew (option_map_or rest found (Err place))
query_next rest place None go = tt
query_next rest place (Some o) go = go o

query_few : (words : List (List ℕ)) (place : ℕ) (o : Options) → IsFew (query_of place o words)
query_few [] place o = tt
query_few (word ∷ words) place o =
    query_next (λ next. query_of (place + 1) next words) place (with_word place o word)
    (λ next. query_few words (place + 1) next)

alone_few : (words : List (List ℕ)) → IsFew (alone command.Serial words)
alone_few [] = tt
alone_few (word ∷ words) = tt

replay_few : (clock : Result Bool ℕ) → IsFew (replay_by clock)
replay_few (Ok real) = tt
replay_few (Err place) = tt

journal_few : (clock : Result Bool ℕ) → IsFew (journal_by clock)
journal_few (Ok real) = tt
journal_few (Err place) = tt

chosen : (first : Bool) (one other : Result Command ℕ) → IsFew one → IsFew other
    → IsFew (if first then one else other)
chosen true one other a b = a
chosen false one other a b = b

none_few : AreFew no_gen_options
none_few = record { threads = lit≤ tt; lines = lit≤ tt }

command_few : (words : List (List ℕ)) → IsFew (command_of words)
command_few [] = tt
command_few (word ∷ words) =
    chosen (bytes_eq word (codes "serial")) (alone command.Serial words) _ (alone_few words)
    (chosen (bytes_eq word (codes "replay")) (replay_by (clock_of words)) _
    (replay_few (clock_of words))
    (chosen (bytes_eq word (codes "journal")) (journal_by (clock_of words)) _
    (journal_few (clock_of words))
    (chosen (bytes_eq word (codes "query")) (query_of 1 no_options words) _ (query_few words 1 no_options)
    (chosen (bytes_eq word (codes "gen")) (gen_of 1 no_gen_options words) (Err 0)
    (gen_few words 1 no_gen_options none_few) tt))))

-- what words ask for is within the limits of scripts
pub asked_few : (words : List (String Global)) → IsFew (asked words)
asked_few words = command_few (map string_bytes words)

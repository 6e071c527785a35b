-- The words of `files --in=NAME [--in=NAME ..] [--q=TEXT]`, with 1 to 64 names. (Giltmoth's rule.)
use Rattle.std.specs.Prelude.{ℕ, ◌+◌, Bool, false, List, [], ◌∷◌, codes, map, drop}
use Rattle.std.specs.Prelude.{Option, None, Some, Result, Ok, Err, String, string_bytes}
use Rattle.std.specs.Prelude.{is_some, nat_eq, nat_lt, if◌then◌else◌}
use Rattle.std.specs.Global.{Global}
use Rattle.std.specs.List.{filter_map, starts_with}
use Rattle.std.specs.Option.{option_map_or}
use Rattle.std.specs.Str.{bytes_eq}
use Rattle.cal_call.specs.Words.{given_once, q_text}
use Rattle.cal_call_files.specs.declared.words.FilesCommand.{FilesCommand}
use Rattle.cal_call_files.specs.declared.options.FilesOptions.{FilesOptions}

abbrev pub no_options : FilesOptions
no_options = record { files = 0; q = None }

-- the name in a word `--in=NAME`, which may have no byte
abbrev pub in_name : List ℕ → Option (List ℕ)
in_name word = if starts_with nat_eq word (codes "--in=") then Some (drop 5 word) else None

-- the options with one file more, of which there are at most 64
abbrev pub with_file : FilesOptions → Option FilesOptions
with_file options =
    if nat_lt options.files 64
    then Some (record { files = options.files + 1; q = options.q }) else None

abbrev pub with_q : FilesOptions → Option (Option ℕ) → Option FilesOptions
with_q options None = None
with_q options (Some q) = Some (record { files = options.files; q = q })

-- The options with those of the word at this place, where it is one of `files` and may still come.
-- Of the text of a query the place of its word is kept.
abbrev pub with_word : ℕ → FilesOptions → List ℕ → Option FilesOptions
with_word place options word =
    if is_some (in_name word) then with_file options
    else (if is_some (q_text word) then with_q options (given_once options.q place) else None)

-- how many words gave these options (private)
abbrev pub given : FilesOptions → ℕ
given options = options.files + (if is_some options.q then 1 else 0)

-- the command of these options, behind so many words
abbrev pub files_from : ℕ → FilesOptions → Result FilesCommand ℕ
files_from place options =
    if nat_lt 0 options.files then Ok (record { q = options.q }) else Err place

-- the command of these options, and of the words from this place on
abbrev pub files_of : ℕ → FilesOptions → List (List ℕ) → Result FilesCommand ℕ
files_of place options [] = files_from place options
files_of place options (word ∷ words) =
    option_map_or (λ next. files_of (place + 1) next words) (with_word place options word)
    (Err place)

-- whether words begin with `files`
abbrev pub begins_files : List (List ℕ) → Bool
begins_files [] = false
begins_files (word ∷ words) = bytes_eq word (codes "files")

-- What a command line asks `files` for: each word behind it names a file or is the one text of a
-- query, in any order, with at least one file and at most 64. Otherwise the place, from 0, of the
-- first word that breaks this rule, or the number of words where one is missing.
abbrev pub command_of : List (List ℕ) → Result FilesCommand ℕ
command_of [] = Err 0
command_of (word ∷ words) =
    if bytes_eq word (codes "files") then files_of 1 no_options words else Err 0

-- what the words behind the program's name ask for
abbrev pub asked : List (String Global) → Result FilesCommand ℕ
asked words = command_of (map string_bytes words)

-- the names of files in words, in their order
abbrev pub names_in : List (List ℕ) → List (List ℕ)
names_in words = filter_map in_name words

abbrev pub names_of : List (String Global) → List (List ℕ)
names_of words = names_in (map string_bytes words)

-- Words that ask for something name few files.
use Rattle.std.proofs.Common.{◌≡◌, ℕ, ◌+◌, ◌≤◌, Bool, true, false, List, [], ◌∷◌, length, nat_lt}
use Rattle.std.proofs.Common.{Option, None, Some, Result, Ok, Err, IfOk, if◌then◌else◌}
use Rattle.std.proofs.Common.{refl, sym, subst, arith, lit≤}
use Rattle.std.specs.Prelude.{String, map, string_bytes, is_some, codes}
use Rattle.std.specs.Global.{Global}
use Rattle.std.specs.List.{cons_option}
use Rattle.std.specs.Option.{option_map_or}
use Rattle.std.specs.Str.{bytes_eq}
use Rattle.std.proofs.lemmas.Bool.{ltb-true}
use Rattle.std.proofs.lemmas.Slice.Eq.{bytes_eq-Decides}
use Rattle.cal_call.specs.Words.{given_once, q_text}
use Rattle.cal_call_files.specs.Words.{asked, command_of, files_of, in_name, names_in}
use Rattle.cal_call_files.specs.Words.{names_of, no_options, with_file, with_q}
use Rattle.cal_call_files.specs.declared.options.FilesOptions.{FilesOptions}
use Rattle.cal_call_files.specs.declared.words.FilesCommand.{FilesCommand}

-- where words are accepted, there are few of these files
abbrev HaveFew : Result FilesCommand ℕ → ℕ → Type 0
HaveFew read files = IfOk read (λ command. files ≤ 64)

fewer : (read : Result FilesCommand ℕ) (more files : ℕ) → (more ≤ 64 → files ≤ 64)
    → HaveFew read more → HaveFew read files
fewer (Ok command) more files less few = less few
fewer (Err place) more files less few = tt

-- how many files options and the words behind them have, where what follows says so
abbrev GoesOn : (FilesOptions → Result FilesCommand ℕ) → List (List ℕ) → Type 0
GoesOn rest names =
    (o : FilesOptions) → o.files ≤ 64 → HaveFew (rest o) (o.files + length names)

module _ (rest : FilesOptions → Result FilesCommand ℕ) (place : ℕ) (o : FilesOptions)
    (names : List (List ℕ)) (few : o.files ≤ 64) (go : GoesOn rest names) where
  file_few : (name : List ℕ) (fits : Bool) → nat_lt o.files 64 ≡ fits
      → HaveFew (option_map_or rest
      (if fits then Some (record { files = o.files + 1; q = o.q }) else None) (Err place))
      (o.files + length (name ∷ names))
  file_few name true is =
      let next : FilesOptions = record { files = o.files + 1; q = o.q } in
      let room = ltb-true o.files 64 is in
      fewer (rest next) (o.files + 1 + length names) (o.files + length (name ∷ names))
      (λ m. omega (arith, m)) (go next (omega (arith, room)))
  file_few name false is = tt

  q_few : (before : Option ℕ)
      → HaveFew (option_map_or rest (with_q o (given_once before place)) (Err place))
      (o.files + length names)
  q_few None = go (record { files = o.files; q = Some place }) few
  q_few (Some before) = tt

  word_few : (name q : Option (List ℕ))
      → HaveFew (option_map_or rest
      (if is_some name then with_file o
      else (if is_some q then with_q o (given_once o.q place) else None)) (Err place))
      (o.files + length (cons_option name names))
  word_few (Some name) q = file_few name (nat_lt o.files 64) refl
  word_few None (Some q) = q_few o.q
  word_few None None = tt

end_few : (place : ℕ) (o : FilesOptions) (some : Bool) → o.files ≤ 64
    → HaveFew (if some then Ok (record { q = o.q }) else Err place) (o.files + 0)
end_few place o true few = omega (arith, few)
end_few place o false few = tt

words_few : (words : List (List ℕ)) (place : ℕ) (o : FilesOptions) → o.files ≤ 64
    → HaveFew (files_of place o words) (o.files + length (names_in words))
words_few [] place o few = end_few place o (nat_lt 0 o.files) few
words_few (word ∷ words) place o few =
    word_few (λ next. files_of (place + 1) next words) place o (names_in words) few
    (λ next fine. words_few words (place + 1) next fine) (in_name word) (q_text word)

-- the word `files` names no file
begun_few : (word : List ℕ) (words : List (List ℕ)) (begins : Bool)
    → bytes_eq word (codes "files") ≡ begins
    → HaveFew (if begins then files_of 1 no_options words else Err 0)
    (length (names_in (word ∷ words)))
begun_few word words true is =
    let read = files_of 1 no_options words in
    subst (λ w. HaveFew read (length (names_in (w ∷ words))))
    (sym ((bytes_eq-Decides word (codes "files")).0 is))
    (fewer read (0 + length (names_in words)) (length (names_in words)) (λ m. omega (arith, m))
    (words_few words 1 no_options (lit≤ tt)))
begun_few word words false is = tt

command_few : (words : List (List ℕ)) → HaveFew (command_of words) (length (names_in words))
command_few [] = tt
command_few (word ∷ words) = begun_few word words (bytes_eq word (codes "files")) refl

-- words that ask for a command name at most 64 files
pub few_names : (words : List (String Global)) (command : FilesCommand) → asked words ≡ Ok command
    → length (names_of words) ≤ 64
few_names words command is =
    subst (λ read. HaveFew read (length (names_of words))) is (command_few (map string_bytes words))

-- The names of files, word by word.
use Rattle.std.proofs.Common.{◌≡◌, ℕ, ◌+◌, ◌<◌, List, [], ◌∷◌, ◌++◌, length, get_or, take, map}
use Rattle.std.proofs.Common.{Option, None, Some, sym, ap, ◌∙◌, append-nil}
use Rattle.std.specs.Prelude.{String, string_bytes}
use Rattle.std.specs.Global.{Global}
use Rattle.std.specs.List.{cons_option, filter_map}
use Rattle.std.proofs.lemmas.List.{map-append, take_more}
use Rattle.std.proofs.lemmas.List.Elements.{filter_map-append}
use Rattle.cal_call_files.specs.Words.{in_name, names_of}

-- the names in the words so far, with that of the next word
module _ (words : List (String Global)) (place : ℕ) (word : String Global) (before : List (List ℕ))
    (within : place < length words) (is : word ≡ get_or words place word)
    (so_far : before ≡ names_of (take place words)) where
  names-more : before ++ cons_option (in_name (string_bytes word)) [] ≡ names_of (take (place + 1) words)
  names-more =
      ap (λ (names : List (List ℕ)). names ++ cons_option (in_name (string_bytes word)) []) so_far
      ∙ sym (filter_map-append in_name (map string_bytes (take place words)) (string_bytes word ∷ []))
      ∙ sym (ap (λ (bytes : List (List ℕ)). filter_map in_name bytes)
      (map-append string_bytes (take place words) (word ∷ [])))
      ∙ ap (λ (last : String Global). names_of (take place words ++ last ∷ [])) is
      ∙ sym (ap names_of (take_more words place word within))

  -- the next word names a file
  pub named : (new : List (List ℕ)) (name : List ℕ) → new ≡ before ++ name ∷ []
      → Some name ≡ in_name (string_bytes word) → new ≡ names_of (take (place + 1) words)
  named new name pushed found =
      pushed ∙ ap (λ (o : Option (List ℕ)). before ++ cons_option o []) found ∙ names-more

  -- it doesn't
  pub unnamed : None ≡ in_name (string_bytes word) → before ≡ names_of (take (place + 1) words)
  unnamed found =
      sym (append-nil before)
      ∙ ap (λ (o : Option (List ℕ)). before ++ cons_option o []) found ∙ names-more

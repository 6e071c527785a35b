-- What is written to a writer of tokens; for private clauses.
use Rattle.std.specs.Prelude.{◌≡◌, ℕ, Bool, true, false, List, [], ◌∷◌, ◌++◌}
use Rattle.std.specs.Prelude.{Option, None, Some, if◌then◌else◌}
use Rattle.std.specs.List.{join_with_byte}
use Rattle.json.specs.Print.{ends_value, print}
use Rattle.json.specs.Written.{Written}
use Rattle.cal_jsonfmt.specs.Json.{member_json}

-- a comma, where a value ends before
abbrev pub comma_if : Bool → List ℕ
comma_if ended = if ended then 44 ∷ [] else []

-- A text is written behind what was printed before, and a value ends with it or not.
pub record Writes (old new : Written) (text : List ℕ) (is_whole : Bool) : Type 0 where
  pub before : new.before ≡ old.before
  pub printed : print new.tokens ≡ print old.tokens ++ text
  pub ended : ends_value new.tokens ≡ is_whole

-- the text of a value, behind a comma where it follows another
abbrev pub WritesValue : Written → Written → List ℕ → Type 0
WritesValue old new text = Writes old new (comma_if (ends_value old.tokens) ++ text) true

-- the member of a key, where its value is there
abbrev pub WritesIf : Written → Written → List ℕ → Option (List ℕ) → Type 0
WritesIf old new key None = new ≡ old
WritesIf old new key (Some value) = WritesValue old new (member_json (key, value))

-- whether a list has an item
abbrev pub is_some_list : List (List ℕ) → Bool
is_some_list [] = false
is_some_list (text ∷ texts) = true

-- behind an opening bracket these texts are written, with commas between them
abbrev pub WritesEach : Written → Written → List (List ℕ) → Type 0
WritesEach old new texts = Writes old new (join_with_byte 44 texts) (is_some_list texts)

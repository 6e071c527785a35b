-- The words of `names` (Giltmoth's rule).
use Rattle.std.specs.Prelude.{ℕ, Bool, false, List, [], ◌∷◌, codes, map, Result, Ok, Err, String}
use Rattle.std.specs.Prelude.{string_bytes, if◌then◌else◌}
use Rattle.std.specs.Global.{Global}
use Rattle.std.specs.Str.{bytes_eq}

-- whether words begin with `names`
abbrev pub begins_names : List (List ℕ) → Bool
begins_names [] = false
begins_names (word ∷ words) = bytes_eq word (codes "names")

-- Whether a command line is the one word `names`; else the place, from 0, of the first word that
-- breaks this rule, or 0 where there is no word.
abbrev pub keeps_rule : List (List ℕ) → Result (Unit {0}) ℕ
keeps_rule [] = Err 0
keeps_rule (word ∷ []) = if bytes_eq word (codes "names") then Ok tt else Err 0
keeps_rule (word ∷ other ∷ words) = if bytes_eq word (codes "names") then Err 1 else Err 0

-- what the words behind the program's name ask for
abbrev pub asked : List (String Global) → Result (Unit {0}) ℕ
asked words = keeps_rule (map string_bytes words)

-- Strings in JSON.
use Rattle.std.specs.Prelude.{ℕ, ◌==◌, ◌||◌, ◌/◌, ◌%◌, nat_lt, List, [], ◌∷◌, ◌++◌, codes}
use Rattle.std.specs.Prelude.{flat_map, if◌then◌else◌}
use Rattle.std.specs.Char.{digit_char}

-- A byte of a string: a quote and a backslash behind a backslash, a control character by its
-- letter, if it has one, and else by its number, and every other byte as it is (RFC 8259, the
-- shortest form).
abbrev pub escaped_byte : ℕ → List ℕ
escaped_byte b =
    if (b == 34) || (b == 92) then 92 ∷ b ∷ []
    else (if b == 8 then codes "\\b"
    else (if b == 12 then codes "\\f"
    else (if b == 10 then codes "\\n"
    else (if b == 13 then codes "\\r"
    else (if b == 9 then codes "\\t"
    else (if nat_lt b 32 then codes "\\u00" ++ digit_char (b / 16) ∷ digit_char (b % 16) ∷ []
    else b ∷ []))))))

-- a text as a string
abbrev pub string_json : List ℕ → List ℕ
string_json text = 34 ∷ (flat_map escaped_byte text ++ 34 ∷ [])

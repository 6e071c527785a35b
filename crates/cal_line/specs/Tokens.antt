use Rattle.std.specs.Prelude.{◌≡◌, ◌≢◌, ℕ, ◌==◌, List, [], ◌∷◌, map, if◌then◌else◌}
use Rattle.std.specs.Prelude.{Option, None, Some}
use Rattle.std.specs.Option.{option_map}

-- A token: a character of a text, or a mark, which is a comma or an equals sign that no backslash
-- takes (the `.cali` format; bytewise, which is the same in UTF-8).
pub data Token : Type 0 where
  character : (byte : ℕ) → Token
  comma : Token
  equals : Token

-- the token that a byte is by itself, where it isn't a backslash
abbrev pub token : ℕ → Token
token b = if b == 44 then comma else (if b == 61 then equals else character b)

-- the character that a byte is behind a backslash: `n` is a newline, any other byte itself
abbrev pub taken : ℕ → Token
taken b = character (if b == 110 then 10 else b)

-- The bytes spell the tokens: no bytes none, a byte but the backslash its own token, and a
-- backslash takes the next byte for a character.
pub data Spell : List ℕ → List Token → Type 0 where
  nothing : Spell [] []
  itself : {b : ℕ} {bytes : List ℕ} {tokens : List Token} → b ≢ 92 → Spell bytes tokens
      → Spell (b ∷ bytes) (token b ∷ tokens)
  behind_backslash : {b : ℕ} {bytes : List ℕ} {tokens : List Token} → Spell bytes tokens
      → Spell (92 ∷ b ∷ bytes) (taken b ∷ tokens)

-- these tokens with one more before them
abbrev pub onto : Token → Option (List Token) → Option (List Token)
onto first tokens = option_map (λ more. first ∷ more) tokens

-- the tokens that bytes spell; none where a backslash stands last and takes nothing
abbrev pub tokens_of : List ℕ → Option (List Token)
tokens_of [] = Some []
tokens_of (b ∷ []) = if b == 92 then None else Some (token b ∷ [])
tokens_of (b ∷ c ∷ bytes) =
    if b == 92 then onto (taken c) (tokens_of bytes) else onto (token b) (tokens_of (c ∷ bytes))

-- the byte of a token
abbrev pub byte_of : Token → ℕ
byte_of (character b) = b
byte_of comma = 44
byte_of equals = 61

-- The bytes spell the text by themselves: there a mark is a byte like any other.
abbrev pub Spells : List ℕ → List ℕ → Type 0
Spells bytes text = (tokens : List Token) × Spell bytes tokens × (text ≡ map byte_of tokens)

-- The bytes spell the text in a line, where no mark stands in it.
abbrev pub IsPiece : List ℕ → List ℕ → Type 0
IsPiece bytes text = Spell bytes (map character text)

-- the text that bytes spell by themselves, where they spell one
abbrev pub spelled_text : List ℕ → Option (List ℕ)
spelled_text bytes = option_map (map byte_of) (tokens_of bytes)

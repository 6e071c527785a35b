-- The tokens of a CalQL text, each with the place of its first byte.
use Rattle.std.specs.Prelude.{ℕ, zero, suc, ◌+◌, ◌-◌, Bool, List, [], ◌∷◌, length, take, drop, Option, Some, None, Result, Ok, Err, codes, nat_eq, nat_le, nat_lt, ◌==◌, ◌||◌, if◌then◌else◌, option_map}
use Rattle.std.specs.List.{list_any, prefix_len, starts_with}
use Rattle.std.specs.Char.{is_ascii_alphanumeric}
use Rattle.cal_ql.specs.declared.kind.QueryKind.{QueryKind}
use Rattle.cal_ql.specs.declared.kind.QueryKind.TheVariants.{BadToken, OpenQuote}
use Rattle.cal_ql.specs.declared.token.Sign as signs
use Rattle.cal_ql.specs.declared.token.Keyword as keywords
use Rattle.cal_ql.specs.Names.{keyword_of}
use Rattle.cal_ql.specs.Signs.{sign_at, sign_text}

pub data Token : Type 0 where
  key : keywords.Keyword → Token
  word : List ℕ → Token
  quoted : List ℕ → Token
  sign : signs.Sign → Token

-- what is wrong, and at which byte
pub record Fault : Type 0 where
  pub place : ℕ
  pub kind : QueryKind

-- The tokens of a text in order, up to its end, or up to what begins no token.
pub data Tokens : Type 0 where
  end : (place : ℕ) → Tokens
  broken : Fault → Tokens
  token : (place : ℕ) → Token → Tokens → Tokens

-- tokens are separated by these where needed
abbrev pub is_blank : ℕ → Bool
is_blank byte = list_any (λ blank. blank == byte) (codes " \t\n")

-- a byte of a word: an ASCII letter or digit, one of some marks, or a part of a character past
-- ASCII
abbrev pub is_word_byte : ℕ → Bool
is_word_byte byte =
    is_ascii_alphanumeric byte || list_any (λ mark. mark == byte) (codes "_.-:#/@")
    || nat_le 128 byte

-- a word is a keyword or a name
abbrev pub word_or_key : List ℕ → Option keywords.Keyword → Token
word_or_key text (Some keyword) = key keyword
word_or_key text None = word text

-- How many bytes stand before the quote that closes a quoted text. A backslash takes the next
-- character with it.
abbrev pub quoted_len : List ℕ → Option ℕ
quoted_len [] = None
quoted_len (byte ∷ []) = if byte == 34 then Some 0 else None
quoted_len (byte ∷ next ∷ bytes) =
    if byte == 34 then Some 0
    else (if byte == 92 then option_map (λ n. 2 + n) (quoted_len bytes)
    else option_map (λ n. 1 + n) (quoted_len (next ∷ bytes)))

-- what stands between quotes, each backslash taken away and the character behind it as it is
abbrev pub unquoted : List ℕ → List ℕ
unquoted [] = []
unquoted (byte ∷ []) = if byte == 92 then [] else byte ∷ []
unquoted (byte ∷ next ∷ bytes) =
    if byte == 92 then next ∷ unquoted bytes else byte ∷ unquoted (next ∷ bytes)

-- A token and how many bytes it takes, or why none begins.
abbrev pub Lexeme : Type 0
Lexeme = Result (Token × ℕ) QueryKind

abbrev pub word_at : List ℕ → Lexeme
word_at text =
    let front = take (prefix_len is_word_byte text) text in
    Ok (word_or_key front (keyword_of front), prefix_len is_word_byte text)

abbrev pub quoted_at : List ℕ → Option ℕ → Lexeme
quoted_at behind None = Err OpenQuote
quoted_at behind (Some n) = Ok (quoted (unquoted (take n behind)), n + 2)

abbrev pub signed : Option signs.Sign → Lexeme
signed None = Err BadToken
signed (Some s) = Ok (sign s, length (sign_text s))

-- the token at the front of a text
unfoldable pub token_at : List ℕ → Lexeme
token_at text =
    if nat_lt 0 (prefix_len is_word_byte text) then word_at text
    else (if starts_with nat_eq text (codes "\"")
    then quoted_at (drop 1 text) (quoted_len (drop 1 text))
    else signed (sign_at text))

-- A token at its place, with the tokens behind so many bytes of it; or what begins none.
abbrev pub tokens_with : ℕ → Lexeme → (ℕ → Tokens) → Tokens
tokens_with place (Err kind) behind = broken (record { place = place; kind = kind })
tokens_with place (Ok found) behind = token place found.0 (behind (found.1 - 1))

-- The tokens of the last bytes of a text of this length, of which the first so many belong to the
-- token before.
unfoldable pub tokens_from : ℕ → List ℕ → ℕ → Tokens
tokens_from whole [] inside = end whole
tokens_from whole (byte ∷ bytes) (suc inside) = tokens_from whole bytes inside
tokens_from whole (byte ∷ bytes) zero =
    if is_blank byte then tokens_from whole bytes 0
    else tokens_with (whole - length (byte ∷ bytes)) (token_at (byte ∷ bytes))
    (λ n. tokens_from whole bytes n)

-- the tokens of a text
abbrev pub tokens_of : List ℕ → Tokens
tokens_of text = tokens_from (length text) text 0

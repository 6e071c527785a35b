-- What the scanner sees (private).
use Rattle.std.specs.Prelude.{◌≡◌, ℕ, ◌<◌, Result, Ok, Err}
use Rattle.cal_ql.specs.declared.kind.QueryKind.{QueryKind}
use Rattle.cal_ql.specs.declared.token.Token as seen
use Rattle.cal_ql.specs.declared.token.Token.TheVariants as seens
use Rattle.cal_ql.specs.Tokens.{Token, key, word, quoted, sign, Lexeme, unquoted}

-- a token of the program as the grammar sees it
abbrev pub token_of : seen.Token → Token
token_of (seens.Key k) = key k
token_of (seens.Word text) = word text.now
token_of (seens.Quoted text) = quoted (unquoted text.now)
token_of (seens.Sign s) = sign s

-- what was found is this token with its length, which isn't 0, or this fault
abbrev pub IsLexeme : Result (seen.Token × ℕ) QueryKind → Lexeme → Type 0
IsLexeme (Ok x) lexeme = (lexeme ≡ Ok (token_of x.0, x.1)) × (0 < x.1)
IsLexeme (Err kind) lexeme = lexeme ≡ Err kind

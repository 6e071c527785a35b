-- Reading tokens from left to right, with the first fault that is met. A token is looked at only
-- when the grammar reaches it.
use Rattle.std.specs.Prelude.{ℕ, zero, suc, Bool, true, false, List, [], ◌∷◌, Option, Some, None, Result, Ok, Err, nat_eq, if◌then◌else◌}
use Rattle.std.specs.Option.{option_map_or}
use Rattle.std.specs.Cmp.Lexicographic.{pointwise}
use Rattle.cal_ql.specs.declared.kind.QueryKind.{QueryKind}
use Rattle.cal_ql.specs.declared.kind.QueryKind.TheVariants.{ExpectedName, ExpectedSign}
use Rattle.cal_ql.specs.declared.token.Sign as signs
use Rattle.cal_ql.specs.declared.token.Sign.TheVariants as signed
use Rattle.cal_ql.specs.declared.token.Keyword as keywords
use Rattle.cal_ql.specs.declared.token.Keyword.TheVariants as keyword
use Rattle.cal_ql.specs.Names.{keyword_name}
use Rattle.cal_ql.specs.Signs.{sign_text}
use Rattle.cal_ql.specs.Tokens.{Token, key, word, quoted, sign, Fault, Tokens, end, broken, token}

-- what is read, and the tokens behind it; or the first fault
abbrev pub Read : Type 0 → Type 0
Read X = Result (X × Tokens) Fault

infixl 10 ◌>>=◌
abbrev pub ◌>>=◌ : {A B : Type 0} → Result A Fault → (A → Result B Fault) → Result B Fault
(Ok x) >>= f = f x
(Err e) >>= f = Err e

-- what is there, or else this fault
abbrev pub or_fault : {A : Type 0} → Option A → Fault → Result A Fault
or_fault None fault = Err fault
or_fault (Some x) fault = Ok x

-- how many tokens there are
abbrev pub count : Tokens → ℕ
count (end place) = 0
count (broken fault) = 0
count (token place t rest) = suc (count rest)

-- The fault at the first of these tokens, which can't be taken: at the end it is at the text's
-- length, and what begins no token is a fault of its own.
unfoldable pub refused : QueryKind → Tokens → Fault
refused kind (end place) = record { place = place; kind = kind }
refused kind (broken fault) = fault
refused kind (token place t rest) = record { place = place; kind = kind }

-- the first token, and those behind it
unfoldable pub first_of : Tokens → Option (Token × Tokens)
first_of (end place) = None
first_of (broken fault) = None
first_of (token place t rest) = Some (t, rest)

abbrev pub behind_this_sign : signs.Sign → Option (Token × Tokens) → Option Tokens
behind_this_sign s (Some (sign t, rest)) =
    if pointwise nat_eq (sign_text t) (sign_text s) then Some rest else None
behind_this_sign s _ = None

abbrev pub behind_this_key : keywords.Keyword → Option (Token × Tokens) → Option Tokens
behind_this_key k (Some (key t, rest)) =
    if pointwise nat_eq (keyword_name t) (keyword_name k) then Some rest else None
behind_this_key k _ = None

-- what stands behind a sign, where it comes first
unfoldable pub behind_sign : signs.Sign → Tokens → Option Tokens
behind_sign s ts = behind_this_sign s (first_of ts)

-- what stands behind a keyword, where it comes first
unfoldable pub behind_key : keywords.Keyword → Tokens → Option Tokens
behind_key k ts = behind_this_key k (first_of ts)

-- a sign that must stand here
unfoldable pub past_sign : signs.Sign → Tokens → Result Tokens Fault
past_sign s ts = or_fault (behind_sign s ts) (refused ExpectedSign ts)

abbrev pub name_first : Tokens → Option (Token × Tokens) → Read (List ℕ)
name_first ts (Some (word text, rest)) = Ok (text, rest)
name_first ts (Some (quoted text, rest)) = Ok (text, rest)
name_first ts _ = Err (refused ExpectedName ts)

-- name: a word that is no keyword, or a quoted text
unfoldable pub name_at : Tokens → Read (List ℕ)
name_at ts = name_first ts (first_of ts)

-- [AS name], or else this name
unfoldable pub header_at : List ℕ → Tokens → Read (List ℕ)
header_at name ts = option_map_or name_at (behind_key keyword.As ts) (Ok (name, ts))

-- {, item}: at most so many items, each behind a comma, and the first has this number
abbrev pub further_within : {X : Type 0} → ℕ → (ℕ → Tokens → Read X) → ℕ → Tokens → Read (List X)
further_within zero item number ts = Ok ([], ts)
further_within (suc most) item number ts =
    option_map_or
    (λ rest. item number rest >>= λ one. further_within most item (suc number) one.1
    >>= λ others. Ok (one.0 ∷ others.0, others.1))
    (behind_sign signed.Comma ts)
    (Ok ([], ts))

-- item {, item}, numbered from 0. There are no more of them than tokens.
unfoldable pub separated : {X : Type 0} → (ℕ → Tokens → Read X) → Tokens → Read (List X)
separated item ts = do
  one ← item 0 ts
  others ← further_within (count one.1) item 1 one.1
  Ok (one.0 ∷ others.0, others.1)

abbrev pub is_end : Tokens → Bool
is_end (end place) = true
is_end (broken fault) = false
is_end (token place t rest) = false

-- Where the fault of a text is: at tokens that stand in no query behind the tokens before them.
use Rattle.std.specs.Prelude.{◌≡◌, ◌⊎◌, ℕ, List, [], ◌∷◌, ◌++◌}
use Rattle.std.specs.Option.{option_map, option_to_list}
use Rattle.cal_ql.specs.declared.kind.QueryKind as kinds
use Rattle.cal_ql.specs.declared.kind.QueryKind.TheVariants.{BadArity, UnknownKernel}
use Rattle.cal_ql.specs.declared.query.Query.{Query}
use Rattle.cal_ql.specs.FirstFault.{HasFault}
use Rattle.cal_ql.specs.Grammar.{Means, Part, The, ◌⨾◌}
use Rattle.cal_ql.specs.Reading.{first_of, refused}
use Rattle.cal_ql.specs.Tokens.{Fault, Token, Tokens, tokens_of}

-- these tokens, one behind the other
abbrev pub Row : List Token → Part
Row [] from to = from ≡ to
Row (t ∷ ts) from to = (The t ⨾ Row ts) from to

-- the first token alone, or none at the end and where no token begins
abbrev pub first_tokens : Tokens → List Token
first_tokens ts = option_to_list (option_map (λ found. found.0) (first_of ts))

abbrev pub IsSome : List Token → Type 0
IsSome [] = ⊥
IsSome (t ∷ ts) = Unit {0}

-- What is found only behind the token at which it is told: a wrong number of arguments, behind the
-- call, and in SELECT a name that is no kernel's, at the parenthesis behind it.
abbrev pub IsLater : kinds.QueryKind → Type 0
IsLater kind = (kind ≡ BadArity) ⊎ (kind ≡ UnknownKernel)

-- A text that begins with these tokens means no query.
abbrev pub BeginNone : List Token → Type 0
BeginNone tokens = (text : List ℕ) (rest : Tokens) (query : Query)
    → Row tokens (tokens_of text) rest → ¬ Means text query

-- Some text begins with these tokens and means a query, or what is wrong with it is found later.
pub record BeginSome (tokens : List Token) : Type 0 where
  pub text : List ℕ
  pub rest : Tokens
  pub row : Row tokens (tokens_of text) rest
  pub says : ((query : Query) × Means text query)
      ⊎ ((fault : Fault) × HasFault text fault × IsLater fault.kind)

-- The fault is at the first of the tokens behind some, which begin a query. The wrong ones begin
-- there, and with them no text means a query; it is the first one alone, unless the fault is found
-- later.
pub record IsFoundAt (ts : Tokens) (fault : Fault) : Type 0 where
  pub before : List Token
  pub here : Tokens
  pub behind : Row before ts here
  pub front : BeginSome before
  pub place : fault ≡ refused fault.kind here
  pub wrong : List Token
  pub rest : Tokens
  pub there : Row wrong here rest
  pub short : (wrong ≡ first_tokens here) ⊎ (IsLater fault.kind × IsSome wrong)
  pub none : IsSome wrong → BeginNone (before ++ wrong)

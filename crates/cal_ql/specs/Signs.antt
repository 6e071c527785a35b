-- The signs of the language.
use Rattle.std.specs.Prelude.{ℕ, List, [], ◌∷◌, Option, codes, find, nat_eq}
use Rattle.std.specs.List.{starts_with}
use Rattle.cal_ql.specs.declared.token.Sign.{Sign}
use Rattle.cal_ql.specs.declared.token.Sign.TheVariants as sign

abbrev pub sign_text : Sign → List ℕ
sign_text sign.Comma = codes ","
sign_text sign.Open = codes "("
sign_text sign.Close = codes ")"
sign_text sign.Star = codes "*"
sign_text sign.Equals = codes "="
sign_text sign.Less = codes "<"
sign_text sign.Greater = codes ">"
sign_text sign.LessEqual = codes "<="
sign_text sign.GreaterEqual = codes ">="

-- the signs, the longest first
abbrev pub every_sign : List Sign
every_sign =
    sign.LessEqual ∷ sign.GreaterEqual ∷ sign.Less ∷ sign.Greater ∷ sign.Comma ∷ sign.Open
    ∷ sign.Close ∷ sign.Star ∷ sign.Equals ∷ []

-- the sign with which a text begins
unfoldable pub sign_at : List ℕ → Option Sign
sign_at text = find (λ s. starts_with nat_eq text (sign_text s)) every_sign

-- Rows of tokens, and what stands first behind them.
use Rattle.std.proofs.Common.{◌≡◌, ◌+◌, List, [], ◌∷◌, ◌++◌, length, refl, sym, ap, subst, ◌∙◌, arith, None, ◌⊎◌}
use Rattle.std.specs.Option.{option_map}
use Rattle.cal_ql.specs.Grammar.{The}
use Rattle.cal_ql.specs.Reading.{count, first_of}
use Rattle.cal_ql.specs.Tokens.{Token, Tokens, sign, token}
use Rattle.cal_ql.specs.declared.token.Sign.TheVariants as signed
use Rattle.cal_ql.proofs.Lists.{first_count}
use Rattle.cal_ql_faults.specs.FaultPlaces.{IsSome, Row}

-- both begin with the same token, or with none
abbrev pub Like : Tokens → Tokens → Type 0
Like a b = option_map (λ (found : Token × Tokens). found.0) (first_of a) ≡ option_map (λ (found : Token × Tokens). found.0) (first_of b)

pub row_append : (a b : List Token) (x y z : Tokens) → Row a x y → Row b y z → Row (a ++ b) x z
row_append [] b x y z same more = subst (λ (t : Tokens). Row b t z) (sym same) more
row_append (t ∷ a) b x y z (m, the, row) more = (m, the, row_append a b m y z row more)

pub row_split : (a b : List Token) (x z : Tokens) → Row (a ++ b) x z → (y : Tokens) × Row a x y × Row b y z
row_split [] b x z row = (x, refl, row)
row_split (t ∷ a) b x z (m, the, row) =
    let s = row_split a b m z row in
    (s.0, (m, the, s.1), s.2)

pub row_count : (a : List Token) (x y : Tokens) → Row a x y → count x ≡ length a + count y
row_count [] x y same = omega (arith, ap count same)
row_count (t ∷ a) x y (m, the, row) = omega (arith, first_count x m t the, row_count a m y row)

pub the_like : (t : Token) (x x' m m' : Tokens) → The t x m → The t x' m' → Like x x'
the_like t x x' m m' the the' =
    ap (option_map (λ (found : Token × Tokens). found.0)) the ∙ sym (ap (option_map (λ (found : Token × Tokens). found.0)) the')

-- what begins with one row is alike
pub row_like : (a : List Token) (x y x' y' : Tokens) → IsSome a → Row a x y → Row a x' y' → Like x x'
row_like [] x y x' y' some row row' = absurd some
row_like (t ∷ a) x y x' y' some (m, the, row) (m', the', row') = the_like t x x' m m' the the'

-- what stands before alike tokens, behind the same row, is alike
pub like_before : (a : List Token) (x y x' y' : Tokens) → Row a x y → Row a x' y' → Like y y' → Like x x'
like_before [] x y x' y' same same' like =
    subst (λ (t : Tokens). Like t x') (sym same) (subst (λ (t : Tokens). Like y t) (sym same') like)
like_before (t ∷ a) x y x' y' (m, the, row) (m', the', row') like = the_like t x x' m m' the the'

pub like_wrong : (a w : List Token) (x y z x' y' z' : Tokens) → IsSome w → Row a x y → Row w y z → Row a x' y' → Row w y' z' → Like x x'
like_wrong a w x y z x' y' z' some row more row' more' =
    like_before a x y x' y' row row' (row_like w y z y' z' some more more')

pub append_some : (a b : List Token) → IsSome a → IsSome (a ++ b)
append_some [] b some = absurd some
append_some (t ∷ a) b some = tt

pub append_some_right : (a b : List Token) → IsSome b → IsSome (a ++ b)
append_some_right [] b some = some
append_some_right (t ∷ a) b some = tt

pub led_like : (t : Token) (a b : List Token) (x y x' y' : Tokens) → Row (t ∷ a) x y → Row (t ∷ b) x' y' → Like x x'
led_like t a b x y x' y' (m, the, row) (m', the', row') = the_like t x x' m m' the the'

-- the end of a text, or a closing parenthesis: what looks ahead stops there
abbrev pub Calm : Tokens → Type 0
Calm ts = (first_of ts ≡ None) ⊎ ((rest : Tokens) × The (sign signed.Close) ts rest)

-- tokens with others behind
pub onto : List Token → Tokens → Tokens
onto [] ts = ts
onto (t ∷ before) ts = token 0 t (onto before ts)

pub row_onto : (before : List Token) (ts : Tokens) → Row before (onto before ts) ts
unfolding onto first_of
row_onto [] ts = refl
row_onto (t ∷ before) ts = (onto before ts, refl, row_onto before ts)

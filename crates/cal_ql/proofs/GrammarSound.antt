-- What is read is of the grammar: the parts that every rule has.
use Rattle.std.proofs.Common.{◌≡◌, ◌⊎◌, ℕ, zero, suc, true, List, [], ◌∷◌, Option, Some, None, Ok, refl, sym, ap, subst, ◌∙◌, inl, inr}
use Rattle.std.specs.Prelude.{nat_eq}
use Rattle.std.specs.Option.{option_map_or}
use Rattle.std.specs.Cmp.Lexicographic.{pointwise, bytes_decides}
use Rattle.cal_ql.specs.declared.kind.QueryKind.TheVariants.{ExpectedSign}
use Rattle.cal_ql.specs.declared.token.Sign as signs
use Rattle.cal_ql.specs.declared.token.Sign.TheVariants as signed
use Rattle.cal_ql.specs.declared.token.Keyword as keywords
use Rattle.cal_ql.specs.declared.token.Keyword.TheVariants as keyword
use Rattle.cal_ql.specs.Names.{keyword_name, keyword_of}
use Rattle.cal_ql.specs.Signs.{sign_at, sign_text}
use Rattle.cal_ql.specs.Tokens.{Token, key, word, quoted, sign, Tokens}
use Rattle.cal_ql.specs.Reading.{Read, ◌>>=◌, refused, count, first_of, behind_this_sign, behind_this_key, behind_sign, behind_key, past_sign, name_first, name_at, header_at, further_within, separated}
use Rattle.cal_ql.specs.Grammar.{The, ◌⨾◌, Name, Listed, Header}
use Rattle.cal_ql.proofs.Choices.{chosen}
use Rattle.cal_ql.proofs.Binds.{bind_ok, or_fault_ok, ok_is}

sign_back : (s : signs.Sign) → sign_at (sign_text s) ≡ Some s
unfolding sign_at
sign_back signed.Comma = refl
sign_back signed.Open = refl
sign_back signed.Close = refl
sign_back signed.Star = refl
sign_back signed.Equals = refl
sign_back signed.Less = refl
sign_back signed.Greater = refl
sign_back signed.LessEqual = refl
sign_back signed.GreaterEqual = refl

pub same_sign : (t s : signs.Sign) → pointwise nat_eq (sign_text t) (sign_text s) ≡ true → t ≡ s
same_sign t s e =
    let there : Some t ≡ Some s = sym (sign_back t) ∙ ap sign_at ((bytes_decides (sign_text t) (sign_text s)).0 e) ∙ sign_back s in
    cc

keyword_back : (k : keywords.Keyword) → keyword_of (keyword_name k) ≡ Some k
unfolding keyword_of
keyword_back keyword.Let = refl
keyword_back keyword.Select = refl
keyword_back keyword.Aggregate = refl
keyword_back keyword.Where = refl
keyword_back keyword.Group = refl
keyword_back keyword.Order = refl
keyword_back keyword.By = refl
keyword_back keyword.Format = refl
keyword_back keyword.As = refl
keyword_back keyword.Not = refl
keyword_back keyword.Asc = refl
keyword_back keyword.Desc = refl

pub same_key : (t s : keywords.Keyword) → pointwise nat_eq (keyword_name t) (keyword_name s) ≡ true → t ≡ s
same_key t s e =
    let there : Some t ≡ Some s = sym (keyword_back t) ∙ ap keyword_of ((bytes_decides (keyword_name t) (keyword_name s)).0 e) ∙ keyword_back s in
    cc

-- ---- tokens

sign_first : (s : signs.Sign) (found : Option (Token × Tokens)) (rest : Tokens) → behind_this_sign s found ≡ Some rest → found ≡ Some (sign s, rest)
sign_first s None rest e = absurd cc
sign_first s (Some (key k, behind)) rest e = absurd cc
sign_first s (Some (word text, behind)) rest e = absurd cc
sign_first s (Some (quoted text, behind)) rest e = absurd cc
sign_first s (Some (sign t, behind)) rest e =
    elim (chosen (pointwise nat_eq (sign_text t) (sign_text s)) (Some behind) None (Some rest) e) [
      | inl same ↦ (
          let one : t ≡ s = same_sign t s same.0 in
          let there : Some behind ≡ Some rest = same.1 in
          let end_is : behind ≡ rest = cc in
          cc)
      | inr other ↦ absurd (let none : None ≡ Some rest = other.1 in cc)
    ]

pub sign_found : (s : signs.Sign) (ts rest : Tokens) → behind_sign s ts ≡ Some rest → The (sign s) ts rest
unfolding behind_sign
sign_found s ts rest e = sign_first s (first_of ts) rest e

key_first : (s : keywords.Keyword) (found : Option (Token × Tokens)) (rest : Tokens) → behind_this_key s found ≡ Some rest → found ≡ Some (key s, rest)
key_first s None rest e = absurd cc
key_first s (Some (sign k, behind)) rest e = absurd cc
key_first s (Some (word text, behind)) rest e = absurd cc
key_first s (Some (quoted text, behind)) rest e = absurd cc
key_first s (Some (key t, behind)) rest e =
    elim (chosen (pointwise nat_eq (keyword_name t) (keyword_name s)) (Some behind) None (Some rest) e) [
      | inl same ↦ (
          let one : t ≡ s = same_key t s same.0 in
          let there : Some behind ≡ Some rest = same.1 in
          let end_is : behind ≡ rest = cc in
          cc)
      | inr other ↦ absurd (let none : None ≡ Some rest = other.1 in cc)
    ]

pub key_found : (s : keywords.Keyword) (ts rest : Tokens) → behind_key s ts ≡ Some rest → The (key s) ts rest
unfolding behind_key
key_found s ts rest e = key_first s (first_of ts) rest e

pub past_found : (s : signs.Sign) (ts rest : Tokens) → past_sign s ts ≡ Ok rest → The (sign s) ts rest
unfolding past_sign
past_found s ts rest e = sign_found s ts rest (or_fault_ok (behind_sign s ts) (refused ExpectedSign ts) rest e)

name_found_first : (ts : Tokens) (found : Option (Token × Tokens)) (name : List ℕ) (rest : Tokens) → name_first ts found ≡ Ok (name, rest) → (found ≡ Some (word name, rest)) ⊎ (found ≡ Some (quoted name, rest))
name_found_first ts None name rest e = absurd cc
name_found_first ts (Some (key k, behind)) name rest e = absurd cc
name_found_first ts (Some (sign s, behind)) name rest e = absurd cc
name_found_first ts (Some (word text, behind)) name rest e = inl (ap (λ (x : List ℕ × Tokens). Some (word x.0, x.1)) (ok_is (text, behind) (name, rest) e))
name_found_first ts (Some (quoted text, behind)) name rest e = inr (ap (λ (x : List ℕ × Tokens). Some (quoted x.0, x.1)) (ok_is (text, behind) (name, rest) e))

pub name_found : (ts rest : Tokens) (name : List ℕ) → name_at ts ≡ Ok (name, rest) → Name name ts rest
unfolding name_at
name_found ts rest name e = name_found_first ts (first_of ts) name rest e

header_choice : (without name : List ℕ) (ts rest : Tokens) (o : Option Tokens) → behind_key keyword.As ts ≡ o → option_map_or name_at o (Ok (without, ts)) ≡ Ok (name, rest) → Header without name ts rest
header_choice without name ts rest None is e =
    let same : (without, ts) ≡ (name, rest) = ok_is (without, ts) (name, rest) e in
    inr (ap (λ (x : List ℕ × Tokens). x.0) (sym same), ap (λ (x : List ℕ × Tokens). x.1) same)
header_choice without name ts rest (Some behind) is e = inl (behind, key_found keyword.As ts behind is, name_found behind rest name e)

pub header_found : (without name : List ℕ) (ts rest : Tokens) → header_at without ts ≡ Ok (name, rest) → Header without name ts rest
unfolding header_at
header_found without name ts rest e = header_choice without name ts rest (behind_key keyword.As ts) refl e

-- ---- lists

-- the items behind the first
abbrev pub Followed : {X : Type 0} → (ℕ → X → Tokens → Tokens → Type 0) → ℕ → List X → Tokens → Tokens → Type 0
Followed part number [] from to = from ≡ to
Followed part number (x ∷ xs) from to = (The (sign signed.Comma) ⨾ Listed part number (x ∷ xs)) from to

pub listed_cons : {X : Type 0} (part : ℕ → X → Tokens → Tokens → Type 0) (number : ℕ) (x : X) (xs : List X) (from middle to : Tokens) → part number x from middle → Followed part (suc number) xs middle to → Listed part number (x ∷ xs) from to
listed_cons part number x [] from middle to first others = subst (λ (end_ : Tokens). part number x from end_) others first
listed_cons part number x (y ∷ xs) from middle to first others = (middle, first, others)

further_choice : {X : Type 0} (part : ℕ → X → Tokens → Tokens → Type 0) (n : ℕ) (ts rest : Tokens) (xs : List X) (go : Tokens → Read (List X))
    → ((behind : Tokens) → The (sign signed.Comma) ts behind → go behind ≡ Ok (xs, rest) → Followed part n xs ts rest)
    → (o : Option Tokens) → behind_sign signed.Comma ts ≡ o → option_map_or go o (Ok ([], ts)) ≡ Ok (xs, rest) → Followed part n xs ts rest
further_choice {X} part n ts rest xs go more None is e =
    subst (λ (x : List X × Tokens). Followed part n x.0 ts x.1) (ok_is ([], ts) (xs, rest) e) refl
further_choice part n ts rest xs go more (Some behind) is e = more behind (sign_found signed.Comma ts behind is) e

module _ {X : Type 0} (part : ℕ → X → Tokens → Tokens → Type 0) (item : ℕ → Tokens → Read X) (each : (n : ℕ) (ts rest : Tokens) (x : X) → item n ts ≡ Ok (x, rest) → part n x ts rest) where
  further_found : (most n : ℕ) (ts rest : Tokens) (xs : List X) → further_within most item n ts ≡ Ok (xs, rest) → Followed part n xs ts rest
  further_found zero n ts rest xs e =
      subst (λ (x : List X × Tokens). Followed part n x.0 ts x.1) (ok_is ([], ts) (xs, rest) e) refl
  further_found (suc most) n ts rest xs e =
      further_choice part n ts rest xs _
      (λ behind comma found.
      let one = bind_ok (item n behind) (λ x. further_within most item (suc n) x.1 >>= λ others. Ok (x.0 ∷ others.0, others.1)) (xs, rest) found in
      let more = bind_ok (further_within most item (suc n) one.0.1) (λ others. Ok (one.0.0 ∷ others.0, others.1)) (xs, rest) one.2 in
      let list = listed_cons part n one.0.0 more.0.0 behind one.0.1 more.0.1 (each n behind one.0.1 one.0.0 one.1) (further_found most (suc n) one.0.1 more.0.1 more.0.0 more.1) in
      let made : Followed part n (one.0.0 ∷ more.0.0) ts more.0.1 = (behind, comma, list) in
      subst (λ (x : List X × Tokens). Followed part n x.0 ts x.1) (ok_is (one.0.0 ∷ more.0.0, more.0.1) (xs, rest) more.2) made)
      (behind_sign signed.Comma ts) refl e

  pub listed_found : (ts rest : Tokens) (xs : List X) → separated item ts ≡ Ok (xs, rest) → Listed part 0 xs ts rest
  unfolding separated
  listed_found ts rest xs e =
      let one = bind_ok (item 0 ts) (λ x. further_within (count x.1) item 1 x.1 >>= λ others. Ok (x.0 ∷ others.0, others.1)) (xs, rest) e in
      let more = bind_ok (further_within (count one.0.1) item 1 one.0.1) (λ others. Ok (one.0.0 ∷ others.0, others.1)) (xs, rest) one.2 in
      let list = listed_cons part 0 one.0.0 more.0.0 ts one.0.1 more.0.1 (each 0 ts one.0.1 one.0.0 one.1) (further_found (count one.0.1) 1 one.0.1 more.0.1 more.0.0 more.1) in
      subst (λ (x : List X × Tokens). Listed part 0 x.0 ts x.1) (ok_is (one.0.0 ∷ more.0.0, more.0.1) (xs, rest) more.2) list

-- What holds of each item that a list reads.
use Rattle.std.proofs.Common.{◌≡◌, ℕ, zero, suc, List, [], ◌∷◌, Option, Some, None, Ok, subst}
use Rattle.std.specs.Option.{option_map_or}
use Rattle.std.specs.List.{AllByRecursion}
use Rattle.cal_ql.specs.declared.token.Sign.TheVariants as signed
use Rattle.cal_ql.specs.Tokens.{Tokens}
use Rattle.cal_ql.specs.Reading.{Read, ◌>>=◌, count, behind_sign, further_within, separated}
use Rattle.cal_ql.proofs.Binds.{bind_ok, ok_is}

further_choice : {X : Type 0} (P : X → Type 0) (found : Option Tokens) (go : Tokens → Read (List X)) (ts rest : Tokens) (xs : List X)
    → ((behind : Tokens) → go behind ≡ Ok (xs, rest) → AllByRecursion P xs) → option_map_or go found (Ok ([], ts)) ≡ Ok (xs, rest) → AllByRecursion P xs
further_choice {X} P None go ts rest xs more e = subst (λ (x : List X × Tokens). AllByRecursion P x.0) (ok_is ([], ts) (xs, rest) e) tt
further_choice P (Some behind) go ts rest xs more e = more behind e

module _ {X : Type 0} (P : X → Type 0) (item : ℕ → Tokens → Read X) (each : (n : ℕ) (ts rest : Tokens) (x : X) → item n ts ≡ Ok (x, rest) → P x) where
  all_further : (most n : ℕ) (ts rest : Tokens) (xs : List X) → further_within most item n ts ≡ Ok (xs, rest) → AllByRecursion P xs
  all_further zero n ts rest xs e = subst (λ (x : List X × Tokens). AllByRecursion P x.0) (ok_is ([], ts) (xs, rest) e) tt
  all_further (suc most) n ts rest xs e =
      further_choice P (behind_sign signed.Comma ts) _ ts rest xs
      (λ behind found.
      let one = bind_ok (item n behind) (λ x. further_within most item (suc n) x.1 >>= λ others. Ok (x.0 ∷ others.0, others.1)) (xs, rest) found in
      let more = bind_ok (further_within most item (suc n) one.0.1) (λ others. Ok (one.0.0 ∷ others.0, others.1)) (xs, rest) one.2 in
      subst (λ (x : List X × Tokens). AllByRecursion P x.0) (ok_is (one.0.0 ∷ more.0.0, more.0.1) (xs, rest) more.2)
      (each n behind one.0.1 one.0.0 one.1, all_further most (suc n) one.0.1 more.0.1 more.0.0 more.1))
      e

  -- each item of a list
  pub all_separated : (ts rest : Tokens) (xs : List X) → separated item ts ≡ Ok (xs, rest) → AllByRecursion P xs
  unfolding separated
  all_separated ts rest xs e =
      let one = bind_ok (item 0 ts) (λ x. further_within (count x.1) item 1 x.1 >>= λ others. Ok (x.0 ∷ others.0, others.1)) (xs, rest) e in
      let more = bind_ok (further_within (count one.0.1) item 1 one.0.1) (λ others. Ok (one.0.0 ∷ others.0, others.1)) (xs, rest) one.2 in
      subst (λ (x : List X × Tokens). AllByRecursion P x.0) (ok_is (one.0.0 ∷ more.0.0, more.0.1) (xs, rest) more.2)
      (each 0 ts one.0.1 one.0.0 one.1, all_further (count one.0.1) 1 one.0.1 more.0.1 more.0.0 more.1)

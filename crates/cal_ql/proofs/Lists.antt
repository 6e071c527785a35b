-- Reading the items of a list.
use Rattle.std.proofs.Common.{◌≡◌, ℕ, zero, suc, ◌<◌, ◌≤◌, List, [], ◌∷◌, ◌++◌, Some, None, Ok, Err, refl, sym, ap, ◌∙◌, append_assoc, arith, ◌-◌, length, inl, inr}
use Rattle.std.specs.Prelude.{nat_eq}
use Rattle.std.specs.Cmp.Lexicographic.{pointwise}
use Rattle.std.proofs.lemmas.List.{append-nil, length-append}
use Rattle.cal_ql.specs.declared.token.Sign.{Sign}
use Rattle.cal_ql.specs.declared.token.Sign.TheVariants as signed
use Rattle.cal_ql.specs.declared.end.QueryEnd.{QueryEnd}
use Rattle.cal_ql.specs.declared.end.QueryEnd.TheVariants as ends
use Rattle.cal_ql.specs.Signs.{sign_text}
use Rattle.cal_ql.specs.Steps.{Fails}
use Rattle.cal_ql.proofs.Choices.{chosen}
use Rattle.cal_ql.specs.Tokens.{Token, Fault, Tokens, end, broken, token, key, word, quoted, sign}
use Rattle.cal_ql.specs.Reading.{Read, ◌>>=◌, count, first_of, behind_sign, further_within, separated}

-- items that were read before
abbrev pub with_front : {X : Type 0} → List X → Read (List X) → Read (List X)
with_front front read = read >>= λ x. Ok (front ++ x.0, x.1)

regroup : {X : Type 0} (front : List X) (x : X) (read : Read (List X)) → with_front front (read >>= λ others. Ok (x ∷ others.0, others.1)) ≡ with_front (front ++ x ∷ []) read
regroup {X} front x (Ok others) = ap (λ (xs : List X). Ok (xs, others.1)) (sym (append_assoc front (x ∷ []) others.0))
regroup front x (Err f) = refl

with_none : {X : Type 0} (read : Read (List X)) → with_front [] read ≡ read
with_none (Ok x) = refl
with_none (Err f) = refl

-- one item more
pub further-more : {X : Type 0} (item : ℕ → Tokens → Read X) (front : List X) (most n : ℕ) (ts behind rest : Tokens) (x : X) → behind_sign signed.Comma ts ≡ Some behind → item n behind ≡ Ok (x, rest)
    → with_front front (further_within (suc most) item n ts) ≡ with_front (front ++ x ∷ []) (further_within most item (suc n) rest)
further-more item front most n ts behind rest x comma found = rw (comma, found) (regroup front x (further_within most item (suc n) rest))

-- a fault
pub further-fault : {X : Type 0} (item : ℕ → Tokens → Read X) (front : List X) (most n : ℕ) (ts behind : Tokens) (f : Fault) → behind_sign signed.Comma ts ≡ Some behind → item n behind ≡ Err f
    → with_front front (further_within (suc most) item n ts) ≡ Err f
further-fault item front most n ts behind f comma found = rw (comma, found) refl

-- no comma
pub further-none : {X : Type 0} (item : ℕ → Tokens → Read X) (front : List X) (most n : ℕ) (ts : Tokens) → behind_sign signed.Comma ts ≡ None
    → with_front front (further_within most item n ts) ≡ Ok (front, ts)
further-none {X} item front zero n ts none = ap (λ (xs : List X). Ok (xs, ts)) (append-nil front)
further-none {X} item front (suc most) n ts none = rw none (ap (λ (xs : List X). Ok (xs, ts)) (append-nil front))

pub first_count : (ts rest : Tokens) (t : Token) → first_of ts ≡ Some (t, rest) → count ts ≡ suc (count rest)
unfolding first_of
first_count (end place) rest t e = absurd cc
first_count (broken fault) rest t e = absurd cc
first_count (token place t' rest') rest t e =
    let same : (t', rest') ≡ (t, rest) = cc in
    ap (λ (x : Token × Tokens). suc (count x.1)) same

sign_count : (s : Sign) (ts behind : Tokens) → behind_sign s ts ≡ Some behind → count ts ≡ suc (count behind)
unfolding behind_sign first_of
sign_count s (end place) behind e = absurd cc
sign_count s (broken fault) behind e = absurd cc
sign_count s (token place (key k) rest) behind e = absurd cc
sign_count s (token place (word text) rest) behind e = absurd cc
sign_count s (token place (quoted text) rest) behind e = absurd cc
sign_count s (token place (sign t) rest) behind e =
    elim (chosen (pointwise nat_eq (sign_text t) (sign_text s)) (Some rest) None (Some behind) e) [
      | inl same ↦ (
          let found : Some rest ≡ Some behind = same.1 in
          let rest_is : rest ≡ behind = cc in
          ap (λ (r : Tokens). suc (count r)) rest_is)
      | inr other ↦ absurd (let none : None ≡ Some behind = other.1 in cc)
    ]

-- ---- the loop over the items

pub separated-fails : {X : Type 0} (e : QueryEnd) (item : ℕ → Tokens → Read X) (ts : Tokens) → Fails e (item 0 ts) → Fails e (separated item ts)
unfolding separated
separated-fails (ends.BadQuery place kind) item ts failed = rw failed refl
separated-fails ends.OutOfMemory item ts failed = tt

pub separated-begins : {X : Type 0} (item : ℕ → Tokens → Read X) (ts rest : Tokens) (x : X) → item 0 ts ≡ Ok (x, rest) → with_front (x ∷ []) (further_within (count rest) item 1 rest) ≡ separated item ts
unfolding separated
separated-begins item ts rest x found = rw found (sym (regroup [] x (further_within (count rest) item 1 rest)) ∙ with_none (further_within (count rest) item 1 rest >>= λ others. Ok (x ∷ others.0, others.1)))

-- what the items so far and those that are left must be
pub record Reads {X : Type 0} (item : ℕ → Tokens → Read X) (front : List X) (ts : Tokens) (total : Read (List X)) : Type 0 where
  pub most : ℕ
  pub enough : count ts ≤ most
  pub all : with_front front (further_within most item (length front) ts) ≡ total

pub Reads-fails : {X : Type 0} (e : QueryEnd) (item : ℕ → Tokens → Read X) (front : List X) (ts behind : Tokens) (total : Read (List X)) → behind_sign signed.Comma ts ≡ Some behind → Fails e (item (length front) behind) → Reads item front ts total → Fails e total
Reads-fails ends.OutOfMemory item front ts behind total comma failed reads = tt
Reads-fails (ends.BadQuery place kind) item front ts behind total comma failed reads =
    let one : (k : ℕ) × (reads.most ≡ suc k) = (reads.most - 1, omega (arith, reads.enough, sign_count signed.Comma ts behind comma)) in
    sym reads.all ∙ rw one.1 (further-fault item front one.0 (length front) ts behind _ comma failed)

pub Reads-more : {X : Type 0} (item : ℕ → Tokens → Read X) (front front' : List X) (ts behind rest : Tokens) (x : X) (total : Read (List X)) → behind_sign signed.Comma ts ≡ Some behind → item (length front) behind ≡ Ok (x, rest)
    → front' ≡ front ++ x ∷ [] → count rest < count behind → Reads item front ts total → Reads item front' rest total
Reads-more item front front' ts behind rest x total comma found longer nearer reads =
    let one : (k : ℕ) × (reads.most ≡ suc k) = (reads.most - 1, omega (arith, reads.enough, sign_count signed.Comma ts behind comma)) in
    let counted : length front' ≡ suc (length front) = omega (arith, ap length longer, length-append front (x ∷ [])) in
    record {
      most = one.0;
      enough = omega (arith, reads.enough, one.1, sign_count signed.Comma ts behind comma);
      all = ap (λ (k : ℕ). with_front front' (further_within one.0 item k rest)) counted ∙ ap (λ (f : List _). with_front f (further_within one.0 item (suc (length front)) rest)) longer ∙ sym (further-more item front one.0 (length front) ts behind rest x comma found) ∙ ap (λ (m : ℕ). with_front front (further_within m item (length front) ts)) (sym one.1) ∙ reads.all;
    }

pub Reads-done : {X : Type 0} (item : ℕ → Tokens → Read X) (front : List X) (ts : Tokens) (total : Read (List X)) → behind_sign signed.Comma ts ≡ None → Reads item front ts total → total ≡ Ok (front, ts)
Reads-done item front ts total none reads = sym reads.all ∙ further-none item front reads.most (length front) ts none

-- What each item of a list gives, as a loop goes on.
use Rattle.std.proofs.Common.{◌≡◌, ℕ, suc, ◌+◌, ◌≤◌, List, [], ◌∷◌, ◌++◌, length, take, drop, Some, refl, sym, ap, ◌∙◌, subst}
use Rattle.std.specs.Prelude.{slice_get, Result, Ok, Err}
use Rattle.std.proofs.lemmas.List.{take-append-drop, take_all}
use Rattle.cal_line.specs.FirstFault.{◌>>=◌}
use Rattle.cal_read.specs.Fields.{each}
use Rattle.cal_read.specs.Steps.{Answers, AnswersFor}
use Rattle.cal_read.specs.declared.end.LineEnd as ends
use Rattle.cal_read.specs.declared.end.LineEnd.TheVariants as end
use Rattle.cal_read.specs.declared.kind.StreamKind.{StreamKind}
use Rattle.cal_read.proofs.ListLemmas.{drop_at, take_at}

module _ {A B : Type 0} (f : A → Result B StreamKind) where
  joins : (first : B) (p q : Result (List B) StreamKind)
      → ((p >>= (λ a. q >>= (λ b. Ok (a ++ b)))) >>= (λ more. Ok (first ∷ more))) ≡ ((p >>= (λ more. Ok (first ∷ more))) >>= (λ a. q >>= (λ b. Ok (a ++ b))))
  joins first (Err k) q = refl
  joins first (Ok a) (Err k) = refl
  joins first (Ok a) (Ok b) = refl

  alone : (q : Result (List B) StreamKind) → q ≡ (q >>= (λ b. Ok ([] ++ b)))
  alone (Err k) = refl
  alone (Ok b) = refl

  pub each-append : (xs ys : List A) → each f (xs ++ ys) ≡ (each f xs >>= (λ a. each f ys >>= (λ b. Ok (a ++ b))))
  each-append [] ys = alone (each f ys)
  each-append (z ∷ xs) ys =
      elim (f z) as (λ o. (o >>= (λ first. each f (xs ++ ys) >>= (λ more. Ok (first ∷ more))))
      ≡ ((o >>= (λ first. each f xs >>= (λ more. Ok (first ∷ more)))) >>= (λ a. each f ys >>= (λ b. Ok (a ++ b))))) [
        | Err kind ↦ refl
        | Ok first ↦ ap (λ r. r >>= (λ more. Ok (first ∷ more))) (each-append xs ys) ∙ joins first (each f xs) (each f ys)
      ]

  pub each-push : (xs : List A) (x : A) (ys : List B) (y : B) → each f xs ≡ Ok ys → f x ≡ Ok y → each f (xs ++ x ∷ []) ≡ Ok (ys ++ y ∷ [])
  each-push xs x ys y h e = each-append xs (x ∷ []) ∙ rw (h, e) refl

  pub each-stops : (xs : List A) (x : A) (more : List A) (ys : List B) (k : StreamKind) → each f xs ≡ Ok ys → f x ≡ Err k → each f (xs ++ x ∷ more) ≡ Err k
  each-stops xs x more ys k h e = each-append xs (x ∷ more) ∙ rw (h, e) refl

  -- at a place of a list
  module _ (xs : List A) (i : ℕ) (x : A) (at : slice_get xs i ≡ Some x) (ys : List B) (h : each f (take i xs) ≡ Ok ys) where
    pub each_at : (y : B) → f x ≡ Ok y → each f (take (i + 1) xs) ≡ Ok (ys ++ y ∷ [])
    each_at y e = ap (each f) (take_at xs i x at) ∙ each-push (take i xs) x ys y h e

    pub each_falls : (k : StreamKind) → f x ≡ Err k → each f xs ≡ Err k
    each_falls k e =
        ap (each f) (sym (take-append-drop i xs) ∙ ap (λ r. take i xs ++ r) (drop_at xs i x at))
        ∙ each-stops (take i xs) x (drop (i + 1) xs) ys k h e

  -- an item that isn't answered
  pub each_err : {C : Type 0} (P : C → List B → Type 0) (xs : List A) (i : ℕ) (x : A) → slice_get xs i ≡ Some x → (ys : List B) → each f (take i xs) ≡ Ok ys
      → (e : ends.LineEnd) → Answers {A = B} (Err e) (f x) → AnswersFor P (Err e) (each f xs)
  each_err P xs i x at ys h (end.Bad k) is = each_falls xs i x at ys h k is
  each_err P xs i x at ys h end.OutOfMemory is = tt

  pub each_all : (xs : List A) (i : ℕ) (ys : List B) → length xs ≤ i → each f (take i xs) ≡ Ok ys → each f xs ≡ Ok ys
  each_all xs i ys past h = ap (each f) (sym (take_all i xs past)) ∙ h

  length_more : (n : ℕ) (first : B) (p : Result (List B) StreamKind) (ys : List B) → ((zs : List B) → p ≡ Ok zs → length zs ≡ n)
      → (p >>= (λ more. Ok (first ∷ more))) ≡ Ok ys → length ys ≡ suc n
  length_more n first (Err k) ys h e = cc
  length_more n first (Ok zs) ys h e = let same : (first ∷ zs) ≡ ys = cc in subst (λ l. length l ≡ suc n) same (ap suc (h zs refl))

  count_first : (n : ℕ) (o : Result B StreamKind) (p : Result (List B) StreamKind) (ys : List B) → ((zs : List B) → p ≡ Ok zs → length zs ≡ n)
      → (o >>= (λ first. p >>= (λ more. Ok (first ∷ more)))) ≡ Ok ys → length ys ≡ suc n
  count_first n (Err k) p ys h e = cc
  count_first n (Ok first) p ys h e = length_more n first p ys h e

  -- as many as there are items
  pub each-length : (xs : List A) (ys : List B) → each f xs ≡ Ok ys → length ys ≡ length xs
  each-length [] ys h = let same : [] ≡ ys = cc in subst (λ l. length l ≡ 0) same refl
  each-length (z ∷ xs) ys h = count_first (length xs) (f z) (each f xs) ys (λ zs g. each-length xs zs g) h

-- Lines that go on behind lines, and the first fault among them.
use Rattle.std.proofs.Common.{◌≡◌, ℕ, zero, suc, ◌-◌, ◌<◌, ◌≤◌, List, [], ◌∷◌, ◌++◌, take, drop, refl, sym, ap, ◌∙◌, arith, inl, inr}
use Rattle.std.specs.Prelude.{Result, Ok, Err}
use Rattle.std.proofs.lemmas.Bool.{cases_order}
use Rattle.std.proofs.lemmas.List.{take-append-drop, take-take}
use Rattle.cal_line.specs.FirstFault.{◌>>=◌, after_lines, IsFirstFault}

-- the next line joins those that were read
pub take_next : {A : Type 0} (n : ℕ) (lines : List A) (line : A) (rest : List A) → drop n lines ≡ line ∷ rest → (take (suc n) lines ≡ take n lines ++ line ∷ []) × (drop (suc n) lines ≡ rest)
take_next zero [] line rest left = absurd cc
take_next zero (first ∷ lines) line rest left = (cc, cc)
take_next (suc n) [] line rest left = absurd cc
take_next (suc n) (first ∷ lines) line rest left = let next = take_next n lines line rest left in (ap (λ x. first ∷ x) next.0, next.1)

module _ {S K : Type 0} (step : S → List ℕ → Result S K) where
  -- lines behind lines
  pub after_lines-append : (start : S) (front back : List (List ℕ)) → after_lines step start (front ++ back) ≡ (after_lines step start front >>= (λ next. after_lines step next back))
  after_lines-append start [] back = refl
  after_lines-append start (line ∷ front) back =
      elim (step start line) as (λ o. (o >>= (λ next. after_lines step next (front ++ back))) ≡ ((o >>= (λ next. after_lines step next front)) >>= (λ next. after_lines step next back))) [
        | Err kind ↦ refl
        | Ok next ↦ after_lines-append next front back
      ]

  -- lines that have a fault have it too where more lines follow
  pub stays_fallen : (start : S) (front back : List (List ℕ)) (kind : K) → after_lines step start front ≡ Err kind → after_lines step start (front ++ back) ≡ Err kind
  stays_fallen start front back kind falls = after_lines-append start front back ∙ rw falls refl

  -- Lines that have a fault fall at one of them, before which they stand.
  pub record FallsAt (start : S) (lines : List (List ℕ)) (kind : K) : Type 0 where
    pub place : ℕ
    pub before : S
    pub stands : after_lines step start (take place lines) ≡ Ok before
    pub falls : after_lines step start (take (suc place) lines) ≡ Err kind

  falls_behind : (start : S) (line : List ℕ) (lines : List (List ℕ)) (kind : K) (made : Result S K)
      → step start line ≡ made → (made >>= (λ next. after_lines step next lines)) ≡ Err kind
      → ((next : S) → after_lines step next lines ≡ Err kind → FallsAt next lines kind)
      → FallsAt start (line ∷ lines) kind
  falls_behind start line lines kind (Err other) is falls more =
      record { place = 0; before = start; stands = refl; falls = rw is falls }
  falls_behind start line lines kind (Ok next) is falls more =
      let fault = more next falls in
      record { place = suc fault.place; before = fault.before; stands = rw is fault.stands; falls = rw is fault.falls }

  falls_at : (start : S) (lines : List (List ℕ)) (kind : K) → after_lines step start lines ≡ Err kind → FallsAt start lines kind
  falls_at start [] kind falls = absurd cc
  falls_at start (line ∷ lines) kind falls =
      falls_behind start line lines kind (step start line) refl falls (λ next. falls_at next lines kind)

  less_one : (n : ℕ) → suc n - 1 ≡ n
  less_one n = omega arith

  -- lines with a fault have a first one
  pub has_first : (start : S) (lines : List (List ℕ)) (kind : K) → after_lines step start lines ≡ Err kind → (line : ℕ) × IsFirstFault step start lines line kind
  has_first start lines kind falls =
      let fault = falls_at start lines kind falls in
      (suc fault.place, record { before = fault.before; stands = rw (less_one fault.place) fault.stands; falls = fault.falls })

  -- a front with a fault is within each longer front
  fronts_fall : (start : S) (lines : List (List ℕ)) (m n : ℕ) (kind : K) → m ≤ n → after_lines step start (take m lines) ≡ Err kind → after_lines step start (take n lines) ≡ Err kind
  fronts_fall start lines m n kind le falls =
      let longer : take m lines ++ drop m (take n lines) ≡ take n lines =
      ap (λ front. front ++ drop m (take n lines)) (sym (take-take m n lines le)) ∙ take-append-drop m (take n lines) in
      rw (sym longer) (stays_fallen start (take m lines) (drop m (take n lines)) kind falls)

  -- lines with a first fault have it
  pub falls_whole : (start : S) (lines : List (List ℕ)) (line : ℕ) (kind : K) → IsFirstFault step start lines line kind → after_lines step start lines ≡ Err kind
  falls_whole start lines line kind fault =
      ap (after_lines step start) (sym (take-append-drop line lines)) ∙ stays_fallen start (take line lines) (drop line lines) kind fault.falls

  one_kind : (start : S) (lines : List (List ℕ)) (kind other : K) → after_lines step start lines ≡ Err kind → after_lines step start lines ≡ Err other → kind ≡ other
  one_kind start lines kind other e f = cc

  -- no front that stands has a fault
  not_later : (start : S) (lines : List (List ℕ)) (m n : ℕ) (kind other : K) → IsFirstFault step start lines m kind → IsFirstFault step start lines n other → m < n → ⊥
  not_later start lines m n kind other first second lt =
      let falls = fronts_fall start lines m (n - 1) kind (omega arith) first.falls in
      let stands = second.stands in
      absurd cc

  -- lines have one first fault
  pub one_first : (start : S) (lines : List (List ℕ)) (m n : ℕ) (kind other : K) → IsFirstFault step start lines m kind → IsFirstFault step start lines n other → (m ≡ n) × (kind ≡ other)
  one_first start lines m n kind other first second = (
    elim (cases_order m n) [
      | inl same ↦ same
      | inr apart ↦ elim apart [
        | inl less ↦ absurd (not_later start lines m n kind other first second less)
        | inr more ↦ absurd (not_later start lines n m other kind second first more)
      ]
    ],
    one_kind start lines kind other (falls_whole start lines m kind first) (falls_whole start lines n other second),
  )

  makes_by : (start : S) (lines : List (List ℕ)) → ((line : ℕ) (kind : K) → ¬ IsFirstFault step start lines line kind) → (found : Result S K) → after_lines step start lines ≡ found → (made : S) × (after_lines step start lines ≡ Ok made)
  makes_by start lines no_fault (Ok made) is = (made, is)
  makes_by start lines no_fault (Err kind) is = let fault = has_first start lines kind is in absurd (no_fault fault.0 kind fault.1)

  -- lines without a first fault make something
  pub makes : (start : S) (lines : List (List ℕ)) → ((line : ℕ) (kind : K) → ¬ IsFirstFault step start lines line kind) → (made : S) × (after_lines step start lines ≡ Ok made)
  makes start lines no_fault = makes_by start lines no_fault (after_lines step start lines) refl

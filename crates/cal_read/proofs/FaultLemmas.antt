-- A line more: what it makes, or the first fault that it is.
use Rattle.std.proofs.Common.{◌≡◌, ℕ, ◌+◌, ◌-◌, List, [], ◌∷◌, ◌++◌, length, refl, sym, ap, ◌∙◌, arith, inl, inr}
use Rattle.std.specs.Prelude.{Result, Ok, Err}
use Rattle.std.proofs.lemmas.Bool.{cases_lt}
use Rattle.std.proofs.lemmas.List.{take_all, take_at, take-append-le, length-append}
use Rattle.cal_line.specs.FirstFault.{after_lines, IsFirstFault}
use Rattle.cal_line.proofs.FirstFaults.{after_lines-append}

module _ {S K : Type 0} (step : S → List ℕ → Result S K) where
  pub after_push : (start : S) (lines : List (List ℕ)) (line : List ℕ) (s next : S) → after_lines step start lines ≡ Ok s → step s line ≡ Ok next
      → after_lines step start (lines ++ line ∷ []) ≡ Ok next
  after_push start lines line s next made e = after_lines-append step start lines (line ∷ []) ∙ rw (made, e) refl

  pub falls_push : (start : S) (lines : List (List ℕ)) (line : List ℕ) (s : S) (k : K) → after_lines step start lines ≡ Ok s → step s line ≡ Err k
      → after_lines step start (lines ++ line ∷ []) ≡ Err k
  falls_push start lines line s k made e = after_lines-append step start lines (line ∷ []) ∙ rw (made, e) refl

  count-less : (n : ℕ) → (n + 1) - 1 ≡ n
  count-less n = omega arith

  -- the line behind lines that stand is their first fault
  pub fault_push : (start : S) (lines : List (List ℕ)) (line : List ℕ) (s : S) (k : K) → after_lines step start lines ≡ Ok s → step s line ≡ Err k
      → IsFirstFault step start (lines ++ line ∷ []) (length lines + 1) k
  fault_push start lines line s k made e = record {
    before = s;
    stands = rw (count-less (length lines)) (ap (after_lines step start) (take_at lines (line ∷ []) (length lines) refl) ∙ made);
    falls = ap (after_lines step start) (take_all (length lines + 1) (lines ++ line ∷ []) (omega (arith, length-append lines (line ∷ [])))) ∙ falls_push start lines line s k made e;
  }

  contradicts : (r : Result S K) (s : S) (k : K) → r ≡ Ok s → r ≡ Err k → ⊥
  contradicts r s k e f = cc

  -- the first fault of lines stays it where more lines follow
  pub fault_more : (start : S) (lines more : List (List ℕ)) (line : ℕ) (k : K) → IsFirstFault step start lines line k → IsFirstFault step start (lines ++ more) line k
  fault_more start lines more line k fault =
      elim (cases_lt (length lines) line) [
        | inl past ↦ absurd (contradicts (after_lines step start lines) fault.before k
            (ap (after_lines step start) (sym (take_all (line - 1) lines (omega arith))) ∙ fault.stands)
            (ap (after_lines step start) (sym (take_all line lines (omega arith))) ∙ fault.falls))
        | inr within ↦ record {
          before = fault.before;
          stands = ap (after_lines step start) (take-append-le (line - 1) lines more (omega arith)) ∙ fault.stands;
          falls = ap (after_lines step start) (take-append-le line lines more within) ∙ fault.falls;
        }
      ]

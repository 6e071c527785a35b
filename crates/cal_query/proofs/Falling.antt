-- A fault among the lines that have ended is the fault of every input that goes on with them.
use Rattle.std.proofs.Common.{◌≡◌, ℕ, ◌-◌, ◌<◌, ◌≤◌, ◌⊎◌, Bool, true, false, List, [], ◌∷◌, ◌++◌, length, take, refl, sym, ap, subst, ◌∙◌, arith, inl, inr}
use Rattle.std.specs.Prelude.{◌==◌, Result, Ok, Err}
use Rattle.std.specs.List.{onto_first}
use Rattle.std.proofs.Math.ListN.{drop_of_length-le}
use Rattle.std.proofs.lemmas.Bool.{cases_lt}
use Rattle.std.proofs.lemmas.List.{append-nil, take-append-drop, take-append-le}
use Rattle.cal_line.specs.FirstFault.{after_lines, IsFirstFault}
use Rattle.cal_line.specs.Lines.{lines_of}
use Rattle.cal_read.specs.Cuts.{ended_lines, onto_ended}
use Rattle.cal_read.specs.Stream.{IsFault, line_step, no_lines}
use Rattle.cal_read.specs.declared.kind.StreamKind.{StreamKind}

either_way : (b : Bool) → (b ≡ true) ⊎ (b ≡ false)
either_way true = inl refl
either_way false = inr refl

-- a byte before lines of which the first have ended
onto_front : (byte : ℕ) (lines ended more : List (List ℕ)) → lines ≡ ended ++ more
    → (rest : List (List ℕ)) × (onto_first byte lines ≡ onto_ended byte ended ++ rest)
onto_front byte lines [] more e = (onto_first byte lines, refl)
onto_front byte lines (line ∷ ended) more e = (more, ap (onto_first byte) e)

-- the lines that have ended come first, whatever follows
ended_front : (bytes more : List ℕ)
    → (rest : List (List ℕ)) × (lines_of (bytes ++ more) ≡ ended_lines bytes ++ rest)
ended_front [] more = (lines_of more, refl)
ended_front (byte ∷ bytes) more =
    let behind = ended_front bytes more in
    elim (either_way (byte == 10)) [
      | inl newline ↦ (behind.0, rw newline (ap (λ (ls : List (List ℕ)). [] ∷ ls) behind.1))
      | inr other ↦ (
          let onto = onto_front byte (lines_of (bytes ++ more)) (ended_lines bytes) behind.0 behind.1 in
          (onto.0, rw other onto.1))
    ]

-- so many items as there are, or more
take_all : {A : Type 0} (n : ℕ) (xs : List A) → length xs ≤ n → take n xs ≡ xs
take_all n xs le =
    sym (append-nil (take n xs)) ∙ ap (λ rest. take n xs ++ rest) (sym (drop_of_length-le xs le))
    ∙ take-append-drop n xs

module _ {S K : Type 0} (step : S → List ℕ → Result S K) (start : S) where
  -- a first fault is at one of the lines
  fault_within : (lines : List (List ℕ)) (line : ℕ) (kind : K)
      → IsFirstFault step start lines line kind → line ≤ length lines
  fault_within lines line kind fault =
      elim (cases_lt (length lines) line) [
        | inl past ↦ absurd (
            let whole : take line lines ≡ lines = take_all line lines (omega arith) in
            let too : take (line - 1) lines ≡ lines = take_all (line - 1) lines (omega arith) in
            let stands = rw too at fault.stands in
            let falls = rw whole at fault.falls in
            cc)
        | inr within ↦ within
      ]

  fault_stays : (lines more : List (List ℕ)) (line : ℕ) (kind : K)
      → IsFirstFault step start lines line kind → IsFirstFault step start (lines ++ more) line kind
  fault_stays lines more line kind fault =
      let within = fault_within lines line kind fault in
      record {
        before = fault.before;
        stands = rw (take-append-le (line - 1) lines more (omega (arith, within))) fault.stands;
        falls = rw (take-append-le line lines more within) fault.falls;
      }

-- whatever follows
pub falls_on : (bytes more : List ℕ) (line : ℕ) (kind : StreamKind)
    → IsFirstFault line_step no_lines (ended_lines bytes) line kind
    → IsFault (bytes ++ more) line kind
falls_on bytes more line kind fault =
    let front = ended_front bytes more in
    subst (λ (ls : List (List ℕ)). IsFirstFault line_step no_lines ls line kind) (sym front.1)
    (fault_stays line_step no_lines (ended_lines bytes) front.0 line kind fault)

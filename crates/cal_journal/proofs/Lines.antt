-- Lines that are read one after another by a step.
use Rattle.std.proofs.Common.{◌≡◌, ℕ, suc, ◌+◌, ◌-◌, ◌≤◌, List, [], ◌∷◌, ◌++◌, length, take, drop, refl, sym, ap, ◌∙◌, add-one, arith}
use Rattle.std.specs.Prelude.{Result, Ok, Err}
use Rattle.std.proofs.lemmas.List.{take-append-drop, take-take, append-nil, nil_from_length}
use Rattle.cal_line.specs.FirstFault.{◌>>=◌, after_lines, IsFirstFault}
use Rattle.cal_line.proofs.FirstFaults.{take_next, after_lines-append}
use Rattle.cal_script.specs.Lines.{lines_of}

module _ {S K : Type 0} (step : S → List ℕ → Result S K) (start : S) where
  one_line : (found : Result S K) → (found >>= (λ next. Ok next)) ≡ found
  one_line (Ok next) = refl
  one_line (Err kind) = refl

  -- So many of the lines are read, and the rest has the others.
  pub record IsPart (lines : List (List ℕ)) (count : ℕ) (state : S) (rest : List ℕ) : Type 0 where
    pub said : after_lines step start (take count lines) ≡ Ok state
    pub left : drop count lines ≡ lines_of rest
    pub counted : count + length (lines_of rest) ≡ length lines

  module _ (lines : List (List ℕ)) (count : ℕ) (state : S) (rest : List ℕ) (part : IsPart lines count state rest) where
    part_next : (first after : List ℕ) → lines_of rest ≡ first ∷ lines_of after → after_lines step start (take (count + 1) lines) ≡ step state first
    part_next first after cut =
        let next = take_next count lines first (lines_of after) (part.left ∙ cut) in
        rw (add-one, next.0)
        (after_lines-append step start (take count lines) (first ∷ [])
        ∙ ap (λ (o : Result S K). o >>= (λ before. step before first >>= (λ now. Ok now))) part.said
        ∙ one_line (step state first))

    pub part_on : (first after : List ℕ) (now : S) → lines_of rest ≡ first ∷ lines_of after → step state first ≡ Ok now → IsPart lines (count + 1) now after
    part_on first after now cut says = record {
      said = part_next first after cut ∙ says;
      left = rw add-one ((take_next count lines first (lines_of after) (part.left ∙ cut)).1);
      counted = (let longer : length (lines_of rest) ≡ suc (length (lines_of after)) = ap length cut in omega (arith, part.counted));
    }

    pub part_falls : (first after : List ℕ) (kind : K) → lines_of rest ≡ first ∷ lines_of after → step state first ≡ Err kind → IsFirstFault step start lines (count + 1) kind
    part_falls first after kind cut falls =
        let back : (count + 1) - 1 ≡ count = omega arith in
        record { before = state; stands = rw back part.said; falls = part_next first after cut ∙ falls }

    pub part_ends : length rest ≡ 0 → (after_lines step start lines ≡ Ok state) × (count ≡ length lines)
    part_ends none =
        let nothing : lines_of rest ≡ [] = ap lines_of (nil_from_length rest none) in
        let all : take count lines ≡ lines = sym (append-nil (take count lines)) ∙ ap (λ (x : List (List ℕ)). take count lines ++ x) (sym (part.left ∙ nothing)) ∙ take-append-drop count lines in
        (sym (ap (after_lines step start) all) ∙ part.said, (let short : length (lines_of rest) ≡ 0 = ap length nothing in omega (arith, part.counted)))

  -- a first fault within a front of the lines is one of the front
  pub fault_in_front : (lines : List (List ℕ)) (line count : ℕ) (kind : K) → line ≤ count → IsFirstFault step start lines line kind → IsFirstFault step start (take count lines) line kind
  fault_in_front lines line count kind le fault = record {
    before = fault.before;
    stands = rw (take-take (line - 1) count lines (omega arith)) fault.stands;
    falls = rw (take-take line count lines le) fault.falls;
  }

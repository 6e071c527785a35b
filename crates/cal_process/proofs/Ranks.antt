-- The process lines of a thread, counted in line order.
use Rattle.std.proofs.Common.{◌≡◌, ℕ, zero, suc, ◌+◌, ◌-◌, ◌<◌, ◌≤◌, ◌==◌, max, Bool, true, false}
use Rattle.std.proofs.Common.{if◌then◌else◌, List, [], ◌∷◌, take, refl, ap, ◌∙◌}
use Rattle.std.proofs.Common.{arith}
use Rattle.std.specs.Prelude.{Option, Some, None, count_by, fold, slice_get, slice_index_or}
use Rattle.std.proofs.lemmas.List.Sums.{sum_by-cons}
use Rattle.cal_context.specs.Tree.{no_attribute}
use Rattle.cal_run.specs.Lawful.{IsKnown, names_process_line}
use Rattle.cal_run.specs.Lines as run
use Rattle.cal_run.specs.Lines.{line_at}
use Rattle.cal_script.specs.Counts as counts
use Rattle.cal_script.specs.Counts.{is_process}
use Rattle.cal_script.specs.Shapes.{greatest, process_lines}
use Rattle.cal_script.specs.declared.script.Line as lines
use Rattle.cal_script.specs.declared.script.Line.TheVariants as line
use Rattle.cal_script.specs.declared.script.Script.{Script}
use Rattle.cal_value.specs.Props.{has_process_scope}
use Rattle.cal_value.specs.declared.attribute.Attribute.{Attribute}

-- ---- the greatest of numbers

fold-max : {X : Type 0} (f : X → ℕ) (most : ℕ) (xs : List X)
    → most ≤ fold (λ most x. max most (f x)) most xs
fold-max f most [] = omega arith
fold-max f most (x ∷ xs) = omega (arith, fold-max f (max most (f x)) xs)

fold-at : {X : Type 0} (f : X → ℕ) (d : X) → f d ≡ 0 → (most : ℕ) (xs : List X) (i : ℕ)
    → f (slice_index_or xs i d) ≤ fold (λ most x. max most (f x)) most xs
fold-at f d none most [] i = omega (arith, none)
fold-at f d none most (x ∷ xs) zero = omega (arith, fold-max f (max most (f x)) xs)
fold-at f d none most (x ∷ xs) (suc i) = fold-at f d none (max most (f x)) xs i

-- no item has more than the greatest number
pub le-greatest : {X : Type 0} (f : X → ℕ) (d : X) → f d ≡ 0 → (xs : List X) (i : ℕ)
    → f (slice_index_or xs i d) ≤ greatest f xs
le-greatest f d none xs i = fold-at f d none 0 xs i

-- ---- how many items before a place pass a test

abbrev counted : Bool → ℕ
counted b = if b then 1 else 0

count-cons : {X : Type 0} (p : X → Bool) (y : X) (ys : List X)
    → count_by p (y ∷ ys) ≡ counted (p y) + count_by p ys
count-cons p y ys = sum_by-cons (λ z. counted (p z)) y ys

-- with an item that passes, more do before a later place than before its own
pub count-rises : {X : Type 0} (p : X → Bool) (xs : List X) (i k : ℕ) (x : X)
    → slice_get xs i ≡ Some x → p x ≡ true → i < k
    → count_by p (take i xs) < count_by p (take k xs)
count-rises p [] i k x at passes less = absurd cc
count-rises p (y ∷ ys) i zero x at passes less = absurd (omega (arith, less))
count-rises p (y ∷ ys) zero (suc k) x at passes less =
    let same : y ≡ x = cc in
    let one : counted (p y) ≡ 1 = ap counted (ap p same ∙ passes) in
    let all = count-cons p y (take k ys) in
    omega (arith, one, all)
count-rises p (y ∷ ys) (suc i) (suc k) x at passes less =
    let rest = count-rises p ys i k x at passes (omega (arith, less)) in
    omega (arith, rest, count-cons p y (take i ys), count-cons p y (take k ys))

-- and than there are before it in all
pub count-inside : {X : Type 0} (p : X → Bool) (xs : List X) (i : ℕ) (x : X)
    → slice_get xs i ≡ Some x → p x ≡ true → count_by p (take i xs) < count_by p xs
count-inside p [] i x at passes = absurd cc
count-inside p (y ∷ ys) zero x at passes =
    let same : y ≡ x = cc in
    let one : counted (p y) ≡ 1 = ap counted (ap p same ∙ passes) in
    let all = count-cons p y ys in
    omega (arith, one, all)
count-inside p (y ∷ ys) (suc i) x at passes =
    let rest = count-inside p ys i x at passes in
    omega (arith, rest, count-cons p y (take i ys), count-cons p y ys)

-- ---- process lines

process-by : (attributes : List Attribute) (a : ℕ)
    → has_process_scope (slice_index_or attributes a no_attribute).props ≡ true
    → is_process (slice_get attributes a) ≡ true
process-by [] a is = absurd cc
process-by (x ∷ xs) zero is = is
process-by (x ∷ xs) (suc a) is = process-by xs a is

module _ (script : Script) where
  -- a process line by what it does is one by its attribute
  pub process-line : (l : lines.Line) → run.is_process_line script l ≡ true
      → counts.is_process_line script.attributes script.values l ≡ true
  process-line (line.Begin a v) is = process-by script.attributes a is
  process-line (line.Set a v) is = process-by script.attributes a is
  process-line (line.End a) is = process-by script.attributes a is
  process-line line.Snapshot is = absurd cc
  process-line (line.Flush c) is = absurd cc
  process-line (line.Tick n) is = absurd cc

  abbrev thread_lines : ℕ → List lines.Line
  thread_lines thread = slice_index_or script.threads thread []

  -- a process line of a thread, by its number from 1
  record IsLine (thread number : ℕ) : Type 0 where
    found : lines.Line
    some : 0 < number
    at : slice_get (thread_lines thread) (number - 1) ≡ Some found
    process : counts.is_process_line script.attributes script.values found ≡ true

  known-line : (thread number : ℕ) (o : Option lines.Line) → 0 < number
      → slice_get (thread_lines thread) (number - 1) ≡ o
      → names_process_line script o ≡ true → IsLine thread number
  known-line thread number None some is known = absurd cc
  known-line thread number (Some l) some is known =
      record { found = l; some = some; at = is; process = process-line l known }

  line-of : (thread number : ℕ) → names_process_line script (line_at script thread number) ≡ true
      → IsLine thread number
  line-of thread number known = by (number == 0) (not-zero number) known
    where
      not-zero : (n : ℕ) → (n == 0) ≡ false → 0 < n
      not-zero zero e = absurd cc
      not-zero (suc n) e = omega arith

      by : (b : Bool) → (b ≡ false → 0 < number)
          → names_process_line script
          (if b then None else slice_get (thread_lines thread) (number - 1)) ≡ true
          → IsLine thread number
      by true some is = absurd cc
      by false some is =
          known-line thread number (slice_get (thread_lines thread) (number - 1)) (some refl) refl
          is

  -- how many process lines a thread has before a line
  abbrev pub rank : (thread number : ℕ) → ℕ
  rank thread number = process_lines script (take (number - 1) (thread_lines thread))

  pub rank-rises : (thread number later : ℕ)
      → IsKnown script (record { thread = thread; line = number }) → number < later
      → rank thread number < rank thread later
  rank-rises thread number later known less =
      let l = line-of thread number known in
      count-rises (counts.is_process_line script.attributes script.values) (thread_lines thread)
      (number - 1) (later - 1) l.found l.at l.process (omega (arith, l.some, less))

  pub rank-inside : (thread number : ℕ)
      → IsKnown script (record { thread = thread; line = number })
      → rank thread number < greatest (process_lines script) script.threads
  rank-inside thread number known =
      let l = line-of thread number known in
      let few = count-inside (counts.is_process_line script.attributes script.values)
      (thread_lines thread) (number - 1) l.found l.at l.process in
      let most = le-greatest (process_lines script) [] refl script.threads thread in
      omega (arith, few, most)

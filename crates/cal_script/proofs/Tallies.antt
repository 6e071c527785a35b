-- What the limits count of a whole script, line by line, is what its lists say.
use Rattle.std.proofs.Common.{◌≡◌, ℕ, ◌+◌, Bool, true, false, List, [], ◌∷◌, refl, ap, ◌∙◌, arith, zero-add}
use Rattle.std.specs.Prelude.{count_by, fold, if◌then◌else◌, max, sum_by}
use Rattle.std.proofs.lemmas.List.Sums.{sum_by-cons}
use Rattle.cal_script.specs.Counts.{is_process_line, line_words, no_tally, script_tally, tally_lines, tally_threads}
use Rattle.cal_script.specs.Limits.{arena}
use Rattle.cal_script.specs.Shapes.{greatest, own_words, process_lines, shared_words, tree_arena}
use Rattle.cal_script.specs.State.{counted, next_thread}
use Rattle.cal_script.specs.declared.script.Line.{Line}
use Rattle.cal_script.specs.declared.script.Script.{Script}
use Rattle.cal_script.specs.declared.tally.Tally.{Tally}

-- a line adds its words to one of two sums
counted-shared : (process : Bool) (words : ℕ) (tally : Tally)
    → (counted process words tally).shared ≡ tally.shared + (if process then words else 0)
counted-shared true words tally = refl
counted-shared false words tally = omega arith

counted-own : (process : Bool) (words : ℕ) (tally : Tally)
    → (counted process words tally).own ≡ tally.own + (if process then 0 else words)
counted-own true words tally = omega arith
counted-own false words tally = refl

counted-process : (process : Bool) (words : ℕ) (tally : Tally)
    → (counted process words tally).process_lines ≡ tally.process_lines + (if process then 1 else 0)
counted-process true words tally = refl
counted-process false words tally = omega arith

module _ (script : Script) where
  after : Tally → List Line → Tally
  after = tally_lines script.attributes script.values

  with_one : Tally → Line → Tally
  with_one tally l = counted (is_process_line script.attributes script.values l)
      (line_words script.attributes script.values l) tally

  lines-shared : (tally : Tally) (ls : List Line)
      → (tally_lines script.attributes script.values tally ls).shared
      ≡ tally.shared + sum_by (shared_words script) ls
  lines-shared tally [] = omega arith
  lines-shared tally (l ∷ ls) =
      let process : Bool = is_process_line script.attributes script.values l in
      let words : ℕ = line_words script.attributes script.values l in
      omega (
        arith,
        lines-shared (counted process words tally) ls,
        counted-shared process words tally,
        sum_by-cons (shared_words script) l ls,
      )

  lines-own : (tally : Tally) (ls : List Line)
      → (tally_lines script.attributes script.values tally ls).own
      ≡ tally.own + sum_by (own_words script) ls
  lines-own tally [] = omega arith
  lines-own tally (l ∷ ls) =
      let process : Bool = is_process_line script.attributes script.values l in
      let words : ℕ = line_words script.attributes script.values l in
      omega (
        arith,
        lines-own (counted process words tally) ls,
        counted-own process words tally,
        sum_by-cons (own_words script) l ls,
      )

  lines-process : (tally : Tally) (ls : List Line)
      → (tally_lines script.attributes script.values tally ls).process_lines
      ≡ tally.process_lines + process_lines script ls
  lines-process tally [] = omega arith
  lines-process tally (l ∷ ls) =
      let process : Bool = is_process_line script.attributes script.values l in
      let words : ℕ = line_words script.attributes script.values l in
      omega (
        arith,
        lines-process (counted process words tally) ls,
        counted-process process words tally,
        sum_by-cons (λ (m : Line). if is_process_line script.attributes script.values m then 1 else 0) l ls,
      )

  lines-most : (tally : Tally) (ls : List Line)
      → (tally_lines script.attributes script.values tally ls).most ≡ tally.most
  lines-most tally [] = refl
  lines-most tally (l ∷ ls) = lines-most (counted (is_process_line script.attributes script.values l)
      (line_words script.attributes script.values l) tally) ls

  threads-shared : (tally : Tally) (threads : List (List Line))
      → (tally_threads script.attributes script.values tally threads).shared
      ≡ tally.shared + sum_by (sum_by (shared_words script)) threads
  threads-shared tally [] = omega arith
  threads-shared tally (ls ∷ threads) =
      omega (
        arith,
        threads-shared (tally_lines script.attributes script.values (next_thread tally) ls) threads,
        lines-shared (next_thread tally) ls,
        sum_by-cons (sum_by (shared_words script)) ls threads,
      )

  threads-process : (tally : Tally) (threads : List (List Line))
      → (tally_threads script.attributes script.values tally threads).process_lines
      ≡ tally.process_lines + sum_by (process_lines script) threads
  threads-process tally [] = omega arith
  threads-process tally (ls ∷ threads) =
      omega (
        arith,
        threads-process (tally_lines script.attributes script.values (next_thread tally) ls) threads,
        lines-process (next_thread tally) ls,
        sum_by-cons (process_lines script) ls threads,
      )

  -- the most words of one thread's nodes, the last one's too
  most_own : Tally → ℕ
  most_own tally = max tally.most tally.own

  lines-most_own : (tally : Tally) (ls : List Line)
      → max (tally_lines script.attributes script.values (next_thread tally) ls).most
      (tally_lines script.attributes script.values (next_thread tally) ls).own
      ≡ max (max tally.most tally.own) (sum_by (own_words script) ls)
  lines-most_own tally ls =
      let own = lines-own (next_thread tally) ls ∙ zero-add (sum_by (own_words script) ls) in
      λ i. max (lines-most (next_thread tally) ls i) (own i)

  threads-own : (tally : Tally) (threads : List (List Line))
      → max (tally_threads script.attributes script.values tally threads).most
      (tally_threads script.attributes script.values tally threads).own
      ≡ fold (λ most ls. max most (sum_by (own_words script) ls)) (max tally.most tally.own) threads
  threads-own tally [] = refl
  threads-own tally (ls ∷ threads) =
      threads-own (tally_lines script.attributes script.values (next_thread tally) ls) threads
      ∙ ap (λ n. fold (λ most ls. max most (sum_by (own_words script) ls)) n threads)
      (lines-most_own tally ls)

-- the arena that the limits count is the tree's
pub arena-script_tally : (script : Script) → arena (script_tally script) ≡ tree_arena script
arena-script_tally script =
    let shared = threads-shared script no_tally script.threads
    ∙ zero-add (sum_by (sum_by (shared_words script)) script.threads) in
    λ i. shared i + threads-own script no_tally script.threads i

-- and so are the process lines
pub process_lines-script_tally : (script : Script)
    → (script_tally script).process_lines ≡ sum_by (process_lines script) script.threads
process_lines-script_tally script = threads-process script no_tally script.threads
    ∙ zero-add (sum_by (process_lines script) script.threads)

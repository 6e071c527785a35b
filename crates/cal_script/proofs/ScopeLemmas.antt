-- A script without an attribute of the process has no process line.
use Rattle.std.proofs.Common.{◌≡◌, ℕ, suc, zero, List, [], ◌∷◌, Bool, true, false, ◌||◌}
use Rattle.std.proofs.Common.{ap, refl, arith}
use Rattle.std.specs.Prelude.{if◌then◌else◌, slice_get, sum_by}
use Rattle.std.specs.List.{list_any}
use Rattle.std.proofs.lemmas.List.Sums.{sum_by-cons}
use Rattle.cal_script.proofs.ShapeLemmas.{greatest-sum_by}
use Rattle.cal_script.specs.Counts.{is_process, is_process_line, line_words}
use Rattle.cal_script.specs.Shapes.{greatest, process_lines, shared_words}
use Rattle.cal_script.specs.declared.script.Line.{Line}
use Rattle.cal_script.specs.declared.script.Line.TheVariants as line
use Rattle.cal_script.specs.declared.script.Script.{Script}
use Rattle.cal_value.specs.Props.{has_process_scope}
use Rattle.cal_value.specs.declared.attribute.Attribute.{Attribute}

neither-left : (b c : Bool) → (b || c) ≡ false → b ≡ false
neither-left true c none = cc
neither-left false c none = refl

neither-right : (b c : Bool) → (b || c) ≡ false → c ≡ false
neither-right true c none = cc
neither-right false c none = none

-- whether an attribute is the process's
abbrev pub is_scoped : Attribute → Bool
is_scoped a = has_process_scope a.props

unscoped : (xs : List Attribute) (a : ℕ) → list_any is_scoped xs ≡ false
    → is_process (slice_get xs a) ≡ false
unscoped [] a none = refl
unscoped (x ∷ xs) zero none = neither-left (is_scoped x) (list_any is_scoped xs) none
unscoped (x ∷ xs) (suc a) none =
    unscoped xs a (neither-right (is_scoped x) (list_any is_scoped xs) none)

module _ {X : Type 0} (f : X → ℕ) (nothing : (x : X) → f x ≡ 0) where
  sum-of-nothing : (xs : List X) → sum_by f xs ≡ 0
  sum-of-nothing [] = refl
  sum-of-nothing (x ∷ xs) = omega (arith, sum_by-cons f x xs, nothing x, sum-of-nothing xs)

module _ (script : Script) (none : list_any is_scoped script.attributes ≡ false) where
  no_process_line : (l : Line) → is_process_line script.attributes script.values l ≡ false
  no_process_line (line.Begin a v) = unscoped script.attributes a none
  no_process_line (line.End a) = unscoped script.attributes a none
  no_process_line (line.Set a v) = unscoped script.attributes a none
  no_process_line line.Snapshot = refl
  no_process_line (line.Flush c) = refl
  no_process_line (line.Tick n) = refl

  no_shared : (l : Line) → shared_words script l ≡ 0
  no_shared l =
      ap (λ b. if b then line_words script.attributes script.values l else 0) (no_process_line l)

  -- nor words of nodes that may be any thread's
  pub no_shared_words : sum_by (sum_by (shared_words script)) script.threads ≡ 0
  no_shared_words = sum-of-nothing
      (sum_by (shared_words script))
      (sum-of-nothing (shared_words script) no_shared)
      script.threads

  counts-none : (lines : List Line) → process_lines script lines ≡ 0
  counts-none lines = sum-of-nothing
      (λ (l : Line). if is_process_line script.attributes script.values l then 1 else 0)
      (λ l. ap (λ b. if b then 1 else 0) (no_process_line l))
      lines

  pub no_process_lines : greatest (process_lines script) script.threads ≡ 0
  no_process_lines = omega (
    arith,
    greatest-sum_by (process_lines script) script.threads,
    sum-of-nothing (process_lines script) counts-none script.threads,
  )

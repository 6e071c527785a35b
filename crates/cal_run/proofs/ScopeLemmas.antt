-- A script without an attribute of the process has no process line, so its history is empty.
use Rattle.std.proofs.Common.{◌≡◌, ℕ, suc, zero, ◌+◌, List, [], ◌∷◌, ◌++◌, Bool, true, false, ◌||◌}
use Rattle.std.proofs.Common.{get_or, map, ap, refl, ◌∙◌}
use Rattle.std.specs.Prelude.{flat_map}
use Rattle.std.specs.List.{enumerate_from, list_any}
use Rattle.cal_context.specs.Tree.{no_attribute}
use Rattle.cal_run.proofs.PlainLemmas.{numbers-cons, numbers_from, place}
use Rattle.cal_run.specs.Lines.{is_process_line}
use Rattle.cal_run.specs.Plain.{placed_lines, plain_history}
use Rattle.cal_script.specs.declared.script.Line.{Line}
use Rattle.cal_script.specs.declared.script.Line.TheVariants as line
use Rattle.cal_script.specs.declared.script.Script.{Script}
use Rattle.cal_value.specs.Props.{has_process_scope}
use Rattle.cal_value.specs.declared.attribute.Attribute.{Attribute}

neither-left : (b c : Bool) → (b || c) ≡ false → b ≡ false
neither-left true c none = cc
neither-left false c none = refl

neither-right : (b c : Bool) → (b || c) ≡ false → c ≡ false
neither-right true c none = cc
neither-right false c none = none

-- whether some attribute is the process's
abbrev pub is_scoped : Attribute → Bool
is_scoped a = has_process_scope a.props

unscoped : (xs : List Attribute) (a : ℕ) → list_any is_scoped xs ≡ false
    → is_scoped (get_or xs a no_attribute) ≡ false
unscoped [] a none = refl
unscoped (x ∷ xs) zero none = neither-left (is_scoped x) (list_any is_scoped xs) none
unscoped (x ∷ xs) (suc a) none =
    unscoped xs a (neither-right (is_scoped x) (list_any is_scoped xs) none)

module _ (script : Script) (none : list_any is_scoped script.attributes ≡ false) where
  no_process_line : (l : Line) → is_process_line script l ≡ false
  no_process_line (line.Begin a v) = unscoped script.attributes a none
  no_process_line (line.End a) = unscoped script.attributes a none
  no_process_line (line.Set a v) = unscoped script.attributes a none
  no_process_line line.Snapshot = refl
  no_process_line (line.Flush c) = refl
  no_process_line (line.Tick n) = refl

  no_numbers : (k : ℕ) (ls : List Line) → numbers_from script k ls ≡ []
  no_numbers k [] = refl
  no_numbers k (l ∷ ls) =
      numbers-cons script k l ls false (no_process_line l) ∙ no_numbers (k + 1) ls

  nothing_placed : (i : ℕ) (ts : List (List Line))
      → flat_map (placed_lines script) (enumerate_from i ts) ≡ []
  nothing_placed i [] = refl
  nothing_placed i (t ∷ ts) =
      ap (λ ns. map (place i) ns ++ flat_map (placed_lines script) (enumerate_from (i + 1) ts))
      (no_numbers 1 t)
      ∙ nothing_placed (i + 1) ts

  pub no_history : plain_history script ≡ []
  no_history = nothing_placed 0 script.threads

use Rattle.std.proofs.Common.{◌≡◌, ℕ, List, inl, inr, false, true, refl, length, take, sym, ap, ◌∙◌, arith}
use Rattle.std.specs.Str.{IsUtf8, IsCharBoundary}
use Rattle.std.proofs.lemmas.Bool.{cases_lt}
use Rattle.std.proofs.lemmas.List.{take_all}
use Rattle.std.proofs.lemmas.Str.{IsUtf8-take, IsCharBoundary-from_take}
use Rattle.cal_rowset.specs.declared.cell.Cell.{Cell}
use Rattle.cal_rowset.proofs.step.undo.Goals as goal
use Rattle.cal_rowset.proofs.step.undo.Goals.{then-is_char_boundary, else-is_char_boundary}

-- a text that can't be cut is whole already
uncut : (text : List ℕ) (n : ℕ) → IsUtf8 text → IsUtf8 (take n text) → (IsCharBoundary text n → ⊥) → text ≡ take n text
uncut text n utf8 can none =
    elim (cases_lt (length text) n) [
      | inl short ↦ sym (take_all n text (omega (arith, short)))
      | inr long ↦ absurd (none (IsCharBoundary-from_take text n utf8 long can))
    ]

pub truncate-requires : goal.truncate-requires
truncate-requires c =
    IsUtf8-take c.args.cell.now.text c.args.step.now.length (rw c.as_str.ensures at c.as_str.utf8) (rw c.as_str.ensures at (c.if-is_char_boundary.ensures.test.0 refl))

pub returns : goal.returns
returns c =
    λ can. elim c.if-is_char_boundary.branch [
      | then-is_char_boundary w ↦ (λ i. record { text = (ap (λ (cell : Cell). cell.text) w.cell-is ∙ w.truncate.ensures) i; content = c.args.step.now.content })
      | else-is_char_boundary w ↦ (
          let none : IsCharBoundary c.args.cell.now.text c.args.step.now.length → ⊥ =
          λ b. (let told : false ≡ true = w.if-is_char_boundary.ensures.test.1 (rw c.as_str.ensures b) in cc) in
          λ i. record { text = (ap (λ (cell : Cell). cell.text) w.cell-is ∙ uncut c.args.cell.now.text c.args.step.now.length (rw c.as_str.ensures at c.as_str.utf8) can none) i; content = c.args.step.now.content })
    ]

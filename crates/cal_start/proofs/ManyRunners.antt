-- The running threads that are hired so far.
use Rattle.std.proofs.Common.{◌≡◌, ℕ, ◌+◌, List, [], ◌∷◌, ◌++◌, length, sym, ap, ◌∙◌, subst}
use Rattle.std.proofs.Common.{⊎_elim}
use Rattle.std.specs.Prelude.{Some, slice_get}
use Rattle.std.proofs.lemmas.List.{length_push}
use Rattle.cal_book.proofs.Lists.{at_end}
use Rattle.cal_keeping.specs.declared.book_hand.BookHand.{BookHand}
use Rattle.cal_keeping.specs.declared.runner.Runner.{Runner}
use Rattle.cal_start.specs.Hired.{IsHiredFor}
use Rattle.cal_start.specs.declared.run.Run.{Run}

module _ {P : Type 0} (run : Run) where
  -- these are the threads of the numbers below one
  pub record AreHiredBelow (runners : List (Runner P BookHand)) (number : ℕ) : Type 0 where
    pub many : length runners ≡ number
    pub each : (k : ℕ) (r : Runner P BookHand) → slice_get runners k ≡ Some r → IsHiredFor run k r

  pub hired-more : (runners : List (Runner P BookHand)) (number : ℕ) (r : Runner P BookHand)
      → AreHiredBelow runners number → IsHiredFor run number r
      → AreHiredBelow (runners ++ r ∷ []) (number + 1)
  hired-more runners number r below here = record {
    many = length_push runners r ∙ ap (λ (n : ℕ). n + 1) below.many;
    each = λ k s at. ⊎_elim (λ was. below.each k s was)
        (λ end. subst (λ (n : ℕ). IsHiredFor run n s) (sym (end.1 ∙ below.many))
        (subst (λ (x : Runner P BookHand). IsHiredFor run number x) end.0 here))
        (at_end runners r s k at);
  }

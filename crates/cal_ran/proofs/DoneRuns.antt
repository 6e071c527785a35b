-- Runners that were hired and have run.
use Rattle.std.proofs.Common.{◌≡◌, ℕ, zero, suc, ◌≤◌, Bor, List, [], ◌∷◌, drop, length, map}
use Rattle.std.proofs.Common.{refl, sym, ap, ◌∙◌, subst, arith}
use Rattle.std.specs.Prelude.{Option, Some, slice_get}
use Rattle.std.specs.List.{All}
use Rattle.std.proofs.lemmas.List.{length-map}
use Rattle.std.proofs.lemmas.Option.{get_or_from_slice_get, same_Some, slice_get_within}
use Rattle.cal_crew.specs.Ran.{HaveRun, HasToldAll}
use Rattle.cal_finish.proofs.LawfulRuns.{at-below}
use Rattle.cal_finish.specs.Ended.{notes_of}
use Rattle.cal_keeping.specs.Hands.{HasSameBooks, IsAtBooks, account_in}
use Rattle.cal_keeping.specs.Runners.{IsHiredRunner}
use Rattle.cal_keeping.specs.declared.book_hand.BookHand.{BookHand}
use Rattle.cal_keeping.specs.declared.runner.Runner.{Runner}
use Rattle.cal_ran.specs.Runs.{AreDone, IsDone}
use Rattle.cal_ran.specs.Told.{AreToldAll}
use Rattle.cal_replay.specs.Flushing.{BookOf}
use Rattle.cal_replay.specs.Workers.{lines_of, script_of}
use Rattle.cal_run.specs.declared.numbers.Numbers.{Numbers}
use Rattle.cal_script.specs.declared.journal.ThreadNote.{ThreadNote}
use Rattle.cal_start.specs.Hired.{AreHired}
use Rattle.cal_start.specs.declared.run.Run.{Run}

-- what stands at a place of a list that was mapped
mapped-at : {A B : Type 0} (f : A → B) (xs : List A) (k : ℕ) (y : B)
    → slice_get (map f xs) k ≡ Some y
    → (x : A) × (slice_get xs k ≡ Some x) × (f x ≡ y)
mapped-at f [] k y is = absurd cc
mapped-at f (x ∷ xs) zero y is = (x, refl, same_Some (f x) y is)
mapped-at f (x ∷ xs) (suc k) y is = mapped-at f xs k y is

module _ {P : Type 0} (run : Run) (old : List (Runner P BookHand))
    (hired : AreHired run old) where
  -- each of those that are hired may be started
  pub all-hired : All (IsHiredRunner account_in IsAtBooks run.shared) old
  all-hired k d below =
      let found = at-below old k below in
      subst (IsHiredRunner account_in IsAtBooks run.shared)
      (sym (get_or_from_slice_get old k found.item d found.there))
      (hired.each k found.item found.there).hired

  module _ {K : Type 0} (given : K → Option (List ℕ)) (new : List (Runner P BookHand))
      (was is : List K)
      (ran : HaveRun account_in IsAtBooks HasSameBooks run.shared given old new was is)
      (enough : length (script_of run.shared).threads ≤ length was) where
    done-at : (thread : ℕ) (r : Runner P BookHand) → slice_get new thread ≡ Some r
        → IsDone run thread r
    done-at thread r at =
        let less = slice_get_within new thread r at in
        let many = ran.many in
        let hired_many = hired.many in
        let clocks = ran.clocks in
        let had = at-below old thread (omega (arith, less, many)) in
        let before = at-below was thread (omega (arith, less, many, hired_many, enough)) in
        let behind = at-below is thread
        (omega (arith, less, many, hired_many, enough, clocks)) in
        let one = ran.each thread had.item r before.item behind.item had.there at before.there
        behind.there in
        let was_hired = hired.each thread had.item had.there in
        let number = one.number ∙ was_hired.own in
        record {
          ran = record {
            h = one.ran.ops;
            is = one.ran.kept;
            number = number;
            all = one.ran.all ∙ ap (λ (n : ℕ). lines_of (script_of run.shared) n) number;
          };
          numbers = ap (λ (n : Bor Numbers). n.now) one.services.numbers ∙ was_hired.numbers;
          books = ap (λ (b : Bor (List BookOf)). b.now) one.services.hand ∙ was_hired.books;
        }

    -- all threads have run all their lines, with the run's books
    pub are-done : AreDone run new
    are-done = record {
      many = ran.many ∙ hired.many;
      each = done-at;
    }

    -- what each clock was asked is by what is noted of its thread
    pub told-at : (thread : ℕ) (note : ThreadNote) (before behind : K)
        → slice_get (notes_of new) thread ≡ Some note → slice_get was thread ≡ Some before
        → slice_get is thread ≡ Some behind
        → HasToldAll given run.shared.real before behind note
    told-at thread note before behind at at_was at_is =
        let r = mapped-at (λ (x : Runner P BookHand). x.worker.note) new thread note at in
        let less = slice_get_within new thread r.0 r.1 in
        let many = ran.many in
        let had = at-below old thread (omega (arith, less, many)) in
        let one = ran.each thread had.item r.0 before behind had.there r.1 at_was at_is in
        subst (λ (n : ThreadNote). HasToldAll given run.shared.real before behind n) r.2 one.told

    pub told-all : AreToldAll given run.shared.real (notes_of new) was is
    told-all =
        let long = length-map new (λ (r : Runner P BookHand). r.worker.note) ∙ ran.many in
        record {
          many = ran.clocks;
          each = told-at;
          others = ap (λ (n : ℕ). drop n is) long ∙ ran.others
              ∙ ap (λ (n : ℕ). drop n was) (sym long);
        }

use Rattle.std.specs.Prelude.{◌≡◌, ◌≢◌, Some}
use Rattle.cal_book.specs.declared.answer.FlushAnswer.{FlushAnswer}
use Rattle.cal_book.specs.declared.answer.FlushAnswer.TheVariants.{Merged, Busy, OutOfMemory}
use Rattle.cal_book.specs.declared.view.View.{View}
use Rattle.cal_book.specs.Views.{meeting, giving, giving_up}

module _ {T Q : Type 0} where
  -- What an answer tells, by what the seat knew before and what it knows now: the part was given
  -- and is counted once; or another thread's turn was met, or the own one given up, and the part
  -- comes back, counted nowhere.
  abbrev pub Answers : View T Q → View T Q → T → FlushAnswer T → Type 0
  Answers v w part Merged = w ≡ giving part v
  Answers v w part (Busy holder back) =
      (back ≡ part) × (v.thread ≢ Some holder) × (w ≡ meeting holder v)
  Answers v w part (OutOfMemory back) = (back ≡ part) × (w ≡ giving_up v)

-- The seat of a thread while it holds the turn.
use Rattle.std.specs.Prelude.{◌≡◌, ℕ, Some, [], ◌∷◌}
use Rattle.cal_book.specs.declared.merging.Merging.{Ghosts as Merging}
use Rattle.cal_book.specs.declared.content.Content.{Content}
use Rattle.cal_book.specs.Contents.{MayTakeIn, TakesIn}
use Rattle.cal_book.specs.Steps.{Mine}

module _ {T Q : Type 0} (law : Merging T Q) where
  -- it carries the content as it got it, and the part may be merged into that
  pub record Carries (q : Q) (thread : ℕ) (part : T) (me : Mine T Q) : Type 0 where
    pub thread_is : me.0.thread ≡ Some thread
    pub copy : Content T
    pub turn_is : me.0.turn ≡ Some (record { copy = copy; part = part })
    pub out : me.1 ≡ (0, copy) ∷ []
    pub may : MayTakeIn law q thread part copy

  -- it carries the content with the part in it
  pub record Filled (q : Q) (thread : ℕ) (part : T) (me : Mine T Q) : Type 0 where
    pub thread_is : me.0.thread ≡ Some thread
    pub copy : Content T
    pub turn_is : me.0.turn ≡ Some (record { copy = copy; part = part })
    pub content : Content T
    pub out : me.1 ≡ (0, content) ∷ []
    pub may : MayTakeIn law q thread part copy
    pub taken : TakesIn law thread part copy content

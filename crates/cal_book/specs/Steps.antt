-- What each kind of step tells its seat. What the seat knows afterwards is a function of what it
-- knew, of the step and of the word that it met.
use Rattle.std.specs.Prelude.{◌≡◌, ◌≢◌, ◌⊎◌, ℕ, ◌+◌, ◌<◌, Some, [], ◌∷◌}
use mathlib.Core.Option.{some}
use Rattle.atomic_table.specs.Table.{Me, Step}
use Rattle.cal_book.specs.declared.merging.Merging.{Ghosts as Merging}
use Rattle.cal_book.specs.declared.content.Content.{Content}
use Rattle.cal_book.specs.declared.view.Turn.{Turn}
use Rattle.cal_book.specs.declared.view.View.{View}
use Rattle.cal_book.specs.Contents.{MayTakeIn}
use Rattle.cal_book.specs.Views.{marking, meeting, giving, giving_up}

-- what a seat knows, and the slot that it carries while it holds the turn
abbrev pub Mine : Type 0 → Type 0 → Type 0
Mine T Q = Me (Content T) (View T Q)

module _ {T Q : Type 0} where
  -- an exchange of the word against 0 found another thread's turn
  pub record Lost (before : Mine T Q) (found : ℕ) (after : Mine T Q) : Type 0 where
    pub holder : ℕ
    pub found_is : found ≡ holder + 1
    pub is_thread : holder < 64
    pub another : before.0.thread ≢ Some holder
    pub view : after ≡ (meeting holder before.0, before.1)

  -- the slot is filled, with the part in it, and the word is 0 again
  abbrev pub gives : Step (Content T) → Mine T Q → ℕ → Mine T Q → Type 0
  gives step before stored after = (turn : Turn T) → before.0.turn ≡ Some turn
      → after ≡ (giving turn.part before.0, [])

  -- the slot is filled as it was, and the word is 0 again
  abbrev pub gives_up : Step (Content T) → Mine T Q → ℕ → Mine T Q → Type 0
  gives_up step before stored after = after ≡ (giving_up before.0, [])

module _ {T Q : Type 0} (law : Merging T Q) where
  -- an exchange of the word against 0 got the turn, and with it the content of the slot
  pub record Won (q : Q) (part : T) (before : Mine T Q) (found : ℕ) (after : Mine T Q) : Type 0
    where
      pub free : found ≡ 0
      pub copy : Content T
      pub view : after ≡ (marking copy part before.0, (0, copy) ∷ before.1)
      pub may : (thread : ℕ) → before.0.thread ≡ Some thread → MayTakeIn law q thread part copy

  -- what an exchange came to
  abbrev pub Takes : Q → T → Mine T Q → ℕ → Mine T Q → Type 0
  Takes q part before found after = Won q part before found after ⊎ Lost before found after

  -- the table of what is said is the part to be given
  abbrev pub takes : Step (Content T) → Mine T Q → ℕ → Mine T Q → Type 0
  takes step before found after = (q : Q) (said : Content T) → before.0.shape ≡ Some q
      → step.said ≡ some said → Takes q said.table before found after

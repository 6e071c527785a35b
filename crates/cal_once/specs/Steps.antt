-- What each kind of step tells its seat. What the seat knows afterwards is a function of what it
-- knew, of the step and of the word that it met.
use Rattle.std.specs.Prelude.{◌≡◌, ℕ, ◌+◌, Bool, Some}
use Rattle.atomic_table.specs.Table.{Me, Step}
use Rattle.cal_words.specs.declared.sort.RecSort.{Ghosts as RecSort}
use Rattle.cal_once.specs.declared.view.View.{View}
use Rattle.cal_once.specs.declared.view.Plan.{Plan}
use Rattle.cal_once.specs.Layout.{arena_start, times}
use Rattle.cal_once.specs.Views.{Knows, IsParent, AllJoined, all_published, looked, read, drafted}
use Rattle.cal_once.specs.Views.{offered}
use Rattle.cal_once.specs.Sound.{IsSound}

abbrev Mine : Type 0 → Type 0
Mine S = Me ℕ (View S)

-- an empty slot: the seat didn't know it, no record that the seat knows has its parent there, and
-- no joined seat published there
pub record WasEmpty {S : Type 0} (plan : Plan S) (v : View S) (place : ℕ) : Type 0 where
  pub unknown : ¬ Knows v place
  pub no_parent : ¬ IsParent v plan.shape.slots place
  pub unlisted : AllJoined v → times place (all_published v) ≡ 0

-- a store of word k of the draft
abbrev pub drafts : {S : Type 0} → Step ℕ → Mine S → ℕ → Mine S → Type 0
drafts {S} step before stored after = (plan : Plan S) (k : ℕ) → before.0.plan ≡ Some plan
    → step.word ≡ arena_start plan.shape before.0.number + before.0.used + k
    → after ≡ (drafted k stored before.0, before.1)

module _ {S : Type 0} (law : RecSort S) where
  -- a load of the slot of a place
  pub record Looked (noted : Bool) (place : ℕ) (before : Mine S) (found : ℕ) (after : Mine S)
      : Type 0 where
    pub view : after ≡ (looked noted place found before.0, before.1)
    pub sound : (plan : Plan S) → before.0.plan ≡ Some plan → IsSound law plan after.0
    pub empty : (plan : Plan S) → before.0.plan ≡ Some plan → found ≡ 0
        → WasEmpty plan before.0 place

  abbrev pub looks : Bool → Step ℕ → Mine S → ℕ → Mine S → Type 0
  looks noted step before found after = (place : ℕ) → step.word ≡ place + 1
      → Looked noted place before found after

  -- a load of a record's word
  pub record Read (i : ℕ) (before : Mine S) (found : ℕ) (after : Mine S) : Type 0 where
    pub view : after ≡ (read i found before.0, before.1)
    pub sound : (plan : Plan S) → before.0.plan ≡ Some plan → IsSound law plan after.0

  abbrev pub reads : Step ℕ → Mine S → ℕ → Mine S → Type 0
  reads step before found after = Read step.word before found after

  -- an exchange of the slot of a place against 0
  pub record Offered (place word : ℕ) (before : Mine S) (found : ℕ) (after : Mine S) : Type 0 where
    pub view : after ≡ (offered place word found before.0, before.1)
    pub sound : (plan : Plan S) → before.0.plan ≡ Some plan → IsSound law plan after.0
    pub empty : (plan : Plan S) → before.0.plan ≡ Some plan → found ≡ 0
        → WasEmpty plan before.0 place

  abbrev pub offers : Step ℕ → Mine S → ℕ → Mine S → Type 0
  offers step before found after = (place : ℕ) → step.word ≡ place + 1
      → Offered place step.second before found after

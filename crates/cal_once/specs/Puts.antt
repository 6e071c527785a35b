use Rattle.std.specs.Prelude.{◌≡◌, ℕ, ◌+◌, ◌<◌, ◌≤◌, true, false, Bool, Option, Some, None, List}
use Rattle.std.specs.Prelude.{length}
use Rattle.cal_words.specs.declared.sort.RecSort.{Ghosts as RecSort}
use Rattle.cal_once.specs.declared.answer.Put.{Put}
use Rattle.cal_once.specs.declared.answer.Put.TheVariants.{Placed, RowsFull, ArenaFull}
use Rattle.cal_once.specs.declared.room.Room.{Room}
use Rattle.cal_once.specs.declared.room.Room.TheVariants.{Free, Full}
use Rattle.cal_once.specs.declared.view.View.{View}
use Rattle.cal_once.specs.declared.view.Plan.{Plan}
use Rattle.cal_once.specs.Layout.{probe}
use Rattle.cal_once.specs.Views.{Holds, HoldsOther, Knows, KnowsParent, Learns, noting, publishing}
use Rattle.cal_once.specs.Steps.{WasEmpty}

-- what is asked of a table: a record's words, and the slot at which the search for it begins
pub record Ask (S : Type 0) : Type 0 where
  pub plan : Plan S
  pub home : ℕ
  pub words : List ℕ

module _ {S : Type 0} where
  -- a record begins at the home that its sort gives it
  abbrev pub ask_for : RecSort S → Plan S → List ℕ → Ask S
  ask_for law plan words = record {
    plan = plan;
    home = law.home_of plan.shape.homes words;
    words = words;
  }

  -- The seat may put the record: it is one of the table's sort, this seat may publish it, and the
  -- seat knows its parent.
  pub record MayPut (law : RecSort S) (ask : Ask S) (v : View S) : Type 0 where
    pub is_record : law.is_record ask.plan.sort ask.words
    pub may_publish : law.may_publish ask.plan.sort v.number ask.words
    pub parent : KnowsParent v ask.plan.shape.slots ask.words

  -- the room that the seat's arena has for so many words
  abbrev pub HasRoom : Plan S → View S → ℕ → Room → Type 0
  HasRoom plan v need (Free number used) =
      (number ≡ v.number) × (used ≡ v.used) × (v.used + need ≤ plan.shape.arena)
  HasRoom plan v need (Full used words) =
      (used ≡ v.used) × (words ≡ need) × (plan.shape.arena < used + words)

  -- what a look at the slot of a place tells
  abbrev pub Sees : Plan S → ℕ → View S → View S → Bool → Type 0
  Sees plan place v w true = Knows w place × Learns v w
  Sees plan place v w false = WasEmpty plan v place × Learns (noting place v) w

  module _ (ask : Ask S) where
    -- the place at a distance from the home
    abbrev pub place_at : ℕ → ℕ
    place_at distance = probe ask.plan.shape ask.home distance

    -- the first n slots from the home on hold other records, as the seat knows
    abbrev pub PassesOthers : View S → ℕ → Type 0
    PassesOthers v n = (e : ℕ) → e < n → HoldsOther v (place_at e) ask.words

    -- each slot holds another record
    abbrev pub AllHoldOthers : View S → Type 0
    AllHoldOthers v = (place : ℕ) → place < ask.plan.shape.slots → HoldsOther v place ask.words

    -- the place is the one at this distance, and the slots before it hold other records
    pub record IsReached (v : View S) (place distance : ℕ) : Type 0 where
      pub is_place : place < ask.plan.shape.slots
      pub near : distance < ask.plan.shape.slots
      pub at : place ≡ place_at distance
      pub before : PassesOthers v distance

    -- the record is at the place, and the slots from its home to there hold others
    pub record IsPlaced (v : View S) (place : ℕ) : Type 0 where
      pub distance : ℕ
      pub reached : IsReached v place distance
      pub holds : Holds v place ask.words

    -- A load found a slot empty that the seat didn't know, behind slots with other records; and the
    -- seat's arena has no room for the record. The seat noted the slot.
    pub record LacksRoom (v w : View S) (used need : ℕ) : Type 0 where
      pub used_is : used ≡ v.used
      pub need_is : need ≡ length ask.words
      pub too_long : ask.plan.shape.arena < used + need
      pub place : ℕ
      pub distance : ℕ
      pub reached : IsReached w place distance
      pub empty : WasEmpty ask.plan v place
      pub learns : Learns (noting place v) w

    -- What an answer tells, by what the seat knew before and what it knows now. The list of
    -- published places grows exactly by a fresh place, which the seat didn't know, and that of
    -- empty looks only where the arena is full.
    abbrev pub Answers : View S → View S → Put → Type 0
    Answers v w (Placed place false) = IsPlaced w place × Learns v w
    Answers v w (Placed place true) =
        IsPlaced w place × Learns (publishing ask.words place v) w × WasEmpty ask.plan v place
    Answers v w RowsFull = AllHoldOthers w × Learns v w
    Answers v w (ArenaFull used need) = LacksRoom v w used need

    -- a visit of a place ends the search, or finds another record there
    abbrev pub Visits : View S → View S → ℕ → Option Put → Type 0
    Visits v w place None = HoldsOther w place ask.words × Learns v w
    Visits v w place (Some answer) = Answers v w answer

  -- a seat may offer its draft at a place that its search has reached
  pub record MayOffer (law : RecSort S) (plan : Plan S) (v : View S) (place distance : ℕ)
      : Type 0 where
    pub may : MayPut law (ask_for law plan v.draft) v
    pub reached : IsReached (ask_for law plan v.draft) v place distance

-- What a call that declares a name answers, and what it does to the table.
use Rattle.std.specs.Prelude.{◌≡◌, ◌≢◌, ◌⊎◌, ℕ, ◌+◌, ◌<◌, List, [], ◌∷◌, ◌++◌, length, Result, Ok}
use Rattle.std.specs.Prelude.{Err}
use Rattle.cal_once.specs.Puts as rows
use Rattle.cal_once.specs.Puts.{Ask, ask_for}
use Rattle.cal_once.specs.Steps.{WasEmpty}
use Rattle.cal_once.specs.Views.{Holds, Learns, noting}
use Rattle.cal_once.specs.declared.answer.Put.{Put}
use Rattle.cal_once.specs.declared.answer.Put.TheVariants as put
use Rattle.cal_once.specs.declared.view.Plan.{Plan}
use Rattle.cal_once.specs.declared.view.View.{View}
use Rattle.cal_names.specs.Declarations.{Declaration, name_words}
use Rattle.cal_names.specs.Kept.{IsKept, PassesOtherNames, name_law, name_place}
use Rattle.cal_names.specs.declared.declare.Declared.{Declared}
use Rattle.cal_names.specs.declared.declare.Declared.TheVariants.{Same, Different}
use Rattle.cal_names.specs.declared.declare.NamesFull.{NamesFull}
use Rattle.cal_names.specs.declared.declare.NamesFull.TheVariants as full
use Rattle.cal_names.specs.declared.record.NameSort.{NameSort}
use Rattle.cal_names.specs.declared.walk.Met.{Met}
use Rattle.cal_names.specs.declared.walk.Met.TheVariants as met
use Rattle.cal_names.specs.declared.read.Content.{Content}

-- a declaration of the name with other content
abbrev pub with_content : List ℕ → Content → Declaration
with_content name content = record { name = name; kind = content.kind; props = content.props }

-- What is answered to a declaration whose name has this kept one, at this place: Same exactly where
-- the two are equal, and else Different with what the kept one says.
abbrev pub Says : (d kept : Declaration) → ℕ → Declared → Type 0
Says d kept place (Same p) = (p ≡ place) × (kept ≡ d)
Says d kept place (Different p kind props) = (p ≡ place)
    × (kept ≡ record { name = d.name; kind = kind; props = props }) × (kept ≢ d)

module _ (plan : Plan NameSort) where
  -- what the rows are asked for
  abbrev pub name_ask : Declaration → Ask NameSort
  name_ask d = ask_for name_law plan (name_words d)

  -- the seat has learned words of the table, and may have noted one slot that a load found empty
  abbrev pub Looks : View NameSort → View NameSort → Type 0
  Looks v w = Learns v w
      ⊎ ((place : ℕ) × WasEmpty plan v place × Learns (noting place v) w)

  -- the slot at this distance from a name's home was empty, or there is none
  abbrev pub IsOpen : View NameSort → List ℕ → ℕ → Type 0
  IsOpen v name distance = (distance ≡ plan.shape.slots)
      ⊎ ((distance < plan.shape.slots) × WasEmpty plan v (name_place plan name distance))

  -- What a walk over the slots from a name's home on meets: the kept declaration of the name, or
  -- behind other names an empty slot or the end.
  abbrev pub Meets : List ℕ → View NameSort → View NameSort → Met → Type 0
  Meets name v w (met.Kept place content) = IsKept plan w (with_content name content) place
  Meets name v w (met.Open distance) =
      PassesOtherNames plan w name distance × IsOpen v name distance

  -- a call published nothing
  pub record PublishesNothing (v w : View NameSort) : Type 0 where
    pub used : w.used ≡ v.used
    pub published : w.published ≡ v.published

  -- a call published this declaration, at a place that the seat didn't know
  pub record PublishesOne (d : Declaration) (v w : View NameSort) : Type 0 where
    pub place : ℕ
    pub fresh : WasEmpty plan v place
    pub holds : Holds w place (name_words d)
    pub used : w.used ≡ v.used + length (name_words d)
    pub published : w.published ≡ v.published ++ place ∷ []

  -- The rows refused the declaration, as `put` does, behind a walk that found no declaration of its
  -- name.
  pub record Refuses (d : Declaration) (v w : View NameSort) (answer : Put) : Type 0 where
    pub before : View NameSort
    pub looks : Looks v before
    pub answers : rows.Answers (name_ask d) before w answer

  -- What a call answers: what the kept declaration of the name is, as the seat knows it then. The
  -- refusals come as the rows give them.
  abbrev pub Answers : Declaration → View NameSort → View NameSort → Result Declared NamesFull
      → Type 0
  Answers d v w (Ok answer) = (kept : Declaration) × (place : ℕ) × (kept.name ≡ d.name)
      × IsKept plan w kept place × Says d kept place answer
  Answers d v w (Err full.RowsFull) = Refuses d v w put.RowsFull
  Answers d v w (Err (full.ArenaFull used need)) = Refuses d v w (put.ArenaFull used need)

-- the call answers what is kept
abbrev pub Repeats : (d kept : Declaration) → ℕ → Result Declared NamesFull → Type 0
Repeats d kept place (Ok answer) = Says d kept place answer
Repeats d kept place (Err full) = ⊥

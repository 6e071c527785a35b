-- What a seat knows of the declarations that its thread made so far (private).
use Rattle.std.specs.Prelude.{◌≡◌, ◌≢◌, ℕ, ◌+◌, ◌*◌, ◌/◌, ◌<◌, ◌≤◌, List, Some, slice_get}
use Rattle.std.specs.List.{AllZip}
use Rattle.cal_declarations.specs.Layout.{thread_words}
use Rattle.cal_names.specs.Answers as names
use Rattle.cal_names.specs.Declarations.{Declaration, name_words}
use Rattle.cal_names.specs.Kept.{IsKept}
use Rattle.cal_names.specs.declared.declare.Declared.{Declared}
use Rattle.cal_names.specs.declared.declare.Declared.TheVariants.{Same, Different}
use Rattle.cal_names.specs.declared.record.NameSort.{NameSort}
use Rattle.cal_once.specs.Layout.{times}
use Rattle.cal_once.specs.Views.{Holds}
use Rattle.cal_once.specs.declared.view.Plan.{Plan}
use Rattle.cal_once.specs.declared.view.View.{View}
use Rattle.cal_script.specs.Shapes.{greatest}
use Rattle.cal_value.specs.declared.attribute.Attribute.{Attribute}
use Rattle.cal_words.specs.declared.shape.Shape.{Shape}

-- a line as the table of names sees it
abbrev pub declaration_of : Attribute → Declaration
declaration_of line = record { name = line.name; kind = line.kind; props = line.props.0 }

-- the place that an answer tells
abbrev pub place_of : Declared → ℕ
place_of (Same place) = place
place_of (Different place kind props) = place

-- there is a slot for each record that fits into the arenas, and one more
abbrev pub IsLaid : Shape → Type 0
IsLaid shape = shape.slots ≡ shape.arenas * (shape.arena / 5) + 1

abbrev pub IsRoomy : Plan NameSort → Type 0
IsRoomy plan = IsLaid plan.shape

-- each arena has room for all declarations of a thread
abbrev pub HasRoom : Shape → List (List Attribute) → Type 0
HasRoom shape threads = greatest thread_words threads ≤ shape.arena

-- The place holds a line of the seat's thread, and no line before that one was told of this place.
pub record IsOwn (v : View NameSort) (lines : List Attribute) (answers : List Declared)
    (place : ℕ) : Type 0 where
  pub at : ℕ
  pub line : Attribute
  pub line_is : slice_get lines at ≡ Some line
  pub holds : Holds v place (name_words (declaration_of line))
  pub before : (i : ℕ) (answer : Declared) → i < at → slice_get answers i ≡ Some answer
      → place_of answer ≢ place

module _ (plan : Plan NameSort) (v : View NameSort) where
  -- the answer to a line says what is kept of its name, as the seat knows
  abbrev pub IsTold : Attribute → Declared → Type 0
  IsTold line answer = (kept : Declaration) × (place : ℕ) × (kept.name ≡ line.name)
      × IsKept plan v kept place × names.Says (declaration_of line) kept place answer

  -- These lines were declared so far, with these answers; and what the seat published is lines of
  -- these.
  pub record HasDeclared (lines : List Attribute) (answers : List Declared) : Type 0 where
    pub told : AllZip IsTold lines answers
    pub used : v.used ≤ thread_words lines
    pub own : (place : ℕ) → 0 < times place v.published → IsOwn v lines answers place

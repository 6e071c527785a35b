-- What the first seat knows of the declarations of all threads (private).
use Rattle.std.specs.Prelude.{◌≡◌, ◌≢◌, ℕ, ◌<◌, List, Some, slice_get}
use Rattle.std.specs.List.{AllZip}
use Rattle.cal_names.specs.Declarations.{Declaration}
use Rattle.cal_names.specs.Kept.{IsKept, name_law}
use Rattle.cal_names.specs.declared.declare.Declared.{Declared}
use Rattle.cal_names.specs.declared.record.NameSort.{NameSort}
use Rattle.cal_naming.specs.Told.{IsTold, declaration_of, place_of}
use Rattle.cal_once.specs.Sound.{IsSound}
use Rattle.cal_once.specs.declared.view.Plan.{Plan}
use Rattle.cal_once.specs.declared.view.View.{View}
use Rattle.cal_value.specs.declared.attribute.Attribute.{Attribute}

-- A line of some thread is this declaration, and no line of the thread before that one was told of
-- this place.
pub record IsSaid (threads : List (List Attribute)) (answers : List (List Declared))
    (d : Declaration) (place : ℕ) : Type 0 where
  pub thread : ℕ
  pub lines : List Attribute
  pub lines_are : slice_get threads thread ≡ Some lines
  pub own : List Declared
  pub own_are : slice_get answers thread ≡ Some own
  pub at : ℕ
  pub line : Attribute
  pub line_is : slice_get lines at ≡ Some line
  pub says : declaration_of line ≡ d
  pub before : (i : ℕ) (answer : Declared) → i < at → slice_get own i ≡ Some answer
      → place_of answer ≢ place

-- All lines were declared, with these answers, and each kept declaration is a line.
pub record IsSettled (plan : Plan NameSort) (v : View NameSort) (threads : List (List Attribute))
    (answers : List (List Declared)) : Type 0 where
  pub sound : IsSound name_law plan v
  pub told : AllZip (AllZip (IsTold plan v)) threads answers
  pub said : (d : Declaration) (place : ℕ) → IsKept plan v d place
      → IsSaid threads answers d place

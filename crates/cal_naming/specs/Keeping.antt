-- The list of kept declarations as it grows (private).
use Rattle.std.specs.Prelude.{⊤, ◌≡◌, ℕ, Bool, true, List, All, Contains, Some, length, slice_get}
use Rattle.std.specs.List.{AllZip, IsDistinct}
use Rattle.cal_names.specs.Kept.{IsKept}
use Rattle.cal_names.specs.declared.declare.Declared.{Declared}
use Rattle.cal_names.specs.declared.declare.Declared.TheVariants.{Same, Different}
use Rattle.cal_names.specs.declared.record.NameSort.{NameSort}
use Rattle.cal_naming.specs.Naming.{all_lines, same_name}
use Rattle.cal_naming.specs.Settled.{IsSettled}
use Rattle.cal_naming.specs.Told.{declaration_of}
use Rattle.cal_once.specs.declared.view.Plan.{Plan}
use Rattle.cal_once.specs.declared.view.View.{View}
use Rattle.cal_value.specs.declared.attribute.Attribute.{Attribute}

-- a line that was told that it is the kept one is in the list
abbrev pub IsListed : List Attribute → Attribute → Declared → Type 0
IsListed kept line (Same place) = Contains kept line
IsListed kept line (Different place k props) = ⊤

-- a list has all of another one
abbrev pub HasAllOf : List Attribute → List Attribute → Type 0
HasAllOf old new = (line : Attribute) → Contains old line → Contains new line

-- The list has kept declarations of different names, each a line of these, and their places are
-- marked.
pub record IsList (plan : Plan NameSort) (v : View NameSort) (all kept : List Attribute)
    (marks : List Bool) : Type 0 where
  pub slots : length marks ≡ plan.shape.slots
  pub once : IsDistinct same_name kept
  pub lines : All (λ (k : Attribute). Contains all k) kept
  pub placed : All (λ (k : Attribute). (place : ℕ) × IsKept plan v (declaration_of k) place
      × (slice_get marks place ≡ Some true)) kept
  pub marked : (place : ℕ) → slice_get marks place ≡ Some true
      → (k : Attribute) × Contains kept k × IsKept plan v (declaration_of k) place

-- a list grew, and has all that it had
pub record Grows (plan : Plan NameSort) (v : View NameSort) (all old new : List Attribute)
    (marks : List Bool) : Type 0 where
  pub list : IsList plan v all new marks
  pub more : HasAllOf old new

-- The answers tell slots of a table that has so many, and are those of the lines of all threads.
pub record CanKeep (threads : List (List Attribute)) (answers : List (List Declared)) (slots : ℕ)
    : Type 0 where
  pub plan : Plan NameSort
  pub v : View NameSort
  pub settled : IsSettled plan v threads answers
  pub slots_are : plan.shape.slots ≡ slots

-- The list has all lines that were told that they are the kept ones.
pub record IsKeeping (threads : List (List Attribute)) (answers : List (List Declared))
    (kept : List Attribute) : Type 0 where
  pub plan : Plan NameSort
  pub v : View NameSort
  pub settled : IsSettled plan v threads answers
  pub marks : List Bool
  pub list : IsList plan v (all_lines threads) kept marks
  pub listed : AllZip (AllZip (IsListed kept)) threads answers

-- How the bytes of an input decide what `names` answers.
use Rattle.std.specs.Prelude.{◌≡◌, ◌≢◌, ℕ, ◌<◌, ◌≤◌, ◌↔◌, true, List, Contains, length}
use Rattle.std.specs.Prelude.{Option, None, Some, IfSome, Result, Ok, Err}
use Rattle.cal_base.specs.Change.{Change, HasFailed}
use Rattle.cal_call.specs.Causes.{input_limit, is_whole}
use Rattle.cal_call.specs.declared.fault.Fault as faults
use Rattle.cal_call.specs.declared.fault.Fault.TheVariants as fault
use Rattle.cal_call.specs.declared.fault.InputKind.{InputKind}
use Rattle.cal_declarations.specs.Reading.{Means}
use Rattle.cal_naming.specs.Naming.{all_lines}
use Rattle.cal_value.specs.declared.attribute.Attribute.{Attribute}
use Rattle.cal_call_names.specs.Answers.{IsFaultOf}

-- no name is declared in two ways
abbrev pub Agree : List (List Attribute) → Type 0
Agree threads = (a b : Attribute) → Contains (all_lines threads) a
    → Contains (all_lines threads) b → a.name ≡ b.name → a ≡ b

-- the bytes are within the limit, and mean declarations of which this holds
abbrev pub Declare : List ℕ → (List (List Attribute) → Type 0) → Type 0
Declare bytes P = (length bytes ≤ input_limit)
    × (threads : List (List Attribute)) × Means bytes threads × P threads

-- The answer is the one that these bytes call for: they are too many, or have a first fault, or
-- mean declarations, whose text is written whole unless the output fails; and then none is refused
-- exactly where no name is declared in two ways. How many are is settled by how threads interleave.
pub record IsDue (bytes : List ℕ) (output : Change) (answer : Option faults.Fault) : Type 0 where
  pub too_long : (answer ≡ Some fault.TooLong) ↔ (input_limit < length bytes)
  pub bad_input : (line : ℕ) (kind : InputKind) → (answer ≡ Some (fault.BadInput line kind))
      ↔ ((length bytes ≤ input_limit) × IsFaultOf bytes line kind)
  pub whole : (HasFailed output → ⊥)
      → (is_whole answer ≡ true) ↔ Declare bytes (λ threads. Unit {0})
  pub agreed : (HasFailed output → ⊥) → (answer ≡ None) ↔ Declare bytes Agree

-- Where the words keep the word rule, the input doesn't fail and memory doesn't run out, the bytes
-- of an input that tells them decide the answer.
abbrev pub BytesDecide : Result (Unit {0}) ℕ → Change → Change → Option faults.Fault → Type 0
BytesDecide (Err place) input output answer = Unit {0}
BytesDecide (Ok _) input output answer =
    (HasFailed input → ⊥) → answer ≢ Some fault.OutOfMemory
    → IfSome input.old (λ bytes. IsDue bytes output answer)

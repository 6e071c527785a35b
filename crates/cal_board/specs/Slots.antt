-- The slots of a board that hold values, and what is done to one of them.
use Rattle.std.specs.Prelude.{◌≡◌, ℕ, ◌-◌, ◌<◌, ◌≤◌, List, [], ◌∷◌, ◌++◌, length, take, filter}
use Rattle.std.specs.Prelude.{All, AllPairs, nat_lt, ◌==◌, if◌then◌else◌, slice_get, slice_index_or}
use Rattle.std.specs.Prelude.{Option, option_map}
use Rattle.cal_board.specs.declared.opened.Opened.{Opened}
use Rattle.cal_board.specs.declared.opened.Slot.{Slot}

-- the open values of a slot, the outermost first; none where the slot isn't there
abbrev pub opened_in : {V : Type 0} → ℕ → List (Slot V) → List (Opened V)
opened_in number [] = []
opened_in number (s ∷ ss) = if s.number == number then s.opened else opened_in number ss

-- all of a list but its last item
abbrev pub front : {A : Type 0} → List A → List A
front xs = take (length xs - 1) xs

-- the attribute of the last of open values, and what stands for that value
abbrev pub last_attribute : {V : Type 0} → List (Opened V) → Option ℕ
last_attribute {V} os = option_map (λ (o : Opened V). o.attribute) (slice_get os (length os - 1))

abbrev pub last_value : {V : Type 0} → List (Opened V) → Option V
last_value {V} os = option_map (λ (o : Opened V). o.value) (slice_get os (length os - 1))

-- the slot of these values, which isn't there without values
abbrev pub slot_of : {V : Type 0} → ℕ → List (Opened V) → List (Slot V)
slot_of number [] = []
slot_of number (o ∷ os) = record { number = number; opened = o ∷ os } ∷ []

-- The slots with these values in one of them: those before it, itself, and those after it.
abbrev pub with_slot : {V : Type 0} → ℕ → List (Opened V) → List (Slot V) → List (Slot V)
with_slot {V} number opened slots = filter (λ (s : Slot V). nat_lt s.number number) slots
    ++ slot_of number opened
    ++ filter (λ (s : Slot V). nat_lt number s.number) slots

-- the slots come in the order of their numbers, each once, and each holds a value
pub record AreOrdered {V : Type 0} (slots : List (Slot V)) : Type 0 where
  pub ordered : AllPairs (λ (s t : Slot V). s.number < t.number) slots
  pub held : All (λ (s : Slot V). 0 < length s.opened) slots

-- the slot of this number stands at the place
pub record IsAt {V : Type 0} (slots : List (Slot V)) (number place : ℕ) : Type 0 where
  pub within : place < length slots
  pub number_is : (d : Slot V) → (slice_index_or slots place d).number ≡ number

-- the slot of this number isn't there, and would go to the place
pub record IsGap {V : Type 0} (slots : List (Slot V)) (number place : ℕ) : Type 0 where
  pub within : place ≤ length slots
  pub before : (i : ℕ) (d : Slot V) → i < place → (slice_index_or slots i d).number < number
  pub after : (d : Slot V) → place < length slots → number < (slice_index_or slots place d).number

-- What is kept beside the numbers of nodes and of attributes.
use Rattle.std.specs.Prelude.{◌≡◌, ℕ, zero, suc, ◌-◌, ◌==◌, ◌<◌, Bool, false, if◌then◌else◌}
use Rattle.std.specs.Prelude.{List, [], ◌∷◌, ◌++◌, length, map, replicate, slice_get}
use Rattle.std.specs.Prelude.{slice_index_or, Option, None, Some}
use Rattle.std.specs.List.{All, list_any}
use Rattle.std.specs.List.Sorted.{IsNonDecreasing}
use Rattle.std.specs.Option.{option_map_or}
use Rattle.std.specs.declared.vec.Vec.{Vec}
use Rattle.cal_context.specs.declared.numbers.NodeNumber.{NodeNumber}

-- so many nodes: these, and then the root
abbrev pub with_roots : List NodeNumber → ℕ → List NodeNumber
with_roots nodes count = nodes ++ replicate (count - length nodes) (record { 0 = 0 })

-- so many answers: true at these places, and else false
abbrev pub marked : List ℕ → ℕ → List Bool
marked places zero = []
marked places (suc n) = marked places n ++ list_any (λ place. place == n) places ∷ []

-- places in order, each of them below a count
pub record ArePlaces (places : List ℕ) (count : ℕ) : Type 0 where
  pub rising : IsNonDecreasing places
  pub below : All (λ place. place < count) places

-- whether a number is there, and is this name's
abbrev pub is_of : ℕ → Option ℕ → Bool
is_of name None = false
is_of name (Some n) = n == name

-- what stands in a name's row, which is empty where there is none
abbrev pub row_at : {Z : Type 0} → List (Vec ℕ Z) → ℕ → List ℕ
row_at {Z} rows name = option_map_or (λ (row : Vec ℕ Z). row.items) (slice_get rows name) []

-- a row has the places of the attributes whose names have this number
pub record IsRow (numbers : List (Option ℕ)) (name : ℕ) (row : List ℕ) : Type 0 where
  pub places : ArePlaces row (length numbers)
  pub marked : marked row (length numbers) ≡ map (is_of name) numbers

-- so has each row
abbrev pub AreRows : {Z : Type 0} → List (Option ℕ) → List (Vec ℕ Z) → Type 0
AreRows numbers rows = (name : ℕ) → IsRow numbers name (row_at rows name)

-- a row with a place more, if it is the row of this name
abbrev pub row_with : ℕ → ℕ → ℕ → List ℕ → List ℕ
row_with name place n row = if name == n then row ++ place ∷ [] else row

-- a place was put into the row of a name
abbrev pub IsPut : {Z : Type 0} → ℕ → ℕ → List (Vec ℕ Z) → List (Vec ℕ Z) → Type 0
IsPut name place old new = (n : ℕ) → row_at new n ≡ row_with name place n (row_at old n)

-- the same, of rows that all are there
pub record IsPutAt {Z : Type 0} (name place : ℕ) (old new : List (Vec ℕ Z)) : Type 0 where
  pub long : length new ≡ length old
  pub each : (n : ℕ) (d : Vec ℕ Z) → n < length old
      → (slice_index_or new n d).items ≡ row_with name place n (slice_index_or old n d).items

-- each name has the row that it had
abbrev pub HaveSameRows : {Z : Type 0} → List (Vec ℕ Z) → List (Vec ℕ Z) → Type 0
HaveSameRows old new = (n : ℕ) → row_at new n ≡ row_at old n

-- the same, of rows that all are there
pub record AreSameAt {Z : Type 0} (old new : List (Vec ℕ Z)) : Type 0 where
  pub long : length new ≡ length old
  pub each : (n : ℕ) (d : Vec ℕ Z) → n < length old
      → (slice_index_or new n d).items ≡ (slice_index_or old n d).items

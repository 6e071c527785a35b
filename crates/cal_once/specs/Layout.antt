use Rattle.std.specs.Prelude.{◌⊎◌, ℕ, ◌+◌, ◌*◌, ◌/◌, ◌%◌, ◌^◌, ◌<◌, ◌≤◌, List, [], ◌∷◌, take, drop}
use Rattle.std.specs.Prelude.{slice_index, ◌==◌, if◌then◌else◌}
use Rattle.cal_words.specs.declared.shape.Shape.{Shape}
pub use Rattle.cal_words.specs.Shapes.{IsShape, word_count}

-- the first word of the arena of a number
abbrev pub arena_start : Shape → ℕ → ℕ
arena_start shape number = 1 + shape.slots + number * shape.arena

-- a slot's word is 0, or the length of its record above the place of the record's first word (ours)
abbrev pub slot_for : ℕ → ℕ → ℕ
slot_for size start = size * 2 ^ 32 + start

abbrev pub size_in : ℕ → ℕ
size_in word = word / 2 ^ 32

abbrev pub start_in : ℕ → ℕ
start_in word = word % 2 ^ 32

-- the slot at a distance from a home
abbrev pub probe : Shape → ℕ → ℕ → ℕ
probe shape home distance = (home + distance) % shape.slots

-- how often a place stands in a list
abbrev pub times : ℕ → List ℕ → ℕ
times place [] = 0
times place (p ∷ ps) = (if p == place then 1 else 0) + times place ps

-- the word of the slot of a place
abbrev pub slot_of : List ℕ → ℕ → ℕ
slot_of words place = slice_index words (place + 1)

-- the record that a slot names
abbrev pub record_at : List ℕ → ℕ → List ℕ
record_at words place =
    take (size_in (slot_of words place)) (drop (start_in (slot_of words place)) words)

-- a slot's word names words of the arena of this number, of which so many are used
pub record IsWithin (shape : Shape) (number used word : ℕ) : Type 0 where
  pub is_arena : number < shape.arenas
  pub two_words : 2 ≤ size_in word
  pub from : arena_start shape number ≤ start_in word
  pub to : start_in word + size_in word ≤ arena_start shape number + used

-- two slots' words name no common word
abbrev pub AreApart : ℕ → ℕ → Type 0
AreApart a b = (start_in a + size_in a ≤ start_in b) ⊎ (start_in b + size_in b ≤ start_in a)

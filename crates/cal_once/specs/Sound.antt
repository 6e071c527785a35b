use Rattle.std.specs.Prelude.{◌≡◌, ◌≢◌, ◌⊎◌, ℕ, ◌+◌, ◌<◌, ◌≤◌, Some, List, length, slice_get}
use Rattle.std.specs.Prelude.{slice_index}
use Rattle.cal_words.specs.declared.sort.RecSort.{Ghosts as RecSort}
use Rattle.cal_once.specs.declared.view.View.{View}
use Rattle.cal_once.specs.declared.view.Plan.{Plan}
use Rattle.cal_once.specs.Layout.{IsWithin, AreApart, size_in, start_in, times}
use Rattle.cal_once.specs.Views.{Saw, Knows, Holds, AllJoined, all_published}

-- a known record's parent is the root and its depth 1, or its parent's depth is one less
abbrev pub IsBelow : {S : Type 0} → Plan S → View S → ℕ → ℕ → Type 0
IsBelow plan v parent depth = ((parent ≡ 0) × (depth ≡ 1))
    ⊎ ((place : ℕ) × (parent ≡ place + 1) × (place < plan.shape.slots)
    × ((slot above : ℕ) → Saw v.seen (place + 1) slot → Saw v.seen (start_in slot + 1) above
    → depth ≡ above + 1))

-- a place stands in the list of what the seat of number n published: once, where it is the number
-- that published the record, and else never
abbrev pub IsListed : ℕ → ℕ → ℕ → List ℕ → Type 0
IsListed number n place places =
    (number ≡ n → times place places ≡ 1) × (number ≢ n → times place places ≡ 0)

module _ {S : Type 0} (law : RecSort S) where
  -- The record is one of the table's sort, and one number's seat published it, as the sort lets it.
  -- The seat is told whether that is its own number, and the first seat of the joined ones too.
  pub record IsLawful (plan : Plan S) (v : View S) (place : ℕ) (words : List ℕ) : Type 0 where
    pub is_record : law.is_record plan.sort words
    pub number : ℕ
    pub may_publish : law.may_publish plan.sort number words
    pub own : IsListed number v.number place v.published
    pub joined : v.number ≡ 0 → (n : ℕ) (places : List ℕ)
        → slice_get v.others n ≡ Some (Some places) → IsListed number (n + 1) place places

  -- the record behind a known slot, of which the seat may have seen some words
  pub record IsThere (plan : Plan S) (v : View S) (place slot : ℕ) : Type 0 where
    pub words : List ℕ
    pub size : size_in slot ≡ length words
    pub seen : (i x : ℕ) → i < length words → Saw v.seen (start_in slot + i) x
        → slice_index words i ≡ x
    pub lawful : IsLawful plan v place words

  -- What each seat knows of the table, whatever the other seats do. Each word stands for good, each
  -- slot's record lies whole in one arena and apart from the others, and each record is at one
  -- place.
  pub record IsSound (plan : Plan S) (v : View S) : Type 0 where
    pub own_arena : v.number < plan.shape.arenas
    pub room : v.used + length v.draft ≤ plan.shape.arena
    pub one_word : (i x y : ℕ) → Saw v.seen i x → Saw v.seen i y → x ≡ y
    pub within : (place slot : ℕ) → place < plan.shape.slots → Saw v.seen (place + 1) slot
        → (slot ≢ 0) × ((number : ℕ) × IsWithin plan.shape number plan.shape.arena slot)
    pub apart : (p q a b : ℕ) → p < plan.shape.slots → q < plan.shape.slots → p ≢ q
        → Saw v.seen (p + 1) a → Saw v.seen (q + 1) b → AreApart a b
    pub one_place : (p q : ℕ) (words : List ℕ) → p < plan.shape.slots → q < plan.shape.slots
        → Holds v p words → Holds v q words → p ≡ q
    pub one_record : (place : ℕ) (a b : List ℕ) → place < plan.shape.slots → Holds v place a
        → Holds v place b → a ≡ b
    pub there : (place slot : ℕ) → place < plan.shape.slots → Saw v.seen (place + 1) slot
        → IsThere plan v place slot
    pub lawful : (place : ℕ) (words : List ℕ) → place < plan.shape.slots → Holds v place words
        → IsLawful plan v place words
    pub below : (place slot parent depth : ℕ) → place < plan.shape.slots
        → Saw v.seen (place + 1) slot → Saw v.seen (start_in slot) parent
        → Saw v.seen (start_in slot + 1) depth → IsBelow plan v parent depth
    pub once : AllJoined v → (place : ℕ)
        → (place < plan.shape.slots → Knows v place → times place (all_published v) ≡ 1)
        × (plan.shape.slots ≤ place → times place (all_published v) ≡ 0)

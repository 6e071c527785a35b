-- The rule of write-once rows, which holds between any two steps of any seats. It speaks of the
-- words and of what each seat knows, and says besides, for each number, how many words its seat
-- published, and at which places.
use Rattle.std.specs.Prelude.{◌≡◌, ◌≢◌, ◌⊎◌, ℕ, suc, ◌+◌, ◌<◌, ◌≤◌, Option, Some, None, List, []}
use Rattle.std.specs.Prelude.{◌∷◌, length, slice_index}
use mathlib.Core.Option.{some}
use lib.ListN.{get_elem?}
use Rattle.atomic_table.specs.Table.{State}
use Rattle.cal_words.specs.declared.sort.RecSort.{Ghosts as RecSort}
use Rattle.cal_once.specs.declared.view.View.{View}
use Rattle.cal_once.specs.declared.view.Plan.{Plan}
use Rattle.cal_once.specs.Layout.{IsShape, IsWithin, AreApart, word_count, arena_start, probe}
use Rattle.cal_once.specs.Layout.{times, slot_of, record_at}
use Rattle.cal_once.specs.Views.{Saw}

-- what one number's seat published: how many words of its arena, and at which places
pub record Own : Type 0 where
  pub used : ℕ
  pub published : List ℕ

-- the record's parent is the root and its depth 1, or its parent's slot is filled and its depth is
-- one greater
abbrev pub HasParent : ℕ → List ℕ → List ℕ → Type 0
HasParent slots words rec = ((slice_index rec 0 ≡ 0) × (slice_index rec 1 ≡ 1))
    ⊎ ((parent : ℕ) × (parent < slots) × (slice_index rec 0 ≡ parent + 1)
    × (slot_of words parent ≢ 0)
    × (slice_index rec 1 ≡ slice_index (record_at words parent) 1 + 1))

-- the slot is filled, and holds another record
abbrev pub HoldsAnother : List ℕ → ℕ → List ℕ → Type 0
HoldsAnother words place rec = (slot_of words place ≢ 0) × (record_at words place ≢ rec)

-- a word that stands for good: of a filled slot, or of the used part of an arena
pub record IsFixed {S : Type 0} (plan : Plan S) (words : List ℕ) (own : ℕ → Own) (i x : ℕ)
    : Type 0 where
  pub here : slice_index words i ≡ x
  pub fixed : ((1 ≤ i) × (i ≤ plan.shape.slots) × (x ≢ 0))
      ⊎ ((number : ℕ) × (arena_start plan.shape number ≤ i)
      × (i < arena_start plan.shape number + (own number).used))

-- a seat with its number: its list and its draft, and each word that it has seen is there
pub record Sits {S : Type 0} (plan : Plan S) (words : List ℕ) (own : ℕ → Own) (number : ℕ)
    (v : View S) : Type 0 where
  pub plan_is : v.plan ≡ Some plan
  pub number_is : v.number ≡ number
  pub used_is : v.used ≡ (own number).used
  pub published_is : v.published ≡ (own number).published
  pub room : v.used + length v.draft ≤ plan.shape.arena
  pub draft : (k : ℕ) → k < length v.draft
      → slice_index words (arena_start plan.shape number + v.used + k) ≡ slice_index v.draft k
  pub seen : (i x : ℕ) → Saw v.seen i x → IsFixed plan words own i x

-- what the first seat is told of another one: the places that it published, once it was joined
abbrev pub told_by : {S : Type 0} → Option (Plan S) → List ℕ → Option (List ℕ)
told_by None places = Some places
told_by (Some plan) places = None

-- the same of all seats, in the order of their numbers
abbrev pub told : {S : Type 0} → (ℕ → List ℕ) → List (View S) → List (Option (List ℕ))
told published [] = []
told published (v ∷ views) = told_by v.plan (published 0) ∷ told (λ n. published (suc n)) views

module _ {S : Type 0} (law : RecSort S) where
  -- the slot at which the search for the record of a place begins
  abbrev pub record_home : Plan S → List ℕ → ℕ → ℕ
  record_home plan words place = law.home_of plan.shape.homes (record_at words place)

  -- A filled slot. Its record lies in the used part of one arena, in whose number's list the place
  -- stands once. It is a record of the sort that this number may publish, at a distance from its
  -- home behind slots with other records.
  pub record Stands (plan : Plan S) (words : List ℕ) (own : ℕ → Own) (place : ℕ) : Type 0 where
    pub number : ℕ
    pub within : IsWithin plan.shape number (own number).used (slot_of words place)
    pub listed : times place (own number).published ≡ 1
    pub is_record : law.is_record plan.sort (record_at words place)
    pub may_publish : law.may_publish plan.sort number (record_at words place)
    pub distance : ℕ
    pub near : distance < plan.shape.slots
    pub at : place ≡ probe plan.shape (record_home plan words place) distance
    pub before : (e : ℕ) → e < distance
        → HoldsAnother words (probe plan.shape (record_home plan words place) e)
        (record_at words place)
    pub has_parent : HasParent plan.shape.slots words (record_at words place)

  -- the words alone: word 0 is 0, and each filled slot stands; different slots name regions without
  -- common words
  pub record IsLaid (plan : Plan S) (words : List ℕ) (own : ℕ → Own) : Type 0 where
    pub shape : IsShape plan.shape
    pub long : length words ≡ word_count plan.shape
    pub zero_word : slice_index words 0 ≡ 0
    pub room : (n : ℕ) → (own n).used ≤ plan.shape.arena
    pub stands : (place : ℕ) → place < plan.shape.slots → slot_of words place ≢ 0
        → Stands plan words own place
    pub apart : (p q : ℕ) → p < plan.shape.slots → q < plan.shape.slots → p ≢ q
        → slot_of words p ≢ 0 → slot_of words q ≢ 0 → AreApart (slot_of words p) (slot_of words q)
    pub listed : (n place : ℕ) → 0 < times place (own n).published → (place < plan.shape.slots)
        × (slot_of words place ≢ 0) × IsWithin plan.shape n plan.shape.arena (slot_of words place)

  pub record Kept (plan : Plan S) (s : State ℕ (View S)) : Type 0 where
    pub own : ℕ → Own
    pub laid : IsLaid plan s.words own
    pub few : length s.views ≤ plan.shape.arenas
    pub unmade : (n : ℕ) → length s.views ≤ n → own n ≡ record { used = 0; published = [] }
    pub seats : (number : ℕ) (v : View S) → get_elem? s.views number ≡ some v → (v.plan ≡ None)
        ⊎ Sits plan s.words own number v
    pub first : (v : View S) → get_elem? s.views 0 ≡ some v
        → told (λ n. (own n).published) s.views ≡ None ∷ v.others

-- The places of a list at which a key stands, one after another.
use Rattle.std.specs.Prelude.{◌≡◌, ℕ, suc, ◌<◌, ◌≤◌, List, Option, None}
use Rattle.std.specs.Prelude.{length, slice_index_or, MatchOption}
use Rattle.cal_context.specs.declared.numbers.NodeNumber.{NodeNumber}
use Rattle.cal_treefmt.specs.declared.chains.Chains.{Chains}

-- the key at a place
abbrev pub key_at : List NodeNumber → ℕ → ℕ
key_at keys place = (slice_index_or keys place (record { 0 = 0 })).0

-- no place from one on and before another has the key
abbrev pub LacksKey : List NodeNumber → ℕ → ℕ → ℕ → Type 0
LacksKey keys from to key = (k : ℕ) → from ≤ k → k < to → ¬ (key_at keys k ≡ key)

-- the first place from one on at which the key stands
pub record IsFirst (keys : List NodeNumber) (from key place : ℕ) : Type 0 where
  pub later : from ≤ place
  pub within : place < length keys
  pub is : key_at keys place ≡ key
  pub lacks : LacksKey keys from place key

-- where that is, if there is one
abbrev pub IsNext : List NodeNumber → ℕ → ℕ → Option ℕ → Type 0
IsNext keys from key place =
    MatchOption place (LacksKey keys from (length keys) key) (IsFirst keys from key)

-- the first place of each key, and of each place from one on the next that has its key
pub record AreChains (keys : List NodeNumber) (from count : ℕ) (heads nexts : List (Option ℕ))
    : Type 0 where
  pub keys_counted : length heads ≡ count
  pub places_counted : length nexts ≡ length keys
  pub first : (key : ℕ) → key < count → IsNext keys from key (slice_index_or heads key None)
  pub next : (place : ℕ) → from ≤ place → place < length keys
      → IsNext keys (suc place) (key_at keys place) (slice_index_or nexts place None)

-- chains of these keys, each of which is less than a number
abbrev pub IsChained : List NodeNumber → ℕ → Chains → Type 0
IsChained keys count chains = AreChains keys 0 count chains.first.items chains.next.items

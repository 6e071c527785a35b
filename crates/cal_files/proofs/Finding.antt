-- The place of the first item that passes, and the item there.
use Rattle.std.proofs.Common.{◌≡◌, ℕ, Bool, true, false, cond, List, length, find, position, slice_get, None, Some, ◌<◌, ◌≤◌, inl, inr, refl, ◌∙◌, ap, arith}
use Rattle.std.specs.List.{position_or_len}
use Rattle.std.proofs.lemmas.Bool.{ltb-false, ltb-true}
use Rattle.std.proofs.lemmas.List.Folds.{find_at}
use Rattle.std.proofs.lemmas.Option.{slice_get_cases, slice_get_past}
use Rattle.cal_files.specs.Holding.{bytes_named, is_named}
use Rattle.cal_files.specs.declared.named_bytes.NamedBytes.{NamedBytes}

chosen : (b : Bool) (m n : ℕ) → cond b (Some m) None ≡ Some n → (b ≡ true) × (m ≡ n)
chosen true m n is = (refl, cc)
chosen false m n is = cc

none_chosen : (b : Bool) (m : ℕ) → cond b (Some m) None ≡ None → b ≡ false
none_chosen true m is = cc
none_chosen false m is = refl

-- the item at its place is found, and the place is within the list
find_positioned : {X : Type 0} (p : X → Bool) (xs : List X) (i : ℕ) → position p xs ≡ Some i
    → (find p xs ≡ slice_get xs i) × (i < length xs)
find_positioned p xs i is =
    let c = chosen _ (position_or_len p xs) i is in
    let same : position_or_len p xs ≡ i = c.1 in
    let within : position_or_len p xs < length xs = ltb-true _ _ c.0 in
    (find_at p xs ∙ ap (slice_get xs) same, omega arith)

find_unpositioned : {X : Type 0} (p : X → Bool) (xs : List X) → position p xs ≡ None
    → find p xs ≡ None
find_unpositioned p xs is =
    find_at p xs
    ∙ slice_get_past xs (position_or_len p xs) (ltb-false _ _ (none_chosen _ _ is))

-- from its first byte on all of the first file of a name is left, and there is one
pub named_at : (files : List NamedBytes) (name : List ℕ) (file : ℕ)
    → position (is_named name) files ≡ Some file
    → (at : NamedBytes)
    × (slice_get files file ≡ Some at)
    × (bytes_named files name ≡ Some at.bytes)
named_at files name file is =
    let found = find_positioned (is_named name) files file is in
    let within : file < length files = found.1 in
    elim (slice_get_cases files file).1 [
      | inl w ↦ (w.0, w.2, rw (found.0, w.2))
      | inr w ↦ let past : length files ≤ file = w.0 in absurd (omega arith)
    ]

pub unnamed : (files : List NamedBytes) (name : List ℕ) → position (is_named name) files ≡ None
    → bytes_named files name ≡ None
unnamed files name is = rw (find_unpositioned (is_named name) files is)

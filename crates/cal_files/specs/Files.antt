-- Files read by their names.
use Rattle.std.specs.Prelude.{◌≡◌, ℕ, ◌+◌, ◌<◌, ◌≤◌, List, [], ◌∷◌, length, take, sum_by, slice_get, ⊤, Option, Some, IfSome}
use Rattle.std.specs.Io.{StartsWith}

-- a file has the bytes that are told of its name, where they are
abbrev pub IsFile : Option (List ℕ) → List ℕ → Type 0
IsFile told file = IfSome told (λ bytes. bytes ≡ file)

-- a part is the beginning of the bytes that are told of a name, where they are
abbrev pub IsBegun : Option (List ℕ) → List ℕ → Type 0
IsBegun told part = IfSome told (λ bytes. StartsWith bytes part)

-- of a file the beginning was read, so many bytes
abbrev pub HasBegun : Option (List ℕ) → ℕ → Type 0
HasBegun told count = (part : List ℕ) × IsBegun told part × (length part ≡ count)

-- the same, with at most so many bytes
abbrev pub HasBegunWithin : Option (List ℕ) → ℕ → Type 0
HasBegunWithin told limit = (part : List ℕ) × IsBegun told part × (length part ≤ limit)

-- the files of these names, one for each and in their order
abbrev pub AreFiles : (List ℕ → Option (List ℕ)) → List (List ℕ) → List (List ℕ) → Type 0
AreFiles content [] [] = ⊤
AreFiles content (name ∷ names) (file ∷ files) =
    IsFile (content name) file × AreFiles content names files
AreFiles content [] (file ∷ files) = ⊥
AreFiles content (name ∷ names) [] = ⊥

-- how many bytes files have together
abbrev pub bytes_of_all : List (List ℕ) → ℕ
bytes_of_all files = sum_by length files

-- The files before the one at a place were read whole, and of that one the beginning: so many bytes
-- in all.
pub record HasReached (content : List ℕ → Option (List ℕ)) (names : List (List ℕ))
    (place count : ℕ) : Type 0 where
  pub files : List (List ℕ)
  pub whole : AreFiles content (take place names) files
  pub name : List ℕ
  pub named : slice_get names place ≡ Some name
  pub part : List ℕ
  pub begun : IsBegun (content name) part
  pub counted : bytes_of_all files + length part ≡ count

-- the same, with at most so many bytes
abbrev pub HasReachedWithin : (List ℕ → Option (List ℕ)) → List (List ℕ) → ℕ → ℕ → Type 0
HasReachedWithin content names place limit =
    (count : ℕ) × (count ≤ limit) × HasReached content names place count

-- The limit's bytes were taken and one more, which came from the file at a place.
pub record HasPassed (content : List ℕ → Option (List ℕ)) (names : List (List ℕ))
    (place limit : ℕ) : Type 0 where
  pub reached : HasReached content names place (limit + 1)
  pub last : 0 < length reached.part

-- How reading files in their order comes out.
use Rattle.std.specs.Prelude.{◌≡◌, ℕ, ◌+◌, ◌≤◌, List, length}
use Rattle.cal_files.specs.Files.{AreFiles, HasBegun, HasBegunWithin, HasPassed, HasReachedWithin, bytes_of_all}
use Rattle.cal_files.specs.OpenerChange.{OpenerChange, HasFailedToOpen, HasFailedToRead}
use Rattle.cal_files.specs.declared.ends.FilesEnd.{FilesEnd}
use Rattle.cal_files.specs.declared.ends.FilesEnd.TheVariants.{OpenFault, ReadFault, TooLong, OutOfMemory}

-- These are the files of these names, all opened, and they have at most so many bytes together.
pub record ReadsFiles (limit : ℕ) (opener : OpenerChange) (names files : List (List ℕ))
    : Type 0 where
  pub each : AreFiles opener.content names files
  pub within : bytes_of_all files ≤ limit
  pub opened : opener.openings_now ≡ opener.openings_before + length names

-- Why the files weren't all read, and how far reading came. Of files that are too long the limit's
-- bytes were taken and one more, from the file that is named, and else at most the limit (ours).
abbrev pub StopsAt : FilesEnd → ℕ → OpenerChange → List (List ℕ) → Type 0
StopsAt (OpenFault file) limit opener names =
    HasFailedToOpen opener
    × (opener.openings_now ≡ opener.openings_before + file)
    × HasReachedWithin opener.content names file limit
StopsAt (ReadFault file) limit opener names =
    HasFailedToRead opener
    × (opener.openings_now ≡ opener.openings_before + (file + 1))
    × HasReachedWithin opener.content names file limit
StopsAt (TooLong file) limit opener names =
    (opener.openings_now ≡ opener.openings_before + (file + 1))
    × HasPassed opener.content names file limit
StopsAt OutOfMemory limit opener names =
    opener.openings_now ≤ opener.openings_before + length names

-- Why one of the files wasn't read whole, the one at a place among the names: it couldn't be
-- opened, a read failed, or it has more bytes than are allowed, of which one more was taken (ours).
abbrev pub StopsIn : FilesEnd → ℕ → ℕ → OpenerChange → List ℕ → Type 0
StopsIn (OpenFault file) place allowed opener name =
    (file ≡ place) × HasFailedToOpen opener × (opener.openings_now ≡ opener.openings_before)
StopsIn (ReadFault file) place allowed opener name =
    (file ≡ place)
    × HasFailedToRead opener
    × (opener.openings_now ≡ opener.openings_before + 1)
    × HasBegunWithin (opener.content name) allowed
StopsIn (TooLong file) place allowed opener name =
    (file ≡ place)
    × (opener.openings_now ≡ opener.openings_before + 1)
    × HasBegun (opener.content name) (allowed + 1)
StopsIn OutOfMemory place allowed opener name =
    opener.openings_now ≤ opener.openings_before + 1

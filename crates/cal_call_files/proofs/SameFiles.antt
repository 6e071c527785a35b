-- Files that were read of names are those that the opener tells of them.
use Rattle.std.proofs.Common.{◌≡◌, ℕ, zero, suc, ◌+◌, ◌<◌, ◌≤◌, List, [], ◌∷◌, length, take, refl}
use Rattle.std.proofs.Common.{subst, ap, arith}
use Rattle.std.specs.Prelude.{Option, Some, get_or}
use Rattle.std.proofs.lemmas.List.{length-take}
use Rattle.std.proofs.lemmas.List.Elements.{AllZip-get_or}
use Rattle.std.proofs.lemmas.List.Sums.{sum_by_more}
use Rattle.std.proofs.lemmas.Option.{get_or_from_slice_get, slice_get_within}
use Rattle.std.proofs.lemmas.Slice.Zip.{AllZip-long}
use Rattle.cal_call.specs.Causes.{input_limit}
use Rattle.cal_files.specs.Files.{AreFiles, HasPassed, IsBegun, IsFile, bytes_of_all}
use Rattle.cal_call_files.specs.Deciding.{AreTold, PassesIn}

-- there is a file for each name
pub AreFiles-length : (content : List ℕ → Option (List ℕ)) (names files : List (List ℕ))
    → AreFiles content names files → length files ≡ length names
AreFiles-length content [] [] are = refl
AreFiles-length content [] (file ∷ files) are = absurd are
AreFiles-length content (name ∷ names) [] are = absurd are
AreFiles-length content (name ∷ names) (file ∷ files) are =
    ap suc (AreFiles-length content names files are.1)

module _ (content : List ℕ → Option (List ℕ)) where
  -- the opener tells of this name these bytes
  abbrev Tells : List ℕ → List ℕ → Type 0
  Tells name file = content name ≡ Some file

  -- the files are those that are told
  pub same_files : (names files told : List (List ℕ)) → AreFiles content names files
      → AreTold content names told → files ≡ told
  same_files [] [] [] are tells = refl
  same_files [] [] (file ∷ told) are tells = absurd tells
  same_files [] (file ∷ files) told are tells = absurd are
  same_files (name ∷ names) [] told are tells = absurd are
  same_files (name ∷ names) (file ∷ files) [] are tells = absurd tells
  same_files (name ∷ names) (file ∷ files) (bytes ∷ told) are tells =
      let same : bytes ≡ file = subst (λ o. IsFile o file) tells.0 are.0 in
      rw (same, same_files names files told are.1 tells.1) refl

  -- what is told of the first names
  told_first : (n : ℕ) (names told : List (List ℕ)) → AreTold content names told
      → AreTold content (take n names) (take n told)
  told_first zero names told tells = tt
  told_first (suc n) [] [] tells = tt
  told_first (suc n) [] (file ∷ told) tells = absurd tells
  told_first (suc n) (name ∷ names) [] tells = absurd tells
  told_first (suc n) (name ∷ names) (file ∷ told) tells =
      (tells.0, told_first n names told tells.1)

  -- a beginning isn't longer than the whole
  begun_short : (file part : List ℕ) → take (length part) file ≡ part → length part ≤ length file
  begun_short file part begun =
      omega (arith, ap length begun, length-take (length part) file)

  -- files of which one more byte was taken than the limit are too long, from this one on
  pub passes : (names told : List (List ℕ)) (place : ℕ) → AreTold content names told
      → HasPassed content names place input_limit → PassesIn told place
  passes names told place tells passed =
      let reached = passed.reached in
      let within = slice_get_within names place reached.name reached.named in
      let long = AllZip-long Tells names told tells in
      let before : reached.files ≡ take place told =
      same_files (take place names) reached.files (take place told) reached.whole
      (told_first place names told tells) in
      let file = get_or told place [] in
      let tells_it : content reached.name ≡ Some file =
      subst (λ name. content name ≡ Some file)
      (get_or_from_slice_get names place reached.name [] reached.named)
      (AllZip-get_or Tells names told place [] [] tells within) in
      let short : length reached.part ≤ length file =
      begun_short file reached.part (subst (λ o. IsBegun o reached.part) tells_it reached.begun) in
      let inside : place < length told = omega (arith, within, long) in
      let more : bytes_of_all (take (place + 1) told)
      ≡ bytes_of_all (take place told) + length file = sum_by_more length told place [] inside in
      let same = ap bytes_of_all before in (
        inside,
        omega (arith, same, reached.counted, passed.last),
        omega (arith, same, reached.counted, short, more),
      )

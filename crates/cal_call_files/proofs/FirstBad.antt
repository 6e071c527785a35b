-- Files have one first file that goes wrong, with one first fault, and then aren't all streams.
use Rattle.std.proofs.Common.{◌≡◌, ℕ, ◌<◌, inl, inr, List, [], ◌∷◌, length, take, sym}
use Rattle.std.proofs.Common.{subst, ◌∙◌, arith}
use Rattle.std.specs.Prelude.{Err, get_or}
use Rattle.std.specs.List.{All, AllZip}
use Rattle.std.proofs.lemmas.Bool.{cases_order}
use Rattle.std.proofs.lemmas.List.{get_or-take, length-take}
use Rattle.std.proofs.lemmas.List.Elements.{All-cons, All-nil}
use Rattle.std.proofs.lemmas.Option.{get_or_from_slice_get, slice_get_within}
use Rattle.cal_line.proofs.FirstFaults.{falls_whole, one_first}
use Rattle.cal_line.specs.FirstFault.{after_lines}
use Rattle.cal_line.specs.Lines as lines
use Rattle.cal_multi.specs.Many.{IsFirstBad, IsSound}
use Rattle.cal_read.specs.Stream.{IsFault, IsStreamOf, line_step, no_lines}
use Rattle.cal_read.specs.declared.kind.StreamKind.{StreamKind}
use Rattle.cal_value.specs.declared.record.Records.{Records}

-- files that have records are streams
pub all_sound : (files : List (List ℕ)) (all : List Records) → AllZip IsStreamOf files all
    → All IsSound files
all_sound [] all streams = All-nil IsSound
all_sound (file ∷ files) [] streams = absurd streams
all_sound (file ∷ files) (records ∷ all) streams =
    All-cons IsSound file files (records, streams.0) (all_sound files all streams.1)

-- a stream has no first fault
sound_and_fault : (bytes : List ℕ) (line : ℕ) (kind : StreamKind) → IsSound bytes
    → IsFault bytes line kind → ⊥
sound_and_fault bytes line kind sound fault =
    let falls : after_lines line_step no_lines (lines.lines_of bytes) ≡ Err kind =
    falls_whole line_step no_lines (lines.lines_of bytes) line kind fault in
    let stands = sound.1.stream in
    absurd cc

module _ (files : List (List ℕ)) where
  -- where the first files are streams, none of them goes wrong
  none_before : (n place line : ℕ) (kind : StreamKind) → place < n → All IsSound (take n files)
      → IsFirstBad files place line kind → ⊥
  none_before n place line kind less sound bad =
      let within = slice_get_within files place bad.bytes bad.at in
      let inside : place < length (take n files) =
      omega (arith, less, within, length-take n files) in
      let is : get_or (take n files) place [] ≡ bad.bytes =
      get_or-take n files place [] less ∙ get_or_from_slice_get files place bad.bytes [] bad.at in
      sound_and_fault bad.bytes line kind (subst IsSound is (sound place [] inside)) bad.fault

  -- where all are streams, none goes wrong
  pub sound_and_bad : (place line : ℕ) (kind : StreamKind) → All IsSound files
      → IsFirstBad files place line kind → ⊥
  sound_and_bad place line kind sound bad =
      let is = get_or_from_slice_get files place bad.bytes [] bad.at in
      let within = slice_get_within files place bad.bytes bad.at in
      sound_and_fault bad.bytes line kind (subst IsSound is (sound place [] within)) bad.fault

  one_place : (place other line lines : ℕ) (kind kinds : StreamKind)
      → IsFirstBad files place line kind → IsFirstBad files other lines kinds → place ≡ other
  one_place place other line lines kind kinds bad also =
      elim (cases_order place other) [
        | inl same ↦ same
        | inr apart ↦ elim apart [
          | inl less ↦ absurd (none_before other place line kind less also.before bad)
          | inr more ↦ absurd (none_before place other lines kinds more bad.before also)
        ]
      ]

  one_there : (place line other : ℕ) (kind kinds : StreamKind)
      → IsFirstBad files place line kind → IsFirstBad files place other kinds
      → (line ≡ other) × (kind ≡ kinds)
  one_there place line other kind kinds bad also =
      let same : also.bytes ≡ bad.bytes = let a = bad.at in let b = also.at in cc in
      one_first line_step no_lines (lines.lines_of bad.bytes) line other kind kinds bad.fault
      (subst (λ (bytes : List ℕ). IsFault bytes other kinds) same also.fault)

  -- files have one first fault
  pub one_bad : (place other line lines : ℕ) (kind kinds : StreamKind)
      → IsFirstBad files place line kind → IsFirstBad files other lines kinds
      → (place ≡ other) × (line ≡ lines) × (kind ≡ kinds)
  one_bad place other line lines kind kinds bad also =
      let same = one_place place other line lines kind kinds bad also in
      let there = one_there place line lines kind kinds bad
      (subst (λ (n : ℕ). IsFirstBad files n lines kinds) (sym same) also) in
      (same, there.0, there.1)

-- The channel declared last.
use Rattle.std.proofs.Common.{◌≡◌, ◌-◌, List, [], ◌∷◌, ◌++◌, length, Some, refl, arith}
use Rattle.std.specs.Prelude.{slice_get}
use Rattle.std.proofs.Math.Seq.{take-append_seam}
use Rattle.std.proofs.lemmas.List.{length_push}
use Rattle.cal_script.specs.declared.script.Channel.{Channel}
use Rattle.cal_script.specs.Reading.{last_channel, earlier_channels}

slice_get_pushed : {A : Type 0} (xs : List A) (x : A) → slice_get (xs ++ x ∷ []) (length xs) ≡ Some x
slice_get_pushed [] x = refl
slice_get_pushed (y ∷ xs) x = slice_get_pushed xs x

last_place : (xs : List Channel) (x : Channel) → length (xs ++ x ∷ []) - 1 ≡ length xs
last_place xs x = omega (arith, length_push xs x)

pub last_pushed : (old xs : List Channel) (x : Channel) → old ≡ xs ++ x ∷ [] → last_channel old ≡ Some x
last_pushed old xs x is = rw (is, last_place xs x) (slice_get_pushed xs x)

pub earlier_pushed : (old xs : List Channel) (x : Channel) → old ≡ xs ++ x ∷ [] → earlier_channels old ≡ xs
earlier_pushed old xs x is = rw (is, last_place xs x) (take-append_seam xs (x ∷ []))

use Rattle.std.proofs.Common.{◌≡◌, ℕ, ◌+◌, ◌-◌, ◌<◌, ◌≤◌, List, ◌++◌, length, Option, None, Some, IfSome, Result, Ok, Err, IfOk, IsErr, Vec, Global, refl, sym, ap, ◌∙◌, append_assoc, append-nil, length-append, arith}
use Rattle.std.proofs.lemmas.Option.{IfSome_then}
use Rattle.std.specs.Io.KnownBytes.{IsAtEnd}
use Rattle.cal_base.specs.declared.reading.ReadEnd.{ReadEnd}
use Rattle.cal_base.specs.declared.reading.ReadEnd.TheVariants as read
use Rattle.cal_base.specs.Change.{Change}
use Rattle.cal_base.specs.ReadEnds.{ReadsAll, StopsAt}
use Rattle.cal_base.specs.Told.{Takes, TakesUpTo}

-- what was taken first, and then more
pub Takes-append : (a b c : Option (List ℕ)) (xs ys : List ℕ) → Takes a b xs → Takes b c ys
    → Takes a c (xs ++ ys)
Takes-append None None None xs ys first then = tt
Takes-append None None (Some c) xs ys first then = then
Takes-append None (Some b) c xs ys first then = absurd first
Takes-append (Some a) None c xs ys first then = absurd first
Takes-append (Some a) (Some b) None xs ys first then = then
Takes-append (Some a) (Some b) (Some c) xs ys first then =
    first ∙ ap (λ rest. xs ++ rest) then ∙ sym (append_assoc xs ys c)

-- so many bytes, first and then
pub TakesUpTo-read : (limit : ℕ) (a b c : Option (List ℕ)) (xs ys : List ℕ) → Takes a b xs
    → Takes b c ys → length xs + length ys ≤ limit → TakesUpTo limit a c
TakesUpTo-read limit a b c xs ys first then within =
    (xs ++ ys, omega (arith, length-append xs ys), Takes-append a b c xs ys first then)

-- what was taken first, and then why no more came
pub StopsAt-then : (end : ReadEnd) (limit : ℕ) (a b c : Option (List ℕ)) (f g h : ℕ)
    (xs : List ℕ) → Takes a b xs → length xs ≤ limit → f ≤ g
    → StopsAt end (limit - length xs)
    (record { old = b; new = c; faults_before = g; faults_now = h })
    → StopsAt end limit (record { old = a; new = c; faults_before = f; faults_now = h })
StopsAt-then read.ReadFault limit a b c f g h xs first within later stops = (
  omega arith,
  TakesUpTo-read limit a b c xs stops.1.0 first stops.1.2 (omega (arith, stops.1.1)),
)
StopsAt-then read.TooLong limit a b c f g h xs first within later stops = (
  xs ++ stops.0,
  omega (arith, length-append xs stops.0, stops.1),
  Takes-append a b c xs stops.0 first stops.2,
)
StopsAt-then read.OutOfMemory limit a b c f g h xs first within later stops =
    TakesUpTo-read limit a b c xs stops.0 first stops.2 (omega (arith, stops.1))

-- what was taken to the end was all that was left
Takes-left : (old new : Option (List ℕ)) (bytes : List ℕ) → Takes old new bytes → IsAtEnd new
    → IfSome old (λ left. left ≡ bytes)
Takes-left None new bytes taken ended = tt
Takes-left (Some old) None bytes taken ended = absurd taken
Takes-left (Some old) (Some new) bytes taken ended =
    taken ∙ ap (λ rest. bytes ++ rest) ended ∙ append-nil bytes

pub ReadsAll-left : (limit : ℕ) (input : Change) (bytes : List ℕ) → ReadsAll limit input bytes
    → IfSome input.old (λ left. left ≡ bytes)
ReadsAll-left limit input bytes reads = Takes-left input.old input.new bytes reads.taken reads.ended

every_left : (old : Option (List ℕ)) {P : List ℕ → Type 0} → ((left : List ℕ) → P left)
    → IfSome old P
every_left None p = tt
every_left (Some left) p = p left

-- what is longer than the limit isn't given whole
pub ReadsAll-refused : (limit : ℕ) (input : Change) (given : Result (Vec ℕ Global) ReadEnd)
    → IfOk given (λ bytes. ReadsAll limit input bytes.items)
    → IfSome input.old (λ left. limit < length left → IsErr given)
ReadsAll-refused limit input (Ok bytes) reads =
    IfSome_then input.old (ReadsAll-left limit input bytes.items reads) (λ left same over.
    absurd (omega (arith, ap length same, reads.within)))
ReadsAll-refused limit input (Err e) reads = every_left input.old (λ left over. refl)

-- What a writer of std holds grows by a piece, write by write.
use Rattle.std.proofs.Common.{ℕ, ◌+◌, ◌-◌, List, length, take, drop, Option, Result, Ok, Err, OnErr}
use Rattle.std.proofs.KnownBytes.{Appends-trans, Appends-kept}
use Rattle.std.proofs.Math.Seq.{take-add, take-length}
use Rattle.std.proofs.lemmas.List.{take_rest}
use Rattle.std.specs.Io.KnownBytes.{Appends, Keeps}
use Rattle.cal_base.specs.Standard.{GrowsByFront}

-- a front, and then a front of what is left
pub Appends-next : (a b c : Option (List ℕ)) (bytes : List ℕ) (done count : ℕ)
    → Appends a b (take done bytes)
    → Appends b c (take count (take (length bytes - done) (drop done bytes)))
    → Appends a c (take (done + count) bytes)
Appends-next a b c bytes done count first then =
    rw take-add (Appends-trans a b c (take done bytes) (take count (drop done bytes)) first
    (rw take_rest at then))

-- a piece whole is a front of it too, where what comes behind it fails
pub GrowsByFront-whole : {T E : Type 0} (then : Result T E) (a b c : Option (List ℕ))
    (bytes : List ℕ) → Appends a b bytes → Keeps b c → OnErr then (GrowsByFront a c bytes)
GrowsByFront-whole (Ok x) a b c bytes first kept = tt
GrowsByFront-whole (Err e) a b c bytes first kept =
    (length bytes, rw take-length (Appends-kept a b c bytes first kept))

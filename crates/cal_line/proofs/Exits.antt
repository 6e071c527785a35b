use Rattle.std.proofs.Common.{◌≡◌, ℕ, ◌+◌, List, [], ◌∷◌, ◌++◌, take, Some, Err, ap, ◌∙◌}
use Rattle.std.specs.List.{slice_get}
use Rattle.std.proofs.lemmas.List.{take_more}
use Rattle.std.proofs.lemmas.Option.{slice_get_within, get_or_from_slice_get}
use Rattle.std.specs.Result.{IsErrOf}

-- an error is the same at another type of answers
pub err-across : {T U E : Type 0} {d e : E} → IsErrOf {T = T} {E = E} (Err d) e → IsErrOf {T = U} {E = E} (Err d) e
err-across {T} {U} {E} {d} {e} bad = let same : d ≡ e = cc in ap Err same

-- a front with the item that was found behind it
pub take-found : {X : Type 0} (xs : List X) (place : ℕ) (x : X) → slice_get xs place ≡ Some x → take (place + 1) xs ≡ take place xs ++ x ∷ []
take-found {X} xs place x found =
    take_more xs place x (slice_get_within xs place x found) ∙ ap (λ (y : X). take place xs ++ y ∷ []) (get_or_from_slice_get xs place x x found)

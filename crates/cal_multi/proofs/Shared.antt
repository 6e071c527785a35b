-- Lists of shares, one item after another.
use Rattle.std.proofs.Common.{◌≡◌, ℕ, suc, ◌<◌, List, [], ◌∷◌, ◌++◌, length, map, get_or}
use Rattle.std.proofs.Common.{refl, sym, subst, arith}
use Rattle.std.specs.Prelude.{All, Some, slice_get}
use Rattle.std.proofs.lemmas.List.{length-append}
use Rattle.std.proofs.lemmas.Option.{same_Some}
use Rattle.std.proofs.Math.Seq.{get_or-append_seam}

-- what is made of each item is what stands at its place
pub mapped-each : {A B : Type 0} (f : A → B) (xs : List A) (ys : List B) → length xs ≡ length ys
    → ((k : ℕ) (d : A) → k < length ys → slice_get ys k ≡ Some (f (get_or xs k d)))
    → map f xs ≡ ys
mapped-each f [] [] long each = refl
mapped-each f [] (y ∷ ys) long each = absurd (omega (arith, long))
mapped-each f (x ∷ xs) [] long each = absurd (omega (arith, long))
mapped-each f (x ∷ xs) (y ∷ ys) long each =
    let head = same_Some (f x) y (sym (each 0 x (omega arith))) in
    let rest = mapped-each f xs ys (omega (arith, long))
    (λ k d less. each (suc k) d (omega (arith, less))) in
    (λ i. head i ∷ rest i)

-- what holds of all holds of the item between others
pub between : {A : Type 0} (P : A → Type 0) (xs rest : List A) (x : A) → All P (xs ++ x ∷ rest)
    → P x
between P xs rest x all =
    let long = length-append xs (x ∷ rest) in
    subst P (get_or-append_seam xs x rest x) (all (length xs) x (omega (arith, long)))

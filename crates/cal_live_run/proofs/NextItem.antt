-- The next item of a list of which some are done.
use Rattle.std.proofs.Common.{◌≡◌, ◌<◌, List, ◌∷◌, ◌++◌, length, get_or, ap, arith}
use Rattle.std.proofs.Common.{sym, subst}
use Rattle.std.specs.Prelude.{All}
use Rattle.std.proofs.lemmas.List.{length-append}
use Rattle.std.proofs.Math.Seq.{get_or-append_seam}

module _ {A : Type 0} (all done rest : List A) (one : A) (split : done ++ one ∷ rest ≡ all) where
  -- it is within the list
  pub within-all : length done < length all
  within-all =
      let long = ap length split in
      let sum = length-append done (one ∷ rest) in
      omega (arith, long, sum)

  -- and of it is true what is true of all
  pub next-has : (P : A → Type 0) → All P all → P one
  next-has P has =
      let there = subst (λ (xs : List A). P (get_or xs (length done) one)) (sym split)
      (has (length done) one within-all) in
      subst P (get_or-append_seam done one rest one) there

-- Nothing comes behind the last message.
use Rattle.std.proofs.Common.{◌≡◌, true, Option, Some, None, List, [], ◌∷◌, ◌++◌, refl}
use Rattle.cal_mail.specs.Messages.{ended_with, has_last}

pub whole : {T : Type 0} (got left : List (Option T)) (parts : List T) → got ++ left ≡ ended_with parts → has_last got ≡ true → got ≡ ended_with parts
whole [] left parts e last = absurd cc
whole (None ∷ got) left [] e last = rest got left cc
  where
    rest : {A : Type 0} (xs ys : List (Option A)) → xs ++ ys ≡ [] → None ∷ xs ≡ None ∷ []
    rest [] ys e = refl
    rest (x ∷ xs) ys e = absurd cc
whole (None ∷ got) left (x ∷ parts) e last = absurd cc
whole (Some y ∷ got) left [] e last = absurd cc
whole (Some y ∷ got) left (x ∷ parts) e last =
    let tail : got ++ left ≡ ended_with parts = cc in
    let head : y ≡ x = cc in
    λ i. Some (head i) ∷ whole got left parts tail last i

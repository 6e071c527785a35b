-- Records of threads in another order: what each has left, and behind it what all gave.
use Rattle.std.proofs.Common.{◌≡◌, List, [], ◌∷◌, ◌++◌, sym, ap, ◌∙◌, append_assoc, append-nil}
use Rattle.std.proofs.Common.{IsPermutation, refl, subst}
use Rattle.std.specs.List.{flat_map}
use Rattle.std.proofs.lemmas.List.Sorted.{IsPermutation-append, IsPermutation-append_comm}
use Rattle.std.proofs.lemmas.List.Sorted.{IsPermutation-append_left}
use Rattle.std.proofs.lemmas.List.Sorted.{IsPermutation-append_right, IsPermutation-trans}
use Rattle.cal_replay.specs.Channels.{joined}
use Rattle.cal_value.specs.declared.record.Rec.{Rec}

-- the second list and the third one change places
exchanged : {A : Type 0} (xs ys zs ws : List A)
    → IsPermutation ((xs ++ ys) ++ (zs ++ ws)) ((xs ++ zs) ++ (ys ++ ws))
exchanged xs ys zs ws =
    subst (λ l. IsPermutation l ((xs ++ zs) ++ (ys ++ ws))) (sym (append_assoc xs ys (zs ++ ws)))
    (subst (λ l. IsPermutation (xs ++ (ys ++ (zs ++ ws))) l)
    (sym (append_assoc xs zs (ys ++ ws)))
    (IsPermutation-append_right xs (ys ++ (zs ++ ws)) (zs ++ (ys ++ ws)) middle))
  where
    middle : IsPermutation (ys ++ (zs ++ ws)) (zs ++ (ys ++ ws))
    middle =
        subst (λ l. IsPermutation l (zs ++ (ys ++ ws))) (append_assoc ys zs ws)
        (subst (λ l. IsPermutation ((ys ++ zs) ++ ws) l) (append_assoc zs ys ws)
        (IsPermutation-append_left ws (ys ++ zs) (zs ++ ys) (IsPermutation-append_comm ys zs)))

-- Of one thread more, which gave the first parts and has left the rest, the rest stands before all
-- that was left, and the parts before all that was given.
pub order-more : {A : Type 0} (given left given_more left_more all : List A)
    → IsPermutation (left_more ++ given_more) all
    → IsPermutation ((left ++ left_more) ++ (given ++ given_more)) ((given ++ left) ++ all)
order-more given left given_more left_more all h =
    IsPermutation-trans ((left ++ left_more) ++ (given ++ given_more))
    ((left ++ given) ++ (left_more ++ given_more)) ((given ++ left) ++ all)
    (exchanged left left_more given given_more)
    (IsPermutation-append (left ++ given) (given ++ left) (left_more ++ given_more) all
    (IsPermutation-append_comm left given) h)

-- parts, and then others
pub joined-append : (xs ys : List (List Rec)) → joined (xs ++ ys) ≡ joined xs ++ joined ys
joined-append [] ys = refl
joined-append (x ∷ xs) ys = ap (λ (recs : List Rec). x ++ recs) (joined-append xs ys)
    ∙ sym (append_assoc x (joined xs) (joined ys))

-- parts, and one more, are what they hold one behind another
pub joined-snoc : (xs : List (List Rec)) (x : List Rec)
    → flat_map (λ (part : List Rec). part) (xs ++ x ∷ []) ≡ joined xs ++ x
joined-snoc [] x = append-nil x
joined-snoc (y ∷ xs) x = ap (λ (recs : List Rec). y ++ recs) (joined-snoc xs x)
    ∙ sym (append_assoc y (joined xs) x)

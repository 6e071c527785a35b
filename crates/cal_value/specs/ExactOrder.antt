use Rattle.std.specs.Prelude.{◌≡◌, Bool, true, List, [], ◌∷◌, IsTrue}
use Rattle.std.proofs.Common.{refl, ap, subst}
use Rattle.std.specs.declared.cmp.Ordering.{Ordering}
use Rattle.std.specs.declared.cmp.Ordering.TheVariants.{Less, Equal, Greater}
use Rattle.std.specs.Bool.{Decides, one_answer}
use Rattle.std.specs.Ordering.{nat_cmp, int_cmp, eq_by_cmp, ordering_then}
use Rattle.std.specs.Cmp.{IsTotalOrder, IsEquivalence, IsPartialEquivalence}
use Rattle.std.specs.Cmp.{partial_equiv_from_equiv, eq_by_cmp_equiv, nat_cmp_total, int_cmp_total}
use Rattle.std.specs.Cmp.{first_so, second_so}
use Rattle.std.specs.Cmp.Lexicographic.{slice_cmp, lists_total, pointwise, pointwise_decides}
use Rattle.std.proofs.lemmas.Map.Lookups.{exact_signed, exact_unsigned}
use Rattle.std.proofs.lemmas.Map.Views.{tells_apart}
use Rattle.cal_value.specs.Texts.{text_cmp}

-- a total order that tells any two values apart
pub record IsExactOrder {K : Type 0} (R : K → K → Ordering) : Type 0 where
  pub total : IsTotalOrder R
  pub exact : (x y : K) → R x y ≡ Equal → x ≡ y

module _ {K : Type 0} {R : K → K → Ordering} (o : IsExactOrder R) where
  -- its equality is an equivalence
  pub exact_equiv : IsEquivalence (eq_by_cmp R)
  exact_equiv = eq_by_cmp_equiv o.total

  pub exact_per : IsPartialEquivalence (eq_by_cmp R)
  exact_per = partial_equiv_from_equiv exact_equiv

  -- what the order calls equal is the same value
  pub exact_decides : (x y : K) → Decides (eq_by_cmp R x y) (x ≡ y)
  exact_decides x y =
      (tells_apart o.exact x y, λ e. subst (λ z. eq_by_cmp R x z ≡ true) e (exact_equiv.refl x))

  -- a test of whether two values are the same answers as the order does
  pub exact_answer : (x y : K) (r : Bool) → Decides r (x ≡ y) → r ≡ eq_by_cmp R x y
  exact_answer x y r d = one_answer r (eq_by_cmp R x y) d (exact_decides x y)

  -- where it answers Equal the values are the same
  pub exact_tells : (x y : K) → IsTrue (eq_by_cmp R x y) → x ≡ y
  exact_tells = tells_apart o.exact

  -- so each function gives equal values alike
  pub exact_alike : {H : Type 0} (f : K → H) (x y : K) → IsTrue (eq_by_cmp R x y) → f x ≡ f y
  exact_alike f x y t = ap f (exact_tells x y t)

-- two answers in a row are Equal where both are
ordering_then-Equal : (r s : Ordering) → ordering_then r s ≡ Equal → (r ≡ Equal) × (s ≡ Equal)
ordering_then-Equal Less s e = cc
ordering_then-Equal Equal s e = (refl, e)
ordering_then-Equal Greater s e = cc

-- where two orders in a row find no difference, neither does the first
pub exact_first :
    {K : Type 0} {R : K → K → Ordering} (o : IsExactOrder R) (x y : K) (s : Ordering)
    → ordering_then (R x y) s ≡ Equal → (x ≡ y) × (s ≡ Equal)
exact_first {K} {R} o x y s e =
    let h = ordering_then-Equal (R x y) s e in (o.exact x y h.0, h.1)

-- numbers, and lists of what an exact order tells apart
pub nat_exact : IsExactOrder nat_cmp
nat_exact = record { total = nat_cmp_total; exact = exact_unsigned }

pub int_exact : IsExactOrder int_cmp
int_exact = record { total = int_cmp_total; exact = exact_signed }

lists_tied :
    {K : Type 0} {R : K → K → Ordering} (o : IsExactOrder R) (xs ys : List K)
    → slice_cmp R xs ys ≡ Equal → xs ≡ ys
lists_tied o [] [] e = refl
lists_tied o [] (y ∷ ys) e = cc
lists_tied o (x ∷ xs) [] e = cc
lists_tied {K} {R} o (x ∷ xs) (y ∷ ys) e =
    let h = exact_first o x y (slice_cmp R xs ys) e in
    λ i. h.0 i ∷ lists_tied o xs ys h.1 i

-- a test that tells any two items apart does so for lists
pub lists_tell :
    {K : Type 0} {E : K → K → Bool} → ((x y : K) → IsTrue (E x y) → x ≡ y)
    → (xs ys : List K) → IsTrue (pointwise E xs ys) → xs ≡ ys
lists_tell tells [] [] h = refl
lists_tell tells [] (y ∷ ys) h = cc
lists_tell tells (x ∷ xs) [] h = cc
lists_tell {K} {E} tells (x ∷ xs) (y ∷ ys) h =
    let first = tells x y (first_so (E x y) (pointwise E xs ys) h) in
    let rest = lists_tell tells xs ys (second_so (E x y) (pointwise E xs ys) h) in
    λ i. first i ∷ rest i

-- the test of lists that an exact order's equality makes is whether they are the same
pub lists_decides :
    {K : Type 0} {R : K → K → Ordering} → IsExactOrder R
    → (xs ys : List K) → Decides (pointwise (eq_by_cmp R) xs ys) (xs ≡ ys)
lists_decides o = pointwise_decides (exact_decides o)

pub lists_exact : {K : Type 0} {R : K → K → Ordering} → IsExactOrder R → IsExactOrder (slice_cmp R)
lists_exact o = record { total = lists_total o.total; exact = lists_tied o }

pub text_exact : IsExactOrder text_cmp
text_exact = lists_exact nat_exact

-- What equal numbers bring together.
use Rattle.std.proofs.Common.{◌≡◌, ℕ, zero, suc, ℤ, pos, ◌+ℤ◌, List, [], ◌∷◌, refl, sym, ap, ◌∙◌}
use Rattle.std.proofs.Common.{arith, Some, replicate}
use Rattle.std.specs.Prelude.{◌-ℤ◌, ◌*ℤ◌}
use Rattle.std.specs.Int.{int_max, int_min}
use Rattle.std.proofs.Math.IntN.{+ℤ_comm, suc_ℤ-*ℤ, zero-*ℤ}
use Rattle.std.proofs.lemmas.Int.{clamps, ints}
use Rattle.cal_agg.specs.declared.num.Num.{Num}
use Rattle.cal_agg.specs.declared.num.Num.TheVariants.{Whole, Fixed}
use Rattle.cal_profile.specs.StandIns.{brought}
use Rattle.cal_profile.specs.TableRows.{others_of}
use Rattle.cal_profile.proofs.Bringing.{brought-append, found_alone, paired_some}
use Rattle.cal_ql.specs.declared.names.KernelName.TheVariants as kernel

-- ---- an end of equal numbers is each of them

least_two : (n : Num) → paired_some int_min (Some n) (Some n) ≡ Some n
least_two (Whole z) = ap (λ x. Some (Whole x)) (omega (arith, ints, clamps))
least_two (Fixed z) = ap (λ x. Some (Fixed x)) (omega (arith, ints, clamps))

most_two : (n : Num) → paired_some int_max (Some n) (Some n) ≡ Some n
most_two (Whole z) = ap (λ x. Some (Whole x)) (omega (arith, ints, clamps))
most_two (Fixed z) = ap (λ x. Some (Fixed x)) (omega (arith, ints, clamps))

pub least_equal : (n : Num) (more : ℕ) → brought kernel.Min (replicate (suc more) n) ≡ Some n
least_equal n zero = found_alone int_min n
least_equal n (suc more) =
    brought-append kernel.Min (n ∷ []) (replicate (suc more) n)
    ∙ (λ i. paired_some int_min (found_alone int_min n i) (least_equal n more i)) ∙ least_two n

pub most_equal : (n : Num) (more : ℕ) → brought kernel.Max (replicate (suc more) n) ≡ Some n
most_equal n zero = found_alone int_max n
most_equal n (suc more) =
    brought-append kernel.Max (n ∷ []) (replicate (suc more) n)
    ∙ (λ i. paired_some int_max (found_alone int_max n i) (most_equal n more i)) ∙ most_two n

-- ---- their sum is one of them with the others

-- a number and so many more of it
sum_with : ℕ → ℤ → ℤ
sum_with more z = z +ℤ (pos more *ℤ z)

with_none : (z : ℤ) → z ≡ sum_with zero z
unfolding sum_with
with_none z = let none = zero-*ℤ z in rw none (omega (arith, ints))

with_one : (more : ℕ) (z : ℤ) → z +ℤ sum_with more z ≡ sum_with (suc more) z
unfolding sum_with
with_one more z =
    ap (λ x. z +ℤ x) (+ℤ_comm z (pos more *ℤ z) ∙ sym (suc_ℤ-*ℤ (pos more) z))

-- a whole or fixed number with others
sum_of_equal : ℕ → Num → Num
sum_of_equal more (Whole z) = Whole (sum_with more z)
sum_of_equal more (Fixed z) = Fixed (sum_with more z)

first_equal : (n : Num) → n ≡ sum_of_equal zero n
unfolding sum_of_equal
first_equal (Whole z) = ap Whole (with_none z)
first_equal (Fixed z) = ap Fixed (with_none z)

next_equal : (n : Num) (more : ℕ)
    → paired_some ◌+ℤ◌ (Some n) (Some (sum_of_equal more n)) ≡ Some (sum_of_equal (suc more) n)
unfolding sum_of_equal
next_equal (Whole z) more = ap (λ x. Some (Whole x)) (with_one more z)
next_equal (Fixed z) more = ap (λ x. Some (Fixed x)) (with_one more z)

sum_equal : (n : Num) (more : ℕ)
    → brought kernel.Sum (replicate (suc more) n) ≡ Some (sum_of_equal more n)
sum_equal n zero = found_alone ◌+ℤ◌ n ∙ ap Some (first_equal n)
sum_equal n (suc more) =
    brought-append kernel.Sum (n ∷ []) (replicate (suc more) n)
    ∙ (λ i. paired_some ◌+ℤ◌ (found_alone ◌+ℤ◌ n i) (sum_equal n more i)) ∙ next_equal n more

less_one : (more : ℕ) → pos (suc more) -ℤ pos 1 ≡ pos more
less_one more = omega (arith, ints)

sum_split : (n : Num) (more : ℕ)
    → brought kernel.Sum (n ∷ others_of (pos (suc more)) n ∷ []) ≡ Some (sum_of_equal more n)
unfolding sum_of_equal sum_with
sum_split (Whole z) more = ap (λ k. Some (Whole (z +ℤ (k *ℤ z)))) (less_one more)
sum_split (Fixed z) more = ap (λ k. Some (Fixed (z +ℤ (k *ℤ z)))) (less_one more)

-- One number with what is left of the sum brings what all of them do.
pub sum_shared : (n : Num) (more : ℕ) → brought kernel.Sum (n ∷ others_of (pos (suc more)) n ∷ [])
    ≡ brought kernel.Sum (replicate (suc more) n)
sum_shared n more = sum_split n more ∙ sym (sum_equal n more)

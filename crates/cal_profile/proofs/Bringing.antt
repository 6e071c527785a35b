-- What numbers bring can be added up, in any order, and what was brought brings itself.
use Rattle.std.proofs.Common.{◌≡◌, ℤ, pos, ◌+ℤ◌, List, [], ◌∷◌, ◌++◌, refl, sym, ap, ◌∙◌}
use Rattle.std.proofs.Common.{Option, None, Some, option_and_then}
use Rattle.std.specs.Option.{option_to_list}
use Rattle.std.specs.Int.{int_min, int_max}
use Rattle.std.proofs.Math.IntN.{+ℤ_idl, +ℤ_comm}
use Rattle.cal_agg.specs.Joins.{IsJoin, sum_joins, least_joins, greatest_joins}
use Rattle.cal_agg.specs.Joins.{parts_by-append, count_of-append}
use Rattle.cal_agg.specs.Numbers.{measure, nano_units}
use Rattle.cal_agg.specs.Parts.{parts_by}
use Rattle.cal_agg.specs.Results.{both, count_of, found, kept, percent_of, together}
use Rattle.cal_agg.specs.Shown.{found-together, value_at, value_by}
use Rattle.cal_agg.specs.declared.num.Num.{Num}
use Rattle.cal_agg.specs.declared.num.Num.TheVariants.{Whole, Fixed}
use Rattle.cal_parts.specs.Kernels.{result_of}
use Rattle.cal_profile.specs.StandIns.{brought}
use Rattle.cal_ql.specs.declared.names.KernelName as kernels
use Rattle.cal_ql.specs.declared.names.KernelName.TheVariants as kernel

-- two numbers taken together: whole where both are
abbrev pub paired : (ℤ → ℤ → ℤ) → Num → Num → Num
paired join (Whole x) (Whole y) = Whole (join x y)
paired join m n = Fixed (join (measure m) (measure n))

-- of which either may be missing
abbrev pub paired_some : (ℤ → ℤ → ℤ) → Option Num → Option Num → Option Num
paired_some join None n = n
paired_some join (Some m) None = Some m
paired_some join (Some m) (Some n) = Some (paired join m n)

module _ {join : ℤ → ℤ → ℤ} (joins : IsJoin join) where
  swap : (x y z : ℤ) → join x (join y z) ≡ join y (join x z)
  swap x y z =
      sym (joins.associative x y z) ∙ ap (λ w. join w z) (joins.commutative x y)
      ∙ joins.associative y x z

  fixed : {x y : ℤ} → x ≡ y → Some (Fixed x) ≡ Some (Fixed y)
  fixed e = ap (λ z. Some (Fixed z)) e

  -- a whole number that is taken in is measured by itself
  measured_first : (w v g : ℤ)
      → join (nano_units (join w v)) g ≡ join (nano_units w) (join (nano_units v) g)
  measured_first w v g =
      ap (λ z. join z g) (joins.measured w v) ∙ joins.associative (nano_units w) (nano_units v) g

  -- what merged parts come to
  value_merged : (w f v g : Option ℤ) → value_at join (both join w v) (both join f g)
      ≡ paired_some join (value_at join w f) (value_at join v g)
  value_merged None None v g = refl
  value_merged (Some w) None None None = refl
  value_merged None (Some f) None None = refl
  value_merged (Some w) (Some f) None None = refl
  value_merged (Some w) None (Some v) None = refl
  value_merged (Some w) None None (Some g) = refl
  value_merged (Some w) None (Some v) (Some g) = fixed (measured_first w v g)
  value_merged None (Some f) (Some v) None = fixed (joins.commutative (nano_units v) f)
  value_merged None (Some f) None (Some g) = refl
  value_merged None (Some f) (Some v) (Some g) = fixed (swap (nano_units v) f g)
  value_merged (Some w) (Some f) (Some v) None = fixed (
      measured_first w v f
      ∙ ap (join (nano_units w)) (joins.commutative (nano_units v) f)
      ∙ sym (joins.associative (nano_units w) f (nano_units v)))
  value_merged (Some w) (Some f) None (Some g) =
      fixed (sym (joins.associative (nano_units w) f g))
  value_merged (Some w) (Some f) (Some v) (Some g) = fixed (
      measured_first w v (join f g)
      ∙ ap (join (nano_units w)) (swap (nano_units v) f g)
      ∙ sym (joins.associative (nano_units w) f (join (nano_units v) g)))

  found-append : (ns ms : List Num) → found (together join) (ns ++ ms)
      ≡ paired_some join (found (together join) ns) (found (together join) ms)
  found-append ns ms =
      let one = parts_by join ns in
      let other = parts_by join ms in
      found-together joins (ns ++ ms)
      ∙ ap (value_by join) (parts_by-append joins ns ms)
      ∙ value_merged one.whole one.fixed other.whole other.fixed
      ∙ (λ i. paired_some join (sym (found-together joins ns) i) (sym (found-together joins ms) i))

  paired_some-swap : (m n : Option Num) → paired_some join m n ≡ paired_some join n m
  paired_some-swap None None = refl
  paired_some-swap None (Some n) = refl
  paired_some-swap (Some m) None = refl
  paired_some-swap (Some (Whole x)) (Some (Whole y)) =
      ap (λ z. Some (Whole z)) (joins.commutative x y)
  paired_some-swap (Some (Whole x)) (Some (Fixed y)) = fixed (joins.commutative (nano_units x) y)
  paired_some-swap (Some (Fixed x)) (Some (Whole y)) = fixed (joins.commutative x (nano_units y))
  paired_some-swap (Some (Fixed x)) (Some (Fixed y)) = fixed (joins.commutative x y)

pub found_alone : (join : ℤ → ℤ → ℤ) (n : Num) → found (together join) (n ∷ []) ≡ Some n
found_alone join (Whole z) = refl
found_alone join (Fixed z) = refl

found_again : (join : ℤ → ℤ → ℤ) (o : Option Num) → found (together join) (option_to_list o) ≡ o
found_again join None = refl
found_again join (Some n) = found_alone join n

-- ---- in a kernel

-- how a kernel takes numbers together
abbrev pub join_of : kernels.KernelName → ℤ → ℤ → ℤ
join_of kernel.Min = int_min
join_of kernel.Max = int_max
join_of _ = ◌+ℤ◌

abbrev pub bringing : kernels.KernelName → Option Num → Option Num → Option Num
bringing k = paired_some (join_of k)

joins_of : (k : kernels.KernelName) → IsJoin (join_of k)
joins_of kernel.Min = least_joins
joins_of kernel.Max = greatest_joins
joins_of kernel.Count = sum_joins
joins_of kernel.Sum = sum_joins
joins_of kernel.Avg = sum_joins
joins_of kernel.Inclusive = sum_joins
joins_of kernel.Percent = sum_joins

pub brought-append : (k : kernels.KernelName) (ns ms : List Num)
    → brought k (ns ++ ms) ≡ bringing k (brought k ns) (brought k ms)
brought-append kernel.Count ns ms = ap (λ z. Some (Whole z)) (count_of-append ns ms)
brought-append kernel.Min ns ms = found-append least_joins ns ms
brought-append kernel.Max ns ms = found-append greatest_joins ns ms
brought-append kernel.Sum ns ms = found-append sum_joins ns ms
brought-append kernel.Avg ns ms = found-append sum_joins ns ms
brought-append kernel.Inclusive ns ms = found-append sum_joins ns ms
brought-append kernel.Percent ns ms = found-append sum_joins ns ms

pub brought-swap : (k : kernels.KernelName) (ns ms : List Num)
    → brought k (ns ++ ms) ≡ brought k (ms ++ ns)
brought-swap k ns ms =
    brought-append k ns ms ∙ paired_some-swap (joins_of k) (brought k ns) (brought k ms)
    ∙ sym (brought-append k ms ns)

-- what was brought brings itself
pub brought_again : (k : kernels.KernelName) (ns : List Num)
    → brought k (option_to_list (brought k ns)) ≡ brought k ns
brought_again kernel.Count ns =
    ap (λ z. Some (Whole z)) (+ℤ_comm (count_of ns) (pos 0) ∙ +ℤ_idl (count_of ns))
brought_again kernel.Min ns = found_again int_min (brought kernel.Min ns)
brought_again kernel.Max ns = found_again int_max (brought kernel.Max ns)
brought_again kernel.Sum ns = found_again ◌+ℤ◌ (brought kernel.Sum ns)
brought_again kernel.Avg ns = found_again ◌+ℤ◌ (brought kernel.Sum ns)
brought_again kernel.Inclusive ns = found_again ◌+ℤ◌ (brought kernel.Sum ns)
brought_again kernel.Percent ns = found_again ◌+ℤ◌ (brought kernel.Sum ns)

-- ---- results depend on what was brought alone

-- numbers bring the same
pub record BringSame (k : kernels.KernelName) (a b c x y z : List Num) : Type 0 where
  pub own : brought k a ≡ brought k x
  pub all : brought k b ≡ brought k y
  pub below : brought k c ≡ brought k z

pub result_of-same : (k : kernels.KernelName) (own all below own' all' below' : List Num)
    → (k ≡ kernel.Avg → ⊥) → BringSame k own all below own' all' below'
    → result_of k own all below ≡ result_of k own' all' below'
result_of-same kernel.Count own all below own' all' below' added h = h.own
result_of-same kernel.Min own all below own' all' below' added h = h.own
result_of-same kernel.Max own all below own' all' below' added h = h.own
result_of-same kernel.Sum own all below own' all' below' added h = ap (option_and_then kept) h.own
result_of-same kernel.Avg own all below own' all' below' added h = absurd (added refl)
result_of-same kernel.Inclusive own all below own' all' below' added h =
    ap (option_and_then kept) h.below
result_of-same kernel.Percent own all below own' all' below' added h =
    λ i. option_and_then
    (λ s. option_and_then (percent_of s) (option_and_then kept (h.all i)))
    (option_and_then kept (h.own i))

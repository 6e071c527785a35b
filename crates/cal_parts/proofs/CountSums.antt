-- A sum of whole numbers is their count.
use Rattle.std.proofs.Common.{◌≡◌, ◌+◌, false, List, [], ◌∷◌, Option, None, Some, if◌then◌else◌, map, refl, sym, ap, ◌∙◌}
use Rattle.std.specs.Prelude.{ℤ, ◌+ℤ◌, option_and_then, option_map, unwrap_or, pos}
use Rattle.std.proofs.Math.IntN.{+ℤ_idr}
use Rattle.cal_agg.specs.Numbers.{measure, number, some_fixed}
use Rattle.cal_agg.specs.Results.{both, count_of, kept, sum_of, together}
use Rattle.cal_agg.specs.declared.num.Num.{Num}
use Rattle.cal_agg.specs.declared.num.Num.TheVariants.{Whole, Fixed}

together_counts : (ns : List Num) → unwrap_or (together ◌+ℤ◌ (map number ns)) (pos 0) ≡ count_of ns
together_counts [] = refl
together_counts (n ∷ ns) = by (together ◌+ℤ◌ (map number ns)) (together_counts ns)
  where
    by : (t : Option ℤ) → unwrap_or t (pos 0) ≡ count_of ns
        → unwrap_or (both ◌+ℤ◌ (Some (number n)) t) (pos 0) ≡ number n +ℤ count_of ns
    by None h = sym (+ℤ_idr (number n)) ∙ ap (λ z. number n +ℤ z) h
    by (Some y) h = ap (λ z. number n +ℤ z) h

whole_kept : (t : Option ℤ) → unwrap_or (option_and_then kept (option_map Whole t)) (Whole (pos 0)) ≡ Whole (unwrap_or t (pos 0))
whole_kept None = refl
whole_kept (Some z) = refl

pub count_is : (ns : List Num) → some_fixed ns ≡ false → unwrap_or (sum_of ns) (Whole (pos 0)) ≡ Whole (count_of ns)
count_is ns whole =
    ap (λ b. unwrap_or (option_and_then kept (if b then option_map Fixed (together ◌+ℤ◌ (map measure ns)) else option_map Whole (together ◌+ℤ◌ (map number ns)))) (Whole (pos 0))) whole
    ∙ whole_kept (together ◌+ℤ◌ (map number ns))
    ∙ ap Whole (together_counts ns)

-- What is kept of records is merged from what is kept of the parts of their list, in any order.
use Rattle.std.proofs.Common.{◌≡◌, ℕ, ◌+◌, ◌<◌, List, [], ◌∷◌, ◌++◌, length, get_or, take, refl, sym, ap, ◌∙◌, add_comm}
use Rattle.std.proofs.lemmas.List.{length-append, take_more}
use Rattle.std.proofs.lemmas.Grind.{flat_map-append}
use Rattle.cal_agg.specs.declared.num.Num.{Num}
use Rattle.cal_agg.specs.Parts.{greatest_over, least_over, sum_over}
use Rattle.cal_agg.specs.Joins.{sum_joins, least_joins, greatest_joins, parts_by-append, merged_comm}
use Rattle.cal_ql.specs.declared.names.KernelName as kernels
use Rattle.cal_ql.specs.declared.names.KernelName.TheVariants as kernel
use Rattle.cal_ql.specs.declared.query.Agg.{Agg}
use Rattle.cal_value.specs.declared.record.Rec.{Rec}
use Rattle.cal_parts.specs.declared.part.Held.TheVariants as held
use Rattle.cal_parts.specs.Kernels.{contributions, contributed}
use Rattle.cal_parts.specs.Parts.{Gathered, held_over, merged_held, merged_part, merged_parts, part_over, parts_over}

held_over-append : (k : kernels.KernelName) (ns ms : List Num) → held_over k (ns ++ ms) ≡ merged_held (held_over k ns) (held_over k ms)
held_over-append kernel.Min ns ms = ap held.Least (parts_by-append least_joins ns ms)
held_over-append kernel.Max ns ms = ap held.Greatest (parts_by-append greatest_joins ns ms)
held_over-append kernel.Count ns ms = ap held.Sum (parts_by-append sum_joins ns ms)
held_over-append kernel.Sum ns ms = ap held.Sum (parts_by-append sum_joins ns ms)
held_over-append kernel.Avg ns ms = ap held.Sum (parts_by-append sum_joins ns ms)
held_over-append kernel.Inclusive ns ms = ap held.Sum (parts_by-append sum_joins ns ms)
held_over-append kernel.Percent ns ms = ap held.Sum (parts_by-append sum_joins ns ms)

-- adding a concatenation is merging
pub part_over-append : (k : kernels.KernelName) (ns ms : List Num) → part_over k (ns ++ ms) ≡ merged_part (part_over k ns) (part_over k ms)
part_over-append k ns ms = λ i. record { many = length-append ns ms i; held = held_over-append k ns ms i }

-- one number of a list more
pub part_over-more : (k : kernels.KernelName) (ns : List Num) (i : ℕ) (n : Num) (before after : Gathered) → i < length ns
    → after ≡ merged_part before (part_over k (get_or ns i n ∷ [])) → before ≡ part_over k (take i ns) → after ≡ part_over k (take (i + 1) ns)
part_over-more k ns i n before after short adds is =
    adds
    ∙ ap (λ p. merged_part p (part_over k (get_or ns i n ∷ []))) is
    ∙ sym (part_over-append k (take i ns) (get_or ns i n ∷ []))
    ∙ ap (part_over k) (sym (take_more ns i n short))

pub contributed-append : (agg : Agg) (rs ss : List Rec) → contributed agg (rs ++ ss) ≡ contributed agg rs ++ contributed agg ss
contributed-append agg rs ss = flat_map-append (contributions agg.kernel agg.attr) rs ss

pub parts_over-append : (aggs : List Agg) (rs ss : List Rec) → parts_over aggs (rs ++ ss) ≡ merged_parts (parts_over aggs rs) (parts_over aggs ss)
parts_over-append [] rs ss = refl
parts_over-append (agg ∷ aggs) rs ss =
    let first = ap (part_over agg.kernel) (contributed-append agg rs ss) ∙ part_over-append agg.kernel (contributed agg rs) (contributed agg ss) in
    λ i. first i ∷ parts_over-append aggs rs ss i

sums_swap : (ns ms : List Num) → sum_over (ns ++ ms) ≡ sum_over (ms ++ ns)
sums_swap ns ms = parts_by-append sum_joins ns ms ∙ merged_comm sum_joins (sum_over ns) (sum_over ms) ∙ sym (parts_by-append sum_joins ms ns)

held_over-swap : (k : kernels.KernelName) (ns ms : List Num) → held_over k (ns ++ ms) ≡ held_over k (ms ++ ns)
held_over-swap kernel.Min ns ms = ap held.Least (parts_by-append least_joins ns ms ∙ merged_comm least_joins (least_over ns) (least_over ms) ∙ sym (parts_by-append least_joins ms ns))
held_over-swap kernel.Max ns ms = ap held.Greatest (parts_by-append greatest_joins ns ms ∙ merged_comm greatest_joins (greatest_over ns) (greatest_over ms) ∙ sym (parts_by-append greatest_joins ms ns))
held_over-swap kernel.Count ns ms = ap held.Sum (sums_swap ns ms)
held_over-swap kernel.Sum ns ms = ap held.Sum (sums_swap ns ms)
held_over-swap kernel.Avg ns ms = ap held.Sum (sums_swap ns ms)
held_over-swap kernel.Inclusive ns ms = ap held.Sum (sums_swap ns ms)
held_over-swap kernel.Percent ns ms = ap held.Sum (sums_swap ns ms)

-- so it is in either order
part_over-swap : (k : kernels.KernelName) (ns ms : List Num) → part_over k (ns ++ ms) ≡ part_over k (ms ++ ns)
part_over-swap k ns ms =
    let long = length-append ns ms ∙ add_comm (length ns) (length ms) ∙ sym (length-append ms ns) in
    λ i. record { many = long i; held = held_over-swap k ns ms i }

pub parts_over-swap : (aggs : List Agg) (rs ss : List Rec) → parts_over aggs (rs ++ ss) ≡ parts_over aggs (ss ++ rs)
parts_over-swap [] rs ss = refl
parts_over-swap (agg ∷ aggs) rs ss =
    let first =
    ap (part_over agg.kernel) (contributed-append agg rs ss)
    ∙ part_over-swap agg.kernel (contributed agg rs) (contributed agg ss)
    ∙ ap (part_over agg.kernel) (sym (contributed-append agg ss rs)) in
    λ i. first i ∷ parts_over-swap aggs rs ss i

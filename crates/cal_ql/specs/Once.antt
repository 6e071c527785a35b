-- Keeping each result name once (private).
use Rattle.std.specs.Prelude.{◌≡◌, ℕ, Bool, List, [], ◌∷◌, ◌++◌, nat_eq, if◌then◌else◌}
use Rattle.std.specs.BTreeSet.{contains}
use Rattle.std.specs.Cmp.Lexicographic.{pointwise}
use Rattle.std.specs.List.{list_any}
use Rattle.cal_value.specs.Texts.{text_cmp}
use Rattle.cal_ql.specs.declared.query.Agg.{Agg}
use Rattle.cal_ql.specs.declared.once.Kept.{Kept}

-- whether one of the kernels has this name
abbrev pub has_name : List Agg → List ℕ → Bool
has_name aggs name = list_any (λ other. pointwise nat_eq name other.name) aggs

-- the names are those of the kernels
abbrev pub IsKept : Kept → Type 0
IsKept kept = (name : List ℕ) → contains text_cmp kept.names name ≡ has_name kept.aggs name

-- kernels with one more, unless one of them has its name
abbrev pub with_new : List Agg → Agg → List Agg
with_new aggs agg =
    if has_name aggs agg.name then aggs else aggs ++ agg ∷ []

abbrev pub with_all_new : List Agg → List Agg → List Agg
with_all_new aggs [] = aggs
with_all_new aggs (agg ∷ others) = with_all_new (with_new aggs agg) others

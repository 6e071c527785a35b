-- Rows sorted beside their groups are the rows in the order of their groups.
use Rattle.std.proofs.Common.{◌≡◌, List, [], ◌∷◌, map, Bor, refl, ap, ◌∙◌}
use Rattle.std.specs.Cmp.{IsStrictWeakOrder}
use Rattle.std.specs.Fn.{Called, Mut}
use Rattle.std.specs.List.Sorted.{IsSortedByClosure, IsStableByClosure}
use Rattle.std.specs.Ordering.{is_lt}
use Rattle.std.specs.declared.cmp.Ordering.{Ordering}
use Rattle.std.proofs.lemmas.Fn.{always_returns_same}
use Rattle.std.proofs.lemmas.List.Sorted.{ranks_by}
use Rattle.cal_engine.proofs.Ranking.{sorted-map}
use Rattle.cal_engine.proofs.Sorts.{sorted-unique}
use Rattle.cal_engine.specs.Sorting.{sorted}
use Rattle.cal_profile.specs.Groups.{rows_cmp}
use Rattle.cal_ql.specs.declared.query.Agg.{Agg}
use Rattle.cal_steps.specs.Grouping.{beside}
use Rattle.cal_steps.specs.declared.groups.Grouped.{Grouped}
use Rattle.cal_value.specs.Order.{group_cmp}
use Rattle.cal_value.specs.OrderLaws.{group_exact}
use Rattle.cal_value.specs.declared.record.Rec.{Rec}

abbrev pub grouped_cmp : Grouped → Grouped → Ordering
grouped_cmp one other = group_cmp one.group other.group

grouped-weak : IsStrictWeakOrder (λ x y. is_lt (grouped_cmp x y))
grouped-weak = ranks_by group_exact.total (λ (r : Grouped). r.group)

rows-again : (aggs : List Agg) (rows : List Rec)
    → map (λ (r : Grouped). r.row) (map (beside aggs) rows) ≡ rows
rows-again aggs [] = refl
rows-again aggs (row ∷ rows) = ap (λ rs. row ∷ rs) (rows-again aggs rows)

pub sorted-groups : {F : Type 0} {g : Mut F (Bor Grouped × (Bor Grouped × Unit {0})) Ordering} {f : F}
    (aggs : List Agg) (rows : List Rec) (before after : List Grouped)
    → before ≡ map (beside aggs) rows
    → IsSortedByClosure g f after → IsStableByClosure g f before after
    → ((a : Bor Grouped × (Bor Grouped × Unit {0})) (r : Ordering) (f' : F) → Called g f a r f'
    → (r ≡ grouped_cmp a.0.now a.1.0.now) × (f' ≡ f))
    → map (λ (r : Grouped). r.row) after ≡ sorted (rows_cmp aggs) rows
sorted-groups {g = g} {f = f} aggs rows before after is up stable answers =
    let compares = always_returns_same g
    (λ a r. is_lt r ≡ is_lt (grouped_cmp a.0.now a.1.0.now)) f
    (λ a r f' k. (ap is_lt (answers a r f' k).0, (answers a r f' k).1)) in
    let lt = λ (x y : Grouped). is_lt (grouped_cmp x y) in
    ap (map (λ (r : Grouped). r.row))
    (sorted-unique grouped_cmp grouped-weak before after (up lt grouped-weak compares)
    (stable lt grouped-weak compares)
    ∙ ap (sorted grouped_cmp) is
    ∙ sorted-map (beside aggs) (rows_cmp aggs) grouped_cmp (λ x y. refl) rows)
    ∙ rows-again aggs (sorted (rows_cmp aggs) rows)

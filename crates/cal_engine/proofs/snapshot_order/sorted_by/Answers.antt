use Rattle.std.proofs.Common.{rules, ◌≡◌, ℕ, List, length, map, sym, ap, subst, ◌∙◌}
use Rattle.std.specs.List.{All}
use Rattle.std.proofs.lemmas.List.Elements.{All-head, All-tail}
use Rattle.cal_filter.specs.Known.{KnowsAll, sought}
use Rattle.cal_rowset.specs.NumberedRows.{in_order, meant}
use Rattle.cal_engine.specs.Sorting.{sorted, sorted_rows}
use Rattle.cal_engine.specs.declared.snapshot_order.RankedPlace.{RankedPlace}
use Rattle.cal_engine.proofs.SnapshotRanking.{by_values, sorted_by_values, sorted_means, unsorted}
use Rattle.cal_engine.proofs.snapshot_order.sorted_by.Goals as goal

pub returns-in_default : goal.returns-in_default
returns-in_default c =
    let none : length c.in_ok-seekers.seekers.items ≡ 0 = ap length (sym c.deref.ensures.value) ∙ c.in_default.ensures.cases in
    unsorted c.args.order.now c.in_ok-seekers.seekers.items
    (map (meant c.args.context.now) (in_order c.args.rows.now c.args.places.items)) c.in_ok-seekers.ensures.sought none

pub ranked_places-requires-clause-first : goal.ranked_places-requires-clause-first
ranked_places-requires-clause-first c =
    let knows = KnowsAll c.args.context.now in
    All-head knows c.in-Some.first.now c.in-Some.others.now
    (subst (All knows) (sym c.deref.ensures.value ∙ c.in-Some.ensures.cases.0) c.in_ok-seekers.ensures.knows)

pub ranked_places-requires-clause-others : goal.ranked_places-requires-clause-others
ranked_places-requires-clause-others c =
    let knows = KnowsAll c.args.context.now in
    All-tail knows c.in-Some.first.now c.in-Some.others.now
    (subst (All knows) (sym c.deref.ensures.value ∙ c.in-Some.ensures.cases.0) c.in_ok-seekers.ensures.knows)

pub returns : goal.returns
returns c =
    let t = c.args.context.now in
    let rows = c.args.rows.now in
    let order = c.args.order.now in
    let seen = in_order rows c.deref-2.result.now in
    let seek = sym (ap (map sought) (sym c.deref.ensures.value ∙ c.in-Some.ensures.cases.0)) ∙ c.in_ok-seekers.ensures.sought in
    let left : c.sort_by.new.self.items ≡ sorted (by_values order) c.in_ok-ranked.ranked.items =
    sorted_by_values order c.in_ok-ranked.ranked.items _ c.in_ok-sort_by.ensures.sorted c.sort_by.ensures.stable (λ a r q k. search rules) in
    ap (λ (ps : List ℕ). map (meant t) (in_order rows ps))
    (c.in_ok-sorted.ensures ∙ ap (map (λ (r : RankedPlace). r.place)) c.deref-3.ensures.value)
    ∙ sorted_means t order c.in-Some.first.now c.in-Some.others.now rows seen c.in_ok-ranked.ranked.items _ seek c.in_ok-ranked.ensures left
    ∙ ap (λ (ps : List ℕ). sorted_rows order (map (meant t) (in_order rows ps))) c.deref-2.ensures.value

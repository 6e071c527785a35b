use Rattle.std.proofs.Common.{◌≡◌, List, [], fold, map, sym, ap, subst, ◌∙◌}
use Rattle.std.specs.List.{list_any}
use Rattle.cal_value.specs.declared.record.Rec.{Rec}
use Rattle.cal_engine.specs.Finishing.{AreGroupParts, is_inclusive, parts_where, rows_by}
use Rattle.cal_engine.specs.Folding.{Grouped}
use Rattle.cal_parts.specs.Parts.{merged_parts, parts_over}
use Rattle.cal_engine.specs.Rows.{is_below}
use Rattle.cal_engine.proofs.GroupRows.{flat_lists, flat_parts, query_lists, query_parts, query_rows, rows_alike}
use Rattle.cal_engine.proofs.finishing.group_rows.Goals as goal

pub returns-then-some_inclusive : goal.returns-then-some_inclusive
returns-then-some_inclusive c = λ rs is.
    let q = c.args.query.now in
    let groups : Grouped = record { keys = c.args.keys.items; parts = c.args.parts.now } in
    let all = c.in_ok-all.all in
    let below = c.in_ok-below.below.items in
    let aggs = c.as_slice-aggs.ensures in
    let lists = query_lists q rs in
    let added = subst (λ (ks : List Rec). below ≡ map (λ key. fold merged_parts c.in_ok-none.none (parts_where (is_below key) ks groups.parts)) ks)
    c.deref.ensures.value
    (c.in_ok-below.ensures
    ∙ ap (λ ps. map (λ key. fold merged_parts c.in_ok-none.none (parts_where (is_below key) c.deref.result.now ps)) c.deref.result.now) c.in_ok-table.ensures) in
    let parts = query_parts q rs groups c.in_ok-none.none all below is
    (c.in_ok-none.ensures ∙ ap (λ a. parts_over a []) aggs)
    (c.in_ok-all.ensures ∙ ap (fold merged_parts c.in_ok-none.none) c.in_ok-table.ensures) added in
    let here = subst (λ a. AreGroupParts a lists groups.keys groups.parts all c.deref-then-some_inclusive.result.now) (sym aggs)
    (subst (λ b. AreGroupParts q.aggs lists groups.keys groups.parts all b) (sym c.deref-then-some_inclusive.ensures.value) parts) in
    query_rows q rs groups.keys c.in_ok-made.made (ap (λ g. g.keys) is)
    (c.in_ok-made.ensures lists here ∙ ap (λ a. rows_by a lists groups.keys) aggs)

pub returns : goal.returns
returns c = λ rs is.
    let q = c.args.query.now in
    let groups : Grouped = record { keys = c.args.keys.items; parts = c.args.parts.now } in
    let all = c.in_ok-all.all in
    let aggs = c.as_slice-aggs.ensures in
    let lists = query_lists q rs in
    let parts = flat_parts q rs groups c.in_ok-none.none all is
    (c.in_ok-none.ensures ∙ ap (λ a. parts_over a []) aggs)
    (c.in_ok-all.ensures ∙ ap (fold merged_parts c.in_ok-none.none) c.in_ok-table.ensures) in
    let here = subst (λ a. AreGroupParts a (flat_lists lists) groups.keys groups.parts all groups.parts) (sym aggs) parts in
    let none = sym (c.some_inclusive.ensures ∙ ap (λ xs. list_any (λ agg. is_inclusive agg.kernel) xs) aggs) ∙ c.if-some_inclusive.false in
    query_rows q rs groups.keys c.in_ok-made-2.made (ap (λ g. g.keys) is)
    (c.in_ok-made-2.ensures (flat_lists lists) here
    ∙ ap (λ a. rows_by a (flat_lists lists) groups.keys) aggs
    ∙ rows_alike q.aggs lists groups.keys none)

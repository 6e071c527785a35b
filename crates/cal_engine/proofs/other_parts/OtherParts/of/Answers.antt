use Rattle.std.proofs.Common.{[], fold, length, map, refl, sym, ap, ◌∙◌}
use Rattle.std.specs.List.{list_any}
use Rattle.cal_engine.specs.Finishing.{is_inclusive, looks_beyond, parts_where, rows_by}
use Rattle.cal_engine.specs.Folding.{Grouped}
use Rattle.cal_keys.specs.Keys.{key_in}
use Rattle.cal_engine.specs.Numbered.{grouped_in}
use Rattle.cal_parts.specs.Parts.{merged_parts, parts_over}
use Rattle.cal_engine.specs.Rows.{is_below}
use Rattle.cal_engine.proofs.GroupRows.{flat_lists, flat_parts, lone_lists, lone_parts, query_lists, query_parts, query_rows, rows_alike, rows_alone}
use Rattle.cal_engine.proofs.other_parts.OtherParts.of.Goals as goal

pub returns-then-not-some_beyond : goal.returns-then-not-some_beyond
returns-then-not-some_beyond c = λ rs h.
    let q = c.args.query.now in
    let groups : Grouped = grouped_in c.args.room.now c.args.groups.now in
    let aggs = c.as_slice-aggs.ensures in
    let lists = query_lists q rs in
    let none = sym (c.some_beyond.ensures ∙ ap (λ xs. list_any (λ agg. looks_beyond agg.kernel) xs) aggs)
    ∙ c.if-not-some_beyond.true in
    record {
      lists = lone_lists lists;
      parts = lone_parts q rs groups c.in_ok-none.none h.groups
          (c.in_ok-none.ensures ∙ ap (λ a. parts_over a []) aggs);
      rows = query_rows q rs groups.keys (rows_by q.aggs (lone_lists lists) groups.keys)
          (ap (λ g. g.keys) h.groups) (rows_alone q.aggs lists groups.keys none);
    }

pub returns-then-not-some_inclusive : goal.returns-then-not-some_inclusive
returns-then-not-some_inclusive c = λ rs h.
    let q = c.args.query.now in
    let groups : Grouped = grouped_in c.args.room.now c.args.groups.now in
    let aggs = c.as_slice-aggs.ensures in
    let lists = query_lists q rs in
    let none = sym (c.some_inclusive.ensures ∙ ap (λ xs. list_any (λ agg. is_inclusive agg.kernel) xs) aggs)
    ∙ c.if-not-some_inclusive.true in
    record {
      lists = flat_lists lists;
      parts = flat_parts q rs groups c.in_ok-none.none c.in_ok-all.all h.groups
          (c.in_ok-none.ensures ∙ ap (λ a. parts_over a []) aggs)
          (c.in_ok-all.ensures ∙ ap (fold merged_parts c.in_ok-none.none) c.parts-own.ensures.parts);
      rows = query_rows q rs groups.keys (rows_by q.aggs (flat_lists lists) groups.keys)
          (ap (λ g. g.keys) h.groups) (rows_alike q.aggs lists groups.keys none);
    }

pub parts_below_keys-requires : goal.parts_below_keys-requires
parts_below_keys-requires c = c.parts-own.ensures.counted ∙ ap length (sym c.keys.ensures)

pub returns : goal.returns
returns c = λ rs h.
    let q = c.args.query.now in
    let t = c.args.room.now in
    let groups : Grouped = grouped_in t c.args.groups.now in
    let aggs = c.as_slice-aggs.ensures in
    let none = c.in_ok-none.none in
    let lists = query_lists q rs in
    record {
      lists = lists;
      parts = query_parts q rs groups none c.in_ok-all.all c.in_ok-below.below.items h.groups
          (c.in_ok-none.ensures ∙ ap (λ a. parts_over a []) aggs)
          (c.in_ok-all.ensures ∙ ap (fold merged_parts none) c.parts-own.ensures.parts)
          (c.in_ok-below.ensures
          ∙ (λ i. map (λ key. fold merged_parts none (parts_where (is_below key)
          (map (key_in t) (c.keys.ensures i)) (c.parts-own.ensures.parts i)))
          (map (key_in t) (c.keys.ensures i))));
      rows = query_rows q rs groups.keys (rows_by q.aggs lists groups.keys)
          (ap (λ g. g.keys) h.groups) refl;
    }

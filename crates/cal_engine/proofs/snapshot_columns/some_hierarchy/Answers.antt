use Rattle.std.proofs.Common.{◌≡◌, ◌<◌, get_or, [], ◌∷◌, length, map, take, subst, sym, ap, ◌∙◌, arith}
use Rattle.std.specs.List.{All, list_any}
use Rattle.std.proofs.lemmas.List.{get_or-map, length-map}
use Rattle.std.proofs.lemmas.List.Folds.{list_any-append}
use Rattle.cal_context.specs.Snapshots.{IsBelowRoot}
use Rattle.cal_context.specs.Tree.{path_at}
use Rattle.cal_rowset.specs.Hierarchy.{hierarchy, is_of_hierarchy}
use Rattle.cal_rowset.specs.NumberedRows.{in_order, meant, nth_numbered}
use Rattle.cal_rowset.proofs.NumberedLemmas.{meant_more, nth_within}
use Rattle.cal_value.specs.declared.record.Rec.{Rec}
use Rattle.cal_keys.specs.Groups.{has_entries}
use Rattle.cal_engine.proofs.Learned.{any_at, nested_any, none_both}
use Rattle.cal_engine.proofs.snapshot_columns.some_hierarchy.Goals as goal

pub some_nested-requires-clause-within : goal.some_nested-requires-clause-within
some_nested-requires-clause-within c =
    subst (All (IsBelowRoot c.args.context.now)) (sym c.nodes.ensures)
    (nth_within c.args.context.now c.args.rows.now (get_or c.args.order.now c.loop-place.place-index 0) c.requires).nodes

pub returns-then-branch : goal.returns-then-branch
returns-then-branch c =
    let t = c.args.context.now in
    let rows = c.args.rows.now in
    let order = c.args.order.now in
    let n = c.loop-place.place-index in
    let place = get_or order n 0 in
    let row = nth_numbered rows place in
    let nested = λ (row : Rec). has_entries (hierarchy row) in
    let within : n < length (in_order rows order) = omega (arith, length-map order (nth_numbered rows)) in
    let is : row ≡ get_or (in_order rows order) n row =
    sym (get_or-map (nth_numbered rows) order n 0 row (omega arith)) in
    sym (any_at nested (meant t) (in_order rows order) n row within is
    (sym (nested_any (meant t row))
    ∙ ap (λ nodes. list_any (λ path. list_any (λ e. is_of_hierarchy e.attr) path) (map (path_at t) nodes)) (sym c.nodes.ensures)
    ∙ sym c.in_ok-some_nested.ensures.some ∙ c.if-branch.true))

pub loop-place-preserved : goal.loop-place-preserved
loop-place-preserved c =
    let t = c.args.context.now in
    let rows = c.args.rows.now in
    let order = c.args.order.now in
    let n = c.loop-place.place-index in
    let place = get_or order n 0 in
    let row = meant t (nth_numbered rows place) in
    let nested = λ (row : Rec). has_entries (hierarchy row) in
    let no = c.if-branch.false in
    record {
      met = c.in_ok-some_nested.ensures.met no;
      none = ap (list_any nested) (meant_more t rows order n 0 (omega arith))
          ∙ list_any-append nested (map (meant t) (in_order rows (take n order))) (row ∷ [])
          ∙ none_both _ _ c.loop-place.invariant.none
          (sym (nested_any row)
          ∙ ap (λ nodes. list_any (λ path. list_any (λ e. is_of_hierarchy e.attr) path) (map (path_at t) nodes)) (sym c.nodes.ensures)
          ∙ sym c.in_ok-some_nested.ensures.some ∙ no);
    }

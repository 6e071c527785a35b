use Rattle.std.proofs.Common.{◌≡◌, ◌≤◌, drop, length, map, take, sym, ap, ◌∙◌, ◌++◌, arith}
use Rattle.cal_rowset.specs.NumberedRows.{meant}
use Rattle.cal_engine.specs.Sorting.{sorted_rows}
use Rattle.std.proofs.lemmas.List.{drop_all}
use Rattle.cal_engine.proofs.Ranking.{sorted_without_keys}
use Rattle.cal_engine.proofs.SnapshotRanking.{keys_between, sorted_by_more}
use Rattle.cal_engine.proofs.snapshot_order.sorted_places.Goals as goal

pub loop-left-init : goal.loop-left-init
loop-left-init c =
    let rows = map (meant c.args.context.now) c.args.rows.now in
    let keys = c.as_slice-keys.result.now in
    record {
      left = omega arith;
      sorted =
          ap (map (meant c.args.context.now)) c.in_ok-places.ensures
          ∙ sorted_without_keys rows
          ∙ ap (λ none. sorted_rows none rows) (sym (drop_all (length keys) keys (omega arith)));
    }

pub loop-left-preserved : goal.loop-left-preserved
loop-left-preserved c =
    let rows = map (meant c.args.context.now) c.args.rows.now in
    let keys = c.as_slice-keys.result.now in
    let left = c.loop-left.left in
    let from = c.saturating_sub-from.result in
    let below : from ≤ left = omega arith in
    let last : c.split_at-in-loop-left.result.1.now ≡ drop from (take left keys) =
    c.split_at-in-loop-left.ensures.back ∙ ap (drop from) c.split_at.ensures.front in
    record {
      left = omega arith;
      sorted =
          c.in_ok-places-2.ensures
          ∙ ap (sorted_rows _) c.loop-left.invariant.sorted
          ∙ sorted_by_more _ (drop left keys) rows
          ∙ ap (λ ks. sorted_rows (ks ++ drop left keys) rows) last
          ∙ ap (λ ks. sorted_rows ks rows) (keys_between keys from left below c.loop-left.invariant.left);
    }

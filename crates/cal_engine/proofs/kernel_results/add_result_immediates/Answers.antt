use Rattle.std.proofs.Common.{◌≡◌, [], length, refl, take, subst, arith}
use Rattle.std.specs.Prelude.{slice_get, slice_index_or}
use Rattle.std.proofs.lemmas.List.{take_all}
use Rattle.cal_filter.proofs.Zips.{zip_length}
use Rattle.cal_engine.specs.Finishing.{entries_of_results}
use Rattle.cal_engine.specs.Making.{below_of}
use Rattle.cal_engine.specs.Results.{AddsResults, IsResultOf}
use Rattle.cal_keys.proofs.ReadSame.{read_same}
use Rattle.cal_engine.proofs.ResultNumbers.{results_next}
use Rattle.cal_engine.proofs.kernel_results.add_result_immediates.Goals as goal

pub loop-place-preserved : goal.loop-place-preserved
loop-place-preserved c = λ t aggs lists zip kept.
    let n = c.args.number in
    let place = c.loop-place.place in
    let parts = c.args.groups.now.parts in
    let others = c.args.others.now in
    let one = slice_index_or parts n [] in
    let third = slice_index_or (below_of others parts) n [] in
    results_next t aggs c.args.results.now lists place _ one others.all third
    (slice_get one place) (slice_get others.all place) (slice_get third place)
    c.args.imms.now.items c.loop-place.imms.items c.push_some.new.items.items
    c.found_at-found.result zip kept (omega arith)
    (read_same c.args.results.now place _ _ (omega arith)) refl refl refl
    (c.loop-place.invariant t aggs lists zip kept) c.in_ok-push_some.ensures
    (λ agg is own all below. c.found_at-found.ensures t agg lists is
    (record { own = own; all = all; below = below }))

pub returns : goal.returns
returns c = λ t aggs lists zip kept.
    let counted : length aggs ≡ length c.args.results.now = zip_length (IsResultOf t) aggs c.args.results.now zip in
    let all : take c.loop-place.place aggs ≡ aggs = take_all c.loop-place.place aggs (omega arith) in
    subst (λ ks. AddsResults t (entries_of_results ks lists) c.args.imms.now.items c.loop-place.imms.items) all
    (c.loop-place.invariant t aggs lists zip kept)

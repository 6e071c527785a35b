use Rattle.std.proofs.Common.{rules, ap, ◌∙◌}
use Rattle.std.specs.List.{range_with_len}
use Rattle.cal_records.proofs.LikelyLemmas.{likely_first}
use Rattle.cal_records.proofs.Ranking as ranking
use Rattle.cal_records.proofs.sorting.sorted_numbers.Goals as goal

pub returns : goal.returns
returns c =
    let room = c.args.room.now in
    let g = c.args.rows.now in
    let keys = c.args.keys.now in
    ranking.sorted_numbers room g keys c.in_ok-numbers.numbers.items _ _
    (c.in_ok-numbers.ensures ∙ ap (range_with_len 0) c.count.ensures)
    (likely_first room c.has_each_once.ensures c.args.places.now g keys _ _ _
    c.sort_by_cached_key.ensures.stable (λ a k e q. search rules))
    c.in_ok-sort_by.ensures.sorted c.sort_by.ensures.stable (λ a r q k. search rules)

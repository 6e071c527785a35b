use Rattle.std.proofs.Common.{◌<◌, ◌++◌, length, map, ap, ◌∙◌, arith}
use Rattle.cal_engine.specs.Finishing.{entries_of_results, lists_at}
use Rattle.cal_keys.specs.Keys.{key_in}
use Rattle.cal_engine.specs.Making.{below_in, key_at, room_in}
use Rattle.cal_keys.proofs.ReadSame.{read_same}
use Rattle.cal_engine.proofs.GroupRows.{mapped_at}
use Rattle.cal_engine.proofs.Making.{kept_there, row_there}
use Rattle.cal_engine.proofs.grouped_rows.GroupedRows.fill.Goals as goal

pub returns-clause-row : goal.returns-clause-row
returns-clause-row c = λ aggs rows h.
    let t = c.args.context.now in
    let g = c.args.self.now in
    let n = c.args.number in
    let keys = g.groups.keys in
    let f = key_in (room_in t g) in
    let key = key_at g n in
    let short : n < length keys = omega arith in
    let there = mapped_at f keys n key short (read_same keys n _ key short) in
    let kept = kept_there aggs h.lists (map f keys) g.groups.parts g.others.all (below_in g) n (f key) h.parts there.0 there.1 in
    let own = c.in_ok-fill_key.ensures h.moved in
    let added = c.in_ok-add_results.ensures t aggs (lists_at h.lists (f key)) h.results kept in
    (λ i. record {
      paths = ap (λ r. r.paths) own i;
      imms = (added ∙ ap (λ r. r.imms ++ entries_of_results aggs (lists_at h.lists (f key))) own) i;
    })
    ∙ row_there aggs h.lists (map f keys) rows n (f key) h.are there.0 there.1

use Rattle.std.proofs.Common.{◌≡◌, ◌<◌, [], ◌∷◌, ◌++◌, length, map, filter, not, get_or, sym, ap, ◌∙◌, arith}
use Rattle.std.proofs.lemmas.List.{get_or-map, map-append, map_more, take_all}
use Rattle.cal_context.proofs.CallerLemmas.{root_path}
use Rattle.cal_context.specs.Tree.{path_at}
use Rattle.cal_context.specs.declared.numbers.NodeNumber.{NodeNumber}
use Rattle.cal_engine.specs.Making.{group_count, key_at}
use Rattle.cal_profile.specs.Groups.{is_result}
use Rattle.cal_records.specs.Ranks.{key_entries, key_entry, lent_entries}
use Rattle.cal_records.proofs.group_keys.group_keys.Goals as goal

pub returns-then-have_no_immediates : goal.returns-then-have_no_immediates
returns-then-have_no_immediates c = λ n within.
    let room = c.args.room.now in
    let g = c.args.rows.now in
    let none = c.have_no_immediates.ensures c.if-have_no_immediates.true n within in
    let root : (key_at g n).imms ≡ record { 0 = 0 } = λ i. record { 0 = none i } in
    (λ i. get_or (map lent_entries (c.new-each.ensures.items i)) n
    (map key_entry (c.new-none.ensures.items i)))
    ∙ sym (ap (λ node. filter (λ e. not (is_result c.args.aggs.now e)) (path_at room node)) root
    ∙ ap (filter (λ e. not (is_result c.args.aggs.now e))) (root_path c.has_each_once.ensures))

pub loop-number-preserved : goal.loop-number-preserved
loop-number-preserved c =
    let room = c.args.room.now in
    let aggs = c.args.aggs.now in
    let g = c.args.rows.now in
    let n = c.loop-number.number in
    let within : n < length g.groups.keys = omega arith in
    ap (map lent_entries) c.in_ok-push.ensures.items
    ∙ map-append lent_entries c.loop-number.each.items (record { entries = c.in_ok-entries.entries } ∷ [])
    ∙ (λ i. c.loop-number.invariant i ++ (c.in_ok-entries.ensures
    ∙ ap (λ node. filter (λ e. not (is_result aggs e)) (path_at room node)) c.immediates.ensures) i ∷ [])
    ∙ sym (map_more (key_entries room aggs) g.groups.keys n _ within)

pub returns : goal.returns
returns c = λ n within.
    let room = c.args.room.now in
    let aggs = c.args.aggs.now in
    let g = c.args.rows.now in
    ap (λ es. get_or es n (map key_entry c.new-none.result.items)) (c.loop-number.invariant
    ∙ ap (map (key_entries room aggs)) (take_all c.loop-number.number g.groups.keys (omega arith)))
    ∙ get_or-map (key_entries room aggs) g.groups.keys n _
    (map key_entry c.new-none.result.items) within

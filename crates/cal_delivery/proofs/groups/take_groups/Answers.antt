use Rattle.std.proofs.Common.{◌≡◌, true, [], sym, subst}
use Rattle.std.proofs.lemmas.Bool.{cond-true}
use Rattle.std.proofs.lemmas.Result.{on_ok_weaker}
use Rattle.cal_context.proofs.CallerLemmas.{Grows-trans}
use Rattle.cal_context.specs.Taking.{TakesMore}
use Rattle.cal_delivery.proofs.GroupRows.{groups_can, groups_taken, may_take}
use Rattle.cal_nodes.proofs.Numbering.{numbered_later}
use Rattle.cal_once.proofs.Learning.{learns_nothing}
use Rattle.cal_once.specs.Seats.{view}
use Rattle.cal_profile.specs.Groups.{channel_query, group_records}
use Rattle.cal_delivery.proofs.groups.take_groups.Goals as goal

pub number_tables-requires-clause-keys : goal.number_tables-requires-clause-keys
number_tables-requires-clause-keys g c =
    let on : c.args.channel.now.aggregate ≡ true = cc in
    groups_can c.args.context.now c.requires.taken.0 c.args.tree.now c.args.seat.now
    c.requires.seat c.args.channel.now c.requires.taken.1 c.args.tables.now c.requires.taken.2
    c.requires.taken.3 on

pub take_table_groups-requires : goal.take_table_groups-requires
take_table_groups-requires g c =
    let on : c.args.channel.now.aggregate ≡ true = cc in
    let done = c.number_tables.ensures in
    may_take c.args.context.now c.requires.taken.0 c.args.tree.now c.args.seat.now
    c.requires.seat c.args.channel.now c.requires.taken.1 c.args.tables.now c.requires.taken.2
    c.requires.taken.3 on c.number_tables.new.context done.grows.attributes
    c.number_tables.new.seat done.learns.more done.seat c.number_tables.new.nodes done.numbered
    c.in_ok-number_tables.ensures.keys

pub returns-clause-taken : goal.returns-clause-taken
returns-clause-taken g c =
    let on : c.args.channel.now.aggregate ≡ true = cc in
    let done = c.number_tables.ensures in
    let has = g.T.Taker.has_taken in
    let had = has c.args.taker.now c.args.context.now in
    let then = has c.args.taker.now c.number_tables.new.context in
    let now = has c.take_table_groups.new.taker c.take_table_groups.new.context in
    on_ok_weaker c.take_table_groups.result
    (λ taken script kept recs h. subst (TakesMore had now)
    (sym (cond-true c.args.channel.now.aggregate
    (group_records (channel_query c.args.channel.now.query) recs) [] on))
    (groups_taken c.args.context.now script c.args.tree.now c.args.seat.now c.requires.seat
    c.args.channel.now kept c.args.tables.now recs h on c.number_tables.new.context
    done.grows.attributes c.number_tables.new.seat done.learns.more done.seat
    c.number_tables.new.nodes done.numbered c.in_ok-number_tables.ensures.keys
    c.tables_together_have_the_groups_of_traces.ensures had then now
    (λ rs is. g.met.T.Taker.stays _ _ _ rs is done.grows) taken))
    c.take_table_groups.ensures.taken

pub returns-clause-grows : goal.returns-clause-grows
returns-clause-grows g c = Grows-trans c.args.context.now c.number_tables.new.context
    c.take_table_groups.new.context c.number_tables.ensures.grows c.take_table_groups.ensures.grows

pub returns-clause-numbered : goal.returns-clause-numbered
returns-clause-numbered g c =
    let seat = c.number_tables.new.seat in
    numbered_later c.args.tree.now seat seat (learns_nothing (view seat)).more
    c.number_tables.new.context c.take_table_groups.new.context c.number_tables.new.nodes
    c.take_table_groups.ensures.grows c.number_tables.ensures.numbered

use Rattle.std.proofs.Common.{◌∙◌}
use Rattle.std.proofs.lemmas.Result.{on_ok_weaker}
use Rattle.cal_channel.specs.Places.{at_place, lists_of}
use Rattle.cal_context.proofs.CallerLemmas.{Grows-trans, TakesMore-trans}
use Rattle.cal_delivery.proofs.OneChannel.{taken_in_later}
use Rattle.cal_once.proofs.Learning.{learns_then}
use Rattle.cal_once.specs.Seats.{view}
use Rattle.cal_delivery.proofs.channels.take_channel.Goals as goal

pub take_traces-requires-clause-taken : goal.take_traces-requires-clause-taken
take_traces-requires-clause-taken g c =
    (c.args.tables.now, c.requires.taken.0, c.requires.taken.1)

pub take_groups-requires-clause-taken : goal.take_groups-requires-clause-taken
take_groups-requires-clause-taken g c =
    let done = c.take_traces.ensures in
    let kept = at_place c.args.place (lists_of c.args.channels.now) in (
      c.args.script.now,
      kept,
      c.requires.taken.0,
      taken_in_later c.args.script.now c.args.tree.now c.args.seat.now c.take_traces.new.seat
          done.learns.more c.args.context.now c.take_traces.new.context done.grows.attributes
          c.args.channel.now kept c.args.tables.now c.requires.taken.0 c.requires.taken.1,
    )

pub returns-clause-taken : goal.returns-clause-taken
returns-clause-taken g c =
    let done = c.take_traces.ensures in
    let kept = at_place c.args.place (lists_of c.args.channels.now) in
    let tables = c.args.tables.now in
    let has = g.T.Taker.has_taken in
    on_ok_weaker c.take_groups.result
    (λ taken recs h. TakesMore-trans (has c.args.taker.now c.args.context.now)
    (has c.take_traces.new.taker c.take_traces.new.context)
    (has c.take_groups.new.taker c.take_groups.new.context) _ _
    (c.in_ok-take_traces.ensures.taken tables recs h)
    (taken c.args.script.now kept recs
    (taken_in_later c.args.script.now c.args.tree.now c.args.seat.now c.take_traces.new.seat
    done.learns.more c.args.context.now c.take_traces.new.context done.grows.attributes
    c.args.channel.now kept tables recs h)))
    c.take_groups.ensures.taken

pub returns-clause-learns : goal.returns-clause-learns
returns-clause-learns g c = learns_then (view c.args.seat.now) (view c.take_traces.new.seat)
    (view c.take_groups.new.seat) c.take_traces.ensures.learns c.take_groups.ensures.learns

pub returns-clause-grows : goal.returns-clause-grows
returns-clause-grows g c = Grows-trans c.args.context.now c.take_traces.new.context
    c.take_groups.new.context c.take_traces.ensures.grows c.take_groups.ensures.grows

pub returns-clause-about : goal.returns-clause-about
returns-clause-about g c =
    on_ok_weaker c.take_groups.result (λ about. about ∙ c.in_ok-take_traces.ensures.about)
    c.take_groups.ensures.about

use Rattle.std.proofs.Common.{◌<◌, ◌∙◌, List, length, get_or, sym, ap, subst, arith, refl}
use Rattle.std.specs.List.{flat_map}
use Rattle.std.proofs.lemmas.List.{take_all}
use Rattle.cal_channel.specs.Places.{at_place, lists_of}
use Rattle.cal_context.proofs.CallerLemmas.{Grows-refl, Grows-trans}
use Rattle.cal_context.specs.Taking.{TakesMore}
use Rattle.cal_delivery.proofs.OneChannel.{each_reaches, many_tables, taken_in_later}
use Rattle.cal_delivery.proofs.OneChannel.{taken_read}
use Rattle.cal_delivery.specs.Taken.{rows_of}
use Rattle.cal_once.proofs.Learning.{learns_nothing, learns_then}
use Rattle.cal_once.specs.Seats.{view}
use Rattle.cal_records.proofs.TakingLemmas.{taken-more, takes-none}
use Rattle.cal_script.specs.declared.script.Channel.{Channel}
use Rattle.cal_delivery.proofs.channels.take_rows.Goals as goal

pub loop-place-init : goal.loop-place-init
loop-place-init g c = record {
  seat = c.requires.seat;
  learns = learns_nothing (view c.args.seat.now);
  grows = Grows-refl c.args.context.now;
  numbered = c.in_ok-nodes.ensures.numbered c.args.tree.now c.args.seat.now c.args.context.now
      (sym c.shape.ensures.shape);
  taken = λ of taken. takes-none (g.T.Taker.has_taken c.args.taker.now c.args.context.now);
  about = refl;
}

pub bounds-tables-place : goal.bounds-tables-place
bounds-tables-place g c =
    let test = c.loop-place-test.true in
    let all = ap (λ (cs : List Channel). length cs) c.as_slice-declared.ensures in
    let many = many_tables c.args.script.now c.args.tree.now c.args.seat.now c.args.context.now
    c.requires.taken.0 (lists_of c.args.channels.now) c.args.tables.now c.requires.taken.1 in
    omega (arith, test, all, many)

pub take_channel-requires-clause-within : goal.take_channel-requires-clause-within
take_channel-requires-clause-within g c =
    let test = c.loop-place-test.true in
    let all = ap (λ (cs : List Channel). length cs) c.as_slice-declared.ensures in
    each_reaches c.args.script.now c.args.tree.now c.args.seat.now c.args.context.now
    c.requires.taken.0 (lists_of c.args.channels.now) c.args.tables.now c.requires.taken.1
    c.loop-place.place (omega (arith, test, all))

pub take_channel-requires-clause-taken : goal.take_channel-requires-clause-taken
take_channel-requires-clause-taken g c =
    let inv = c.loop-place.invariant in
    let test = c.loop-place-test.true in
    let declared = c.as_slice-declared.result.now in
    let channel = c.index-declared-place.result in
    let own = c.index-tables-place.result in
    let items = c.as_slice.result.now in
    let place = c.loop-place.place in
    let lists = lists_of c.args.channels.now in
    let of = c.requires.taken.0 in
    let less : place < length declared = omega (arith, test) in
    let here = taken_read c.args.script.now c.args.tree.now c.args.seat.now c.args.context.now of
    lists c.args.tables.now c.requires.taken.1 declared c.as_slice-declared.ensures place channel
    own items less c.index-declared-place.is c.index-tables-place.is c.as_slice.ensures.value in (
      of channel,
      taken_in_later c.args.script.now c.args.tree.now c.args.seat.now c.loop-place.seat
          inv.learns.more c.args.context.now c.loop-place.context inv.grows.attributes channel
          (at_place place lists) items (of channel) here,
    )

pub loop-place-preserved : goal.loop-place-preserved
loop-place-preserved g c =
    let inv = c.loop-place.invariant in
    let done = c.take_channel.ensures in
    let test = c.loop-place-test.true in
    let declared = c.as_slice-declared.result.now in
    let all = c.as_slice-declared.ensures in
    let channel = c.index-declared-place.result in
    let own = c.index-tables-place.result in
    let items = c.as_slice.result.now in
    let place = c.loop-place.place in
    let lists = lists_of c.args.channels.now in
    let old = c.loop-place.context in
    let new = c.take_channel.new.context in
    let less : place < length declared = omega (arith, test) in
    let has = g.T.Taker.has_taken in
    record {
      seat = done.seat;
      learns = learns_then (view c.args.seat.now) (view c.loop-place.seat)
          (view c.take_channel.new.seat) inv.learns done.learns;
      grows = Grows-trans c.args.context.now old new inv.grows done.grows;
      numbered = done.numbered;
      taken = λ of taken.
          let here = taken_read c.args.script.now c.args.tree.now c.args.seat.now
          c.args.context.now of lists c.args.tables.now taken declared all place channel own items
          less c.index-declared-place.is c.index-tables-place.is c.as_slice.ensures.value in
          let later = taken_in_later c.args.script.now c.args.tree.now c.args.seat.now
          c.loop-place.seat inv.learns.more c.args.context.now old inv.grows.attributes channel
          (at_place place lists) items (of channel) here in
          taken-more (λ (c : Channel). rows_of c (of c))
          (has c.args.taker.now c.args.context.now) (has c.loop-place.taker old)
          (has c.take_channel.new.taker new) c.args.script.now.channels place channel
          (subst (λ (cs : List Channel). place < length cs) all less)
          (c.index-declared-place.is ∙ ap (λ (cs : List Channel). get_or cs place channel) all)
          (inv.taken of taken) (c.in_ok-take_channel.ensures.taken (of channel) later);
      about = c.in_ok-take_channel.ensures.about ∙ inv.about;
    }

pub returns-clause-about : goal.returns-clause-about
returns-clause-about g c = c.loop-place.invariant.about

pub returns-clause-taken : goal.returns-clause-taken
returns-clause-taken g c of taken =
    let test = c.loop-place-test.false in
    let all = ap (λ (cs : List Channel). length cs) c.as_slice-declared.ensures in
    let has = g.T.Taker.has_taken in
    subst (λ (cs : List Channel). TakesMore (has c.args.taker.now c.args.context.now)
    (has c.loop-place.taker c.loop-place.context)
    (flat_map (λ (c : Channel). rows_of c (of c)) cs))
    (take_all c.loop-place.place c.args.script.now.channels (omega (arith, test, all)))
    (c.loop-place.invariant.taken of taken)

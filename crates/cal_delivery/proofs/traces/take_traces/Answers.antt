use Rattle.std.proofs.Common.{◌≡◌, ◌<◌, true, [], length, get_or, sym, ◌∙◌, subst, arith, refl}
use Rattle.std.proofs.lemmas.Bool.{cond-true}
use Rattle.cal_channel.specs.Places.{at_place, lists_of}
use Rattle.cal_context.proofs.CallerLemmas.{Grows-refl, Grows-trans}
use Rattle.cal_context.proofs.ListLemmas.{IsFront-trans}
use Rattle.cal_context.specs.Taking.{TakesMore}
use Rattle.cal_delivery.proofs.AtPlace.{reaches}
use Rattle.cal_delivery.proofs.OneChannel.{script_named}
use Rattle.cal_delivery.proofs.OwnTraces.{all_parts, many_parts, own_trace, parts_more}
use Rattle.cal_once.proofs.Learning.{learns_nothing, learns_then}
use Rattle.cal_once.specs.Seats.{view}
use Rattle.cal_records.proofs.TakingLemmas.{takes-none}
use Rattle.cal_delivery.proofs.traces.take_traces.Goals as goal

pub loop-own-init : goal.loop-own-init
loop-own-init g c = record {
  seat = c.requires.seat;
  learns = learns_nothing (view c.args.seat.now);
  grows = Grows-refl c.args.context.now;
  numbered = c.requires.numbered;
  taken = λ tables recs h. takes-none (g.T.Taker.has_taken c.args.taker.now c.args.context.now);
  about = refl;
}

pub index-requires : goal.index-requires
index-requires g c =
    let test = c.loop-own-test.true in
    let own = c.own-item.result in
    let within = reaches c.args.place c.args.channels.now c.loop-own.own-index own
    c.requires.within (omega arith) c.own-item.is in
    let ok = own.ok in
    omega (arith, within, ok)

pub take_own_trace-requires-clause-named : goal.take_own_trace-requires-clause-named
take_own_trace-requires-clause-named g c =
    let kept = at_place c.args.place (lists_of c.args.channels.now) in
    IsFront-trans c.args.script.now.attributes c.args.context.now.attributes
    c.loop-own.context.attributes
    (script_named c.args.context.now c.args.script.now c.args.tree.now c.args.seat.now
    c.args.channel.now kept c.requires.taken.0 c.requires.taken.1 c.requires.taken.2)
    c.loop-own.invariant.grows.attributes

pub take_own_trace-requires-clause-own : goal.take_own_trace-requires-clause-own
take_own_trace-requires-clause-own g c =
    let inv = c.loop-own.invariant in
    let test = c.loop-own-test.true in
    let on : c.args.channel.now.trace ≡ true = cc in
    let i = c.loop-own.own-index in
    let less : i < length c.args.channels.now = omega arith in
    let h = c.requires.taken.2 in (
      get_or h.taken.takens i [],
      own_trace c.args.script.now c.args.tree.now c.args.seat.now c.args.context.now
          c.args.channel.now on c.args.place c.args.channels.now c.requires.taken.0
          c.requires.taken.1 c.requires.within h c.loop-own.seat inv.learns.more
          c.loop-own.context inv.grows.attributes i c.own-item.result c.index.result.now less
          c.own-item.is c.index.ensures,
    )

pub loop-own-preserved : goal.loop-own-preserved
loop-own-preserved g c =
    let inv = c.loop-own.invariant in
    let done = c.take_own_trace.ensures in
    let test = c.loop-own-test.true in
    let on : c.args.channel.now.trace ≡ true = cc in
    let script = c.args.script.now in
    let tree = c.args.tree.now in
    let start = c.args.context.now in
    let old = c.loop-own.context in
    let i = c.loop-own.own-index in
    let less : i < length c.args.channels.now = omega arith in
    let has = g.T.Taker.has_taken in
    record {
      seat = done.seat;
      learns = learns_then (view c.args.seat.now) (view c.loop-own.seat)
          (view c.take_own_trace.new.seat) inv.learns done.learns;
      grows = Grows-trans start old c.take_own_trace.new.context inv.grows done.grows;
      numbered = done.numbered;
      taken = λ tables recs h.
          let own = own_trace script tree c.args.seat.now start c.args.channel.now on c.args.place
          c.args.channels.now tables recs c.requires.within h c.loop-own.seat inv.learns.more old
          inv.grows.attributes i c.own-item.result c.index.result.now less c.own-item.is
          c.index.ensures in
          let many : length h.taken.takens ≡ length c.args.channels.now = many_parts script tree
          c.args.seat.now start c.args.channel.now on c.args.place c.args.channels.now tables recs
          c.requires.within h in
          parts_more (has c.args.taker.now start) (has c.loop-own.taker old)
          (has c.take_own_trace.new.taker c.take_own_trace.new.context) h.taken.takens i
          (omega (arith, many, less)) (inv.taken tables recs h)
          (c.in_ok-take_own_trace.ensures.taken (get_or h.taken.takens i []) own);
      about = c.in_ok-take_own_trace.ensures.about ∙ inv.about;
    }

pub returns-clause-about : goal.returns-clause-about
returns-clause-about g c = c.loop-own.invariant.about

pub returns-clause-taken : goal.returns-clause-taken
returns-clause-taken g c tables recs h =
    let inv = c.loop-own.invariant in
    let test = c.loop-own-test.false in
    let on : c.args.channel.now.trace ≡ true = cc in
    let has = g.T.Taker.has_taken in
    let whole = all_parts c.args.script.now c.args.tree.now c.args.seat.now c.args.context.now
    c.args.channel.now on c.args.place c.args.channels.now tables recs c.requires.within h
    c.loop-own.own-index (omega arith) in
    subst (TakesMore (has c.args.taker.now c.args.context.now)
    (has c.loop-own.taker c.loop-own.context))
    (whole ∙ sym (cond-true c.args.channel.now.trace recs [] on)) (inv.taken tables recs h)

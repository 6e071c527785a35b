use Rattle.std.proofs.Common.{◌∙◌, arith, refl}
use Rattle.std.proofs.lemmas.List.{length-set}
use Rattle.cal_keeping.proofs.KeptChannels.{asked-at, each-flushed, flush-noted, in-channels}
use Rattle.cal_keeping.proofs.KeptChannels.{may-hand}
use Rattle.cal_keeping.proofs.channels.ChannelsKeeper.flush.Goals as goal

pub index_mut-requires : goal.index_mut-requires
index_mut-requires g c =
    let r = c.requires.ready in
    let less = in-channels _ _ r.0 c.args.self.now r.1 r.2 r.3 c.args.channel r.4 in
    let long = c.args.self.now.channels.ok.0 in
    omega (arith, less, long)

pub flush-requires : goal.flush-requires
flush-requires g c =
    let r = c.requires.ready in
    let was = c.index_mut.result.now in
    may-hand _ _ r.0 c.args.self.now r.1 r.2 r.3 c.args.channel r.4 was
    (asked-at _ _ r.0 c.args.self.now r.1 r.2 r.3 c.args.channel r.4 was
    c.index_mut.ensures.value)

pub returns-clause-reply : goal.returns-clause-reply
returns-clause-reply g c =
    let r = c.requires.ready in
    let kept = c.args.self.now in
    let was = c.index_mut.result.now in
    let may = may-hand _ _ r.0 kept r.1 r.2 r.3 c.args.channel r.4 was
    (asked-at _ _ r.0 kept r.1 r.2 r.3 c.args.channel r.4 was c.index_mut.ensures.value) in
    flush-noted kept.thread _ _ was c.flush.new.kept may.part c.in_ok-reply.reply
    (c.in_ok-reply.ensures.handed kept.thread r.3.shapes may.part r.3.takes_them may.part_is)

pub returns-clause-flushed : goal.returns-clause-flushed
returns-clause-flushed g c =
    let r = c.requires.ready in
    let kept = c.args.self.now in
    let was = c.index_mut.result.now in
    let e = c.in_ok-reply.ensures in
    let at = asked-at _ _ r.0 kept r.1 r.2 r.3 c.args.channel r.4 was c.index_mut.ensures.value in
    let may = may-hand _ _ r.0 kept r.1 r.2 r.3 c.args.channel r.4 was at in
    record {
      was = was;
      is = c.flush.new.kept;
      part = may.part;
      channel_at = at;
      part_is = may.part_is;
      handed = e.handed kept.thread r.3.shapes may.part r.3.takes_them may.part_is;
      channels = refl;
      others = e.others;
      hand = e.stays;
      same = refl;
    }

pub returns-clause-ready : goal.returns-clause-ready
returns-clause-ready g c script timed left ready =
    let r = c.requires.ready in
    let kept = c.args.self.now in
    let place = c.args.channel in
    let was = c.index_mut.result.now in
    let is = c.flush.new.kept in
    let e = c.in_ok-reply.ensures in
    let account = g.H.PartHand.account in
    let at = asked-at _ _ r.0 kept r.1 r.2 r.3 place r.4 was c.index_mut.ensures.value in
    let may = may-hand _ _ r.0 kept r.1 r.2 r.3 place r.4 was at in
    record {
      named = ready.named;
      many = length-set kept.channels.items place is ∙ ready.many;
      shapes = ready.shapes;
      shaped = ready.shaped;
      takes_them = e.takes kept.thread ready.shapes ready.takes_them;
      timed_is = ready.timed_is;
      each = each-flushed kept.channels.items (account kept.hand) (account c.flush.new.self) place
          was is kept.thread may.part c.in_ok-reply.reply at may.part_is
          (e.handed kept.thread r.3.shapes may.part r.3.takes_them may.part_is) e.others left
          script.channels ready.shapes ready.each;
    }

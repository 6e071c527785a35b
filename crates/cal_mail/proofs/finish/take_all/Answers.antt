use Rattle.std.proofs.Common.{◌≡◌, ◌++◌, map, length, set, take, drop, ap, ◌∙◌, subst}
use Rattle.crossbeam_channel.specs.Claims.{view}
use Rattle.crossbeam_channel.specs.Ends.{sends_on}
use Rattle.cal_mail.specs.Ends.{AreEndedOf}
use Rattle.cal_mail.specs.Passes.{with_sent}
use Rattle.cal_mail.proofs.Ending.{AreEndedOf-front, AreEndedOf-last, taken-more, told_of}
use Rattle.cal_mail.proofs.finish.take_all.Goals as goal

pub loop-one-preserved : goal.loop-one-preserved
loop-one-preserved g c =
    let own = sends_on c.args.own.now in
    let all = c.args.ended.items in
    let first = (view c.args.pass.now).others in
    let left = c.pop.new.self.items in
    let one = c.in-Some.one in
    let kept = c.loop-one.invariant in
    let items = c.in-Some.ensures.items in
    let others = (view c.loop-one.pass).others in
    let are = subst (λ l. AreEndedOf own l) items kept.ended in
    let last = AreEndedOf-last own left one are in
    let joined = c.take_in.ensures.joined in
    let more = taken-more first all left one c.requires.all
    (subst (λ l. all ≡ l ++ drop (length l) all) items kept.split) in
    record {
      at = c.take_in.ensures.at;
      live = ap (λ v. v.live) joined ∙ kept.live;
      sender = ap (λ v. v.sender) joined ∙ kept.sender;
      got = ap (λ v. v.got) joined ∙ kept.got;
      ended = AreEndedOf-front own left one are;
      split = more.0;
      others = ap (λ v. v.others) joined
          ∙ ap (λ sender. with_sent others sender (view one.pass).sent) last.sender_is
          ∙ ap (λ l. set l (length left) (told_of one))
          (subst (λ l. others ≡ take (length l) first ++ map told_of (drop (length l) all)) items kept.others)
          ∙ more.1;
    }

use Rattle.std.proofs.Common.{refl, subst, sym}
use Rattle.cal_context.specs.Tree.{path_at}
use Rattle.cal_keys.specs.Shares.{AreShares, with_path}
use Rattle.cal_keys.specs.Leading.{Leads}
use Rattle.cal_keys.specs.declared.share.Share.{Share}
use Rattle.cal_keys.proofs.ShareLemmas.{put_last, shares_join}
use Rattle.cal_keys.proofs.key_paths.join_share.Goals as goal

pub returns-clause-shares : goal.returns-clause-shares
returns-clause-shares c = λ count takes one rise shares.
    let own = c.args.own.now in
    let new = c.joined.new.context in
    let old = c.args.shares.now.items in
    let share = c.args.share in
    let made : Share = record { place = share.place; node = c.in_ok-node.node } in
    let leads = subst (Leads own (takes share.place)) (sym (c.in_ok-before.ensures.node rise)) (shares.lead share.place) in
    subst (AreShares new count (with_path own share takes))
    (sym (put_last share.place old c.take_last.new.shares.items c.push.new.self.items made refl rise (c.in_ok-before.ensures.rest rise) c.in_ok-push.ensures.items))
    (shares_join own new c.has_each_once.ensures c.has_each_once-2.ensures count takes old share made refl c.in_ok-node.ensures.grows one
    (c.in_ok-node.ensures.leads (takes share.place) (path_at own share.node) leads (record { within = one.within; is = refl })) shares)

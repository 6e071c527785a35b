use Rattle.std.proofs.Common.{◌<◌, ◌+◌, ℕ, [], List, arith, ap, get_or, length, refl, subst, sym, take}
use Rattle.std.proofs.lemmas.List.{take_all}
use Rattle.cal_context.proofs.CallerLemmas.{Grows-refl, Grows-trans, within_paths}
use Rattle.cal_value.specs.declared.attribute.Entry.{Entry}
use Rattle.cal_keys.specs.Shares.{AreShares, IsShareIn, with_path}
use Rattle.cal_keys.specs.declared.share.Share.{Share}
use Rattle.cal_keys.proofs.ShareLemmas.{AreShares-agree, no_shares, said_next, same_read, with_said}
use Rattle.cal_keys.proofs.key_paths.join_shares.Goals as goal

pub loop-share-init : goal.loop-share-init
loop-share-init c = record {
  grows = Grows-refl c.args.own.now;
  shares = λ count up all. subst (AreShares c.args.own.now count (with_said c.args.own.now (λ p. []) [])) (sym c.new-joined.ensures.items)
      (no_shares c.args.own.now c.has_each_once.ensures count (with_said c.args.own.now (λ p. []) []) (λ p. refl));
}

pub loop-share-preserved : goal.loop-share-preserved
loop-share-preserved c =
    let own = c.args.own.now in
    let mid = c.loop-share.own in
    let new = c.join_share.new.own in
    let xs = c.args.shares.now in
    let i = c.loop-share.share-index in
    let zero : Share = record { place = 0; node = record { 0 = 0 } } in
    let x : Share = get_or xs i zero in
    let nothing : ℕ → List Entry = λ p. [] in
    record {
      grows = Grows-trans own mid new c.loop-share.invariant.grows c.in_ok-join_share.ensures.grows;
      shares = λ count up all.
          let short : c.loop-share.share-index < length c.args.shares.now = c.loop-share-test.true in
          let one = all i zero (omega arith) in
          let here : IsShareIn mid count x = record { place = one.place; below = one.below; within = within_paths c.loop-share.invariant.grows x.node.0 one.within } in
          let bound = c.loop-share.invariant.shares (x.place + 1) up (λ j d l.
          let known = all j d (omega (arith, l)) in
          let less = up j i d (omega (arith, l)) short in
          let same = ap (λ (s : Share). s.place) (same_read xs i d zero short) in
          record { place = omega (arith, less, same); below = known.below; within = known.within }) in
          AreShares-agree new count (with_path mid x (with_said own nothing (take i xs))) (with_said own nothing (take (i + 1) xs)) c.join_share.new.shares.items
          (said_next own mid nothing xs i x c.loop-share.invariant.grows short (same_read xs i zero x short) one.within)
          (c.in_ok-join_share.ensures.shares count (with_said own nothing (take i xs)) here bound.rise
          (c.loop-share.invariant.shares count up (λ j d l. all j d (omega (arith, l)))));
    }

pub returns-clause-shares : goal.returns-clause-shares
returns-clause-shares c = λ count takes up say.
    let nothing : ℕ → List Entry = λ p. [] in
    AreShares-agree c.loop-share.own count (with_said c.args.own.now nothing c.args.shares.now) takes c.loop-share.joined.items say.say
    (subst (λ xs. AreShares c.loop-share.own count (with_said c.args.own.now nothing xs) c.loop-share.joined.items)
    (take_all c.loop-share.share-index c.args.shares.now c.loop-share-test.false)
    (c.loop-share.invariant.shares count up (λ j d l. say.within j d (omega (arith, l, c.loop-share.auto.share-index-end)))))

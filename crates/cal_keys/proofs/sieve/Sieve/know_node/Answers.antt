use Rattle.std.proofs.Common.{◌∙◌, [], refl, ap, sym}
use Rattle.cal_context.proofs.CallerLemmas.{Grows-refl}
use Rattle.cal_keys.specs.Shares.{node_for, with_share}
use Rattle.cal_keys.specs.Sieves.{shares_at}
use Rattle.cal_keys.specs.Leading.{IsStep}
use Rattle.std.proofs.Common.{subst}
use Rattle.cal_keys.specs.declared.share.Share.{Share}
use Rattle.cal_keys.specs.declared.sieve.Sieve.{Sieve}
use Rattle.cal_keys.proofs.SieveLemmas.{knows_next, shares_own, shares_root, shares_same}
use Rattle.cal_keys.proofs.sieve.Sieve.know_node.Goals as goal

pub returns-in_default-clause-knows : goal.returns-in_default-clause-knows
returns-in_default-clause-knows c = λ names h.
    let t = c.args.context.now in
    let own = c.args.own.now in
    let new : Sieve = record { takers = c.args.self.now.takers; shares = c.push_none.new.self } in
    knows_next t own own names c.args.self.now new c.args.node [] (Grows-refl own) refl c.in_ok-push_none.ensures c.requires.next
    (shares_root t own c.has_each_once.ensures names c.args.node c.requires.within c.in_default.ensures.root.1) h

pub returns-in_default-in_paths-clause-knows : goal.returns-in_default-in_paths-clause-knows
returns-in_default-in_paths-clause-knows c = λ names h.
    let t = c.args.context.now in
    let own = c.args.own.now in
    let s = c.args.self.now in
    let link = c.in-Some.link in
    let new : Sieve = record { takers = s.takers; shares = c.push_same.new.self } in
    knows_next t own own names s new c.args.node (shares_at s link.parent) (Grows-refl own) refl c.in_ok-push_same.ensures c.requires.next
    (shares_same t own names s h link c.args.node c.in-Some.ensures.linked c.requires.next (sym c.in_paths.ensures ∙ c.in_default-in_paths.is)) h

pub returns-clause-knows : goal.returns-clause-knows
returns-clause-knows c = λ names h.
    let t = c.args.context.now in
    let own = c.args.own.now in
    let s = c.args.self.now in
    let link = c.in-Some.link in
    let share : Share = record { place = c.in-Some-in_paths.place; node = c.in_ok-node.node } in
    let new : Sieve = record { takers = s.takers; shares = c.push_with.new.self } in
    knows_next t own c.step.new.context names s new c.args.node (with_share share (shares_at s link.parent)) c.in_ok-node.ensures.grows refl
    c.in_ok-push_with.ensures c.requires.next
    (shares_own t own names s h link c.args.node c.in-Some.ensures.linked c.requires.next c.step.new.context c.has_each_once-2.ensures c.in_ok-node.ensures.grows share
    (record { attr = c.attribute_at-attribute.result.now; value = c.value_at.result.now })
    (λ i. record { attr = c.attribute_at-attribute.ensures i; value = c.value_at.ensures i })
    (sym c.in_paths.ensures ∙ c.in-Some-in_paths.is)
    (subst (λ n. IsStep own c.step.new.context n (record { attr = c.attribute_at-attribute.result.now; value = c.value_at.result.now }) c.in_ok-node.node)
    (c.node_for-above.ensures ∙ ap (λ xs. node_for xs share.place) c.get.ensures) c.in_ok-node.ensures.step)) h

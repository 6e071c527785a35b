use Rattle.std.proofs.Common.{◌∙◌, sym}
use Rattle.cal_keys.proofs.ShareLemmas.{last_at, last_before}
use Rattle.cal_keys.proofs.key_paths.take_last.Goals as goal

pub returns-then-last-place-clause-node : goal.returns-then-last-place-clause-node
returns-then-last-place-clause-node c = λ h.
    (last_at c.args.place c.args.shares.now.items c.pop.new.self.items c.in-Some.last c.in-Some.ensures.items c.if-last-place.true h).0

pub returns-then-last-place-clause-rest : goal.returns-then-last-place-clause-rest
returns-then-last-place-clause-rest c = λ h.
    (last_at c.args.place c.args.shares.now.items c.pop.new.self.items c.in-Some.last c.in-Some.ensures.items c.if-last-place.true h).1

pub returns-in_ok-push-in-Some-clause-node : goal.returns-in_ok-push-in-Some-clause-node
returns-in_ok-push-in-Some-clause-node c = λ h.
    (last_before c.args.place c.args.shares.now.items c.pop.new.self.items c.in-Some.last c.in-Some.ensures.items c.if-last-place.false h).0

pub returns-in_ok-push-in-Some-clause-rest : goal.returns-in_ok-push-in-Some-clause-rest
returns-in_ok-push-in-Some-clause-rest c = λ h.
    c.in_ok-push-in-Some.ensures.items ∙ sym c.in-Some.ensures.items
    ∙ (last_before c.args.place c.args.shares.now.items c.pop.new.self.items c.in-Some.last c.in-Some.ensures.items c.if-last-place.false h).1

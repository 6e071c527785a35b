use Rattle.std.proofs.Common.{sym, ◌∙◌, arith}
use Rattle.cal_filter.specs.Known.{sought}
use Rattle.cal_filter.proofs.Finding.{immediate_found, immediates_more, immediates_none}
use Rattle.cal_filter.proofs.Finding.{unnamed_none}
use Rattle.cal_filter.proofs.seeker.Seeker.last_immediate.Goals as goal

pub loop-place-preserved : goal.loop-place-preserved
loop-place-preserved c = λ k.
    immediates_more c.args.context.now (sought c.args.self.now) c.args.imms.now c.loop-place.place
    c.index-imms-place.result c.loop-place-test.true c.loop-place.auto.place c.index-imms-place.is
    (c.loop-place.invariant k)
    (sym (c.seeks.ensures (record { knows = k.knows; attributes = k.attributes }))
    ∙ c.if-seeks.false)

pub returns-then-seeks-clause-last : goal.returns-then-seeks-clause-last
returns-then-seeks-clause-last c = λ k.
    immediate_found c.args.context.now (sought c.args.self.now) c.args.imms.now c.loop-place.place
    c.index-imms-place.result c.loop-place-test.true c.loop-place.auto.place c.index-imms-place.is
    (c.loop-place.invariant k)
    (sym (c.seeks.ensures (record { knows = k.knows; attributes = k.attributes }))
    ∙ c.if-seeks.true)

pub returns-clause-last : goal.returns-clause-last
returns-clause-last c = λ k.
    immediates_none c.args.context.now (sought c.args.self.now) c.args.imms.now
    (λ i x short. c.loop-place.invariant k i x (omega arith) short)

pub returns-then-is_unnamed-clause-last : goal.returns-then-is_unnamed-clause-last
returns-then-is_unnamed-clause-last c = λ k.
    unnamed_none c.args.context.now c.args.self.now k (c.is_unnamed.ensures c.if-is_unnamed.true)
    c.args.imms.now c.requires

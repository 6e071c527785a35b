use Rattle.cal_filter.proofs.InternedLemmas.{interned}
use Rattle.cal_filter.proofs.record.intern_entry.Goals as goal

pub returns-clause-adds : goal.returns-clause-adds
returns-clause-adds c = λ es h.
    interned c.args.context.now c.attribute.new.self c.args.imms.now.items c.push.new.self.items es
    c.args.entry.now
    (record { attribute = c.in_ok-attribute.attribute; value = c.in_ok-value.value })
    c.in_ok-attribute.ensures.grows c.in_ok-attribute.ensures.added c.in_ok-value.ensures
    c.in_ok-push.ensures.items h

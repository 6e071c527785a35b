use Rattle.std.proofs.Common.{map, subst, sym}
use Rattle.std.specs.List.{All, AllZip}
use Rattle.std.proofs.lemmas.Result.{on_ok_weaker}
use Rattle.cal_filter.specs.Known.{KnowsAll, sought}
use Rattle.cal_parts.specs.Counters.{CountsFor}
use Rattle.cal_parts.proofs.counters.Counters.add_record.Goals as goal

pub returns-clause-added : goal.returns-clause-added
returns-clause-added c =
    let counters = c.args.self.now in
    let seekers = c.as_slice-seekers.result.now in
    on_ok_weaker c.add_all.result
    (λ added rs ready.
    let knows = subst (All (KnowsAll c.args.context.now)) (sym c.as_slice-seekers.ensures.value) ready.knows in
    added rs
    (subst (λ cs. AllZip (CountsFor (map sought seekers)) rs cs) (sym c.deref.ensures.value)
    (subst (λ ss. AllZip (CountsFor (map sought ss)) rs counters.counters.items) (sym c.as_slice-seekers.ensures.value) ready.counts))
    (record { knows = knows; usual = c.number_at-number.ensures knows }))
    c.add_all.ensures.added

use Rattle.std.specs.Prelude.{option_copied}
use Rattle.cal_context.proofs.CallerLemmas.{Grows-trans, TakesMore-trans}
use Rattle.cal_run.proofs.NumberLemmas.{AreNumbered-Grows}
use Rattle.cal_records.specs.Records.{grouped, traced}
use Rattle.cal_records.specs.Told.{told}
use Rattle.cal_records.proofs.run.take_rows_of.Goals as goal

pub take_groups-requires-clause-numbered : goal.take_groups-requires-clause-numbered
take_groups-requires-clause-numbered g c =
    AreNumbered-Grows c.take_trace.ensures.grows c.args.script.now c.args.numbers.now
    c.requires.numbered

pub returns-in_err-grouped-clause-grows : goal.returns-in_err-grouped-clause-grows
returns-in_err-grouped-clause-grows g c =
    Grows-trans _ _ _ c.take_trace.ensures.grows c.take_groups.ensures.grows

pub returns-clause-taken : goal.returns-clause-taken
returns-clause-taken g c =
    let script = c.args.script.now in
    let journal = told script (option_copied c.args.journal) in
    let channel = c.args.channel.now in
    let has_taken = g.T.Taker.has_taken in
    TakesMore-trans (has_taken c.args.taker.now c.args.context.now)
    (has_taken c.take_trace.new.taker c.take_trace.new.context)
    (has_taken c.take_groups.new.taker c.take_groups.new.context)
    (traced script journal channel) (grouped script journal channel)
    c.in_ok-traced.ensures.taken c.in_ok-grouped.ensures.taken

pub returns-clause-grows : goal.returns-clause-grows
returns-clause-grows g c =
    Grows-trans _ _ _ c.take_trace.ensures.grows c.take_groups.ensures.grows

use Rattle.std.proofs.Common.{[], ap, ◌∙◌}
use Rattle.cal_records.specs.Records.{globals_of}
use Rattle.cal_records.proofs.run.run_records_in.Goals as goal

pub expand-requires : goal.expand-requires
expand-requires c = c.in_ok-globals.ensures.means.within

pub returns : goal.returns
returns c =
    let rows = c.into_rows.ensures ∙ c.in_ok-take_run.ensures.taken [] c.new-taken.ensures in
    let globals = c.in_ok-expand.ensures ∙ c.in_ok-globals.ensures.means.means
    ∙ ap globals_of c.as_slice.ensures in
    λ i. record { rows = rows i; globals = globals i }

use Rattle.std.proofs.Common.{[], ap, ◌∙◌, subst, sym}
use Rattle.cal_ran.specs.Ended.{IsEnded}
use Rattle.cal_records.specs.Records.{globals_of, run_rows}
use Rattle.cal_script.specs.declared.script.Script.{Script}
use Rattle.cal_whole.proofs.whole.expanded.Goals as goal

pub take_rows-requires : goal.take_rows-requires
take_rows-requires c = record {
  ended = subst (λ (s : Script). IsEnded s c.args.ended.now) (sym c.requires.script_is)
      c.requires;
}

pub expand-requires : goal.expand-requires
expand-requires c = c.in_ok-globals.ensures.means.within

pub returns-clause-records : goal.returns-clause-records
returns-clause-records c =
    let rows = c.into_rows.ensures ∙ c.in_ok-take_rows.ensures.taken [] c.new-taken.ensures
    ∙ ap (λ (s : Script). run_rows s c.args.ended.now.journal) c.requires.script_is in
    let globals = c.in_ok-expand.ensures ∙ c.in_ok-globals.ensures.means.means
    ∙ ap globals_of c.as_slice.ensures in
    λ i. record { rows = rows i; globals = globals i }

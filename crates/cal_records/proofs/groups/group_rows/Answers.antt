use Rattle.std.proofs.Common.{[], subst, sym, ◌∙◌}
use Rattle.std.specs.Prelude.{option_copied}
use Rattle.cal_context.proofs.CallerLemmas.{Grows-trans}
use Rattle.cal_engine.specs.Answers.{answer_of}
use Rattle.cal_engine.specs.Making.{MakesRows}
use Rattle.cal_engine.specs.Rows.{IsOfGroups}
use Rattle.cal_ql.specs.declared.query.Query.{Query}
use Rattle.cal_records.specs.Told.{told}
use Rattle.cal_run.proofs.NumberLemmas.{AreNumbered-Grows}
use Rattle.cal_run.specs.Runs.{snapshots}
use Rattle.cal_records.proofs.groups.group_rows.Goals as goal

pub take_snapshots-requires-clause-numbered : goal.take_snapshots-requires-clause-numbered
take_snapshots-requires-clause-numbered c =
    AreNumbered-Grows c.in_ok-fold.ensures.grows c.args.script.now c.args.numbers.now
    c.requires.numbered

pub returns-in_err-refused-clause-grows : goal.returns-in_err-refused-clause-grows
returns-in_err-refused-clause-grows c =
    Grows-trans _ _ _ c.in_ok-fold.ensures.grows c.take_snapshots.ensures.grows

pub returns-in_err-rows-clause-grows : goal.returns-in_err-rows-clause-grows
returns-in_err-rows-clause-grows c =
    Grows-trans _ _ _ (Grows-trans _ _ _ c.in_ok-fold.ensures.grows c.take_snapshots.ensures.grows)
    c.grouped_rows.ensures.grows

pub returns-clause-grows : goal.returns-clause-grows
returns-clause-grows c =
    Grows-trans _ _ _ (Grows-trans _ _ _ c.in_ok-fold.ensures.grows c.take_snapshots.ensures.grows)
    c.in_ok-rows.ensures.grows

pub returns-clause-rows : goal.returns-clause-rows
returns-clause-rows c =
    let taken = snapshots c.args.script.now (told c.args.script.now (option_copied c.args.journal)) c.args.channel.now in
    subst (λ (q : Query). MakesRows c.grouped_rows.new.context q.aggs c.in_ok-rows.rows
    (answer_of q taken).rows.rows) (c.in_ok-refused.ensures.about ∙ c.in_ok-fold.ensures.query)
    (c.in_ok-rows.ensures.rows taken (c.in_ok-refused.ensures.taken [] c.in_ok-fold.ensures.none))

pub grouped_rows-requires : goal.grouped_rows-requires
grouped_rows-requires c = subst IsOfGroups (sym (c.in_ok-refused.ensures.about ∙ c.in_ok-fold.ensures.query)) c.requires.groups

use Rattle.std.proofs.Common.{[], subst, sym, ◌∙◌}
use Rattle.cal_context.proofs.CallerLemmas.{Grows-trans}
use Rattle.cal_engine.specs.Answers.{answer_of}
use Rattle.cal_engine.specs.FoldGrows.{HasFolded-stays}
use Rattle.cal_engine.specs.Making.{MakesRows}
use Rattle.cal_engine.specs.Rows.{IsOfGroups}
use Rattle.cal_groups.proofs.TableLemmas.{may_take_tables-Grows, tables-Grows}
use Rattle.cal_groups.proofs.groups.group_rows.Goals as goal
use Rattle.cal_groups.specs.ContextRows.{records_of}
use Rattle.cal_ql.specs.declared.query.Query.{Query}

pub fold_tables-requires-clause-rows : goal.fold_tables-requires-clause-rows
fold_tables-requires-clause-rows c =
    may_take_tables-Grows
    (Grows-trans _ _ _ c.in_ok-fold.ensures.grows c.in_ok-columns.ensures.grows)
    c.args.nodes.now c.args.tables.now c.requires.rows

pub fold_tables-requires-clause-none : goal.fold_tables-requires-clause-none
fold_tables-requires-clause-none c =
    HasFolded-stays c.in_ok-fold.fold _ _ [] c.in_ok-fold.ensures.none
    c.in_ok-columns.ensures.grows

pub returns-in_err-columns-clause-grows : goal.returns-in_err-columns-clause-grows
returns-in_err-columns-clause-grows c =
    Grows-trans _ _ _ c.in_ok-fold.ensures.grows c.in_err-columns.ensures.grows

pub returns-in_err-fold_tables-clause-grows : goal.returns-in_err-fold_tables-clause-grows
returns-in_err-fold_tables-clause-grows c =
    Grows-trans _ _ _ c.in_ok-fold.ensures.grows c.in_ok-columns.ensures.grows

pub returns-in_err-rows-clause-grows : goal.returns-in_err-rows-clause-grows
returns-in_err-rows-clause-grows c =
    Grows-trans _ _ _
    (Grows-trans _ _ _ c.in_ok-fold.ensures.grows c.in_ok-columns.ensures.grows)
    c.in_err-rows.ensures.grows

pub returns-clause-grows : goal.returns-clause-grows
returns-clause-grows c =
    Grows-trans _ _ _
    (Grows-trans _ _ _ c.in_ok-fold.ensures.grows c.in_ok-columns.ensures.grows)
    c.in_ok-rows.ensures.grows

pub returns-clause-rows : goal.returns-clause-rows
returns-clause-rows c = λ keyed means.
    let recs = records_of c.args.channel.now keyed in
    let grown = Grows-trans _ _ _ c.in_ok-fold.ensures.grows c.in_ok-columns.ensures.grows in
    subst (λ (q : Query). MakesRows c.grouped_rows.new.context q.aggs c.in_ok-rows.rows
    (answer_of q recs).rows.rows) (c.in_ok-fold_tables.ensures.query
    ∙ c.in_ok-fold.ensures.query)
    (c.in_ok-rows.ensures.rows recs (c.in_ok-fold_tables.ensures.folded keyed
    (tables-Grows grown c.args.nodes.now c.args.tables.now keyed means)))

pub grouped_rows-requires : goal.grouped_rows-requires
grouped_rows-requires c = subst IsOfGroups (sym (c.in_ok-fold_tables.ensures.query ∙ c.in_ok-fold.ensures.query)) c.requires.groups

use Rattle.std.proofs.Common.{List, subst, sym}
use Rattle.std.specs.List.{AllZip}
use Rattle.cal_groups.proofs.groups.take_table.Goals as goal
use Rattle.cal_groups.specs.ContextRows.{MayTake, RowMeans}
use Rattle.cal_table.specs.Rows.{Row}

pub take_rows-requires-clause-rows : goal.take_rows-requires-clause-rows
take_rows-requires-clause-rows g c =
    subst (MayTake c.args.nodes.now c.args.context.now) (sym c.rows-rows.ensures.rows)
    c.requires.rows

pub returns-clause-taken : goal.returns-clause-taken
returns-clause-taken g c = λ keyed means. c.in_ok-take_rows.ensures.taken keyed
    (subst (λ (rows : List Row). AllZip (RowMeans c.args.nodes.now c.args.context.now) rows keyed)
    (sym c.rows-rows.ensures.rows) means)

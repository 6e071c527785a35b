use Rattle.std.proofs.Common.{arith, subst}
use Rattle.cal_context.proofs.CallerLemmas.{Grows-trans}
use Rattle.cal_groups.proofs.ColumnLemmas.{columns_more}
use Rattle.cal_groups.proofs.columns.columns_of.Goals as goal
use Rattle.cal_groups.specs.Columns.{IsColumn}

pub loop-value-preserved : goal.loop-value-preserved
loop-value-preserved c =
    let grown = c.in_ok-column.ensures.grows in
    record {
      columns = columns_more grown c.args.values.now c.loop-value.columns.items
          c.push.new.self.items c.loop-value.value-index c.value-item.result
          c.in_ok-column.column c.loop-value.invariant.columns (omega arith) c.value-item.is
          c.in_ok-push.ensures.items
          (subst (λ v. IsColumn c.new.new.context v c.in_ok-column.column) c.as_str.ensures
          c.in_ok-column.ensures.column);
      grows = Grows-trans c.args.context.now c.loop-value.context c.new.new.context
          c.loop-value.invariant.grows grown;
    }

pub returns-in_err-column-clause-grows : goal.returns-in_err-column-clause-grows
returns-in_err-column-clause-grows c =
    Grows-trans c.args.context.now c.loop-value.context c.new.new.context
    c.loop-value.invariant.grows c.in_err-column.ensures.grows

pub returns-in_err-push-clause-grows : goal.returns-in_err-push-clause-grows
returns-in_err-push-clause-grows c =
    Grows-trans c.args.context.now c.loop-value.context c.new.new.context
    c.loop-value.invariant.grows c.in_ok-column.ensures.grows

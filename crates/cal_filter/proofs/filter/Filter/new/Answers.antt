use Rattle.std.proofs.Common.{List, arith, subst}
use Rattle.std.specs.List.{AllZip}
use Rattle.cal_ql.specs.declared.query.Cond.{Cond}
use Rattle.cal_ql.specs.declared.query.Let.{Let}
use Rattle.cal_filter.specs.Ready.{IsCondition, IsDefinition}
use Rattle.cal_filter.proofs.filter.Filter.new.Goals as goal

pub returns-clause-ready : goal.returns-clause-ready
returns-clause-ready c =
    let t = c.definitions_of.new.context in
    record {
      lets = subst (λ (lets : List Let). AllZip (IsDefinition t) lets c.in_ok-definitions.definitions.items)
          c.as_slice.ensures c.in_ok-definitions.ensures.ready;
      named = rw c.new.ensures.names c.in_ok-definitions.ensures.named;
      latest = c.new.ensures.knows t;
      conds = subst (λ (conds : List Cond). AllZip (IsCondition t) conds c.in_ok-conditions.conditions.items)
          c.as_slice-2.ensures (c.in_ok-conditions.ensures t);
      known = record {
        lets = λ i d short j s inside. record { attributes = omega arith; nodes = omega arith };
        conds = λ i d short. record { attributes = omega arith; nodes = omega arith };
      };
    }

use Rattle.std.proofs.Common.{◌<◌, length, subst, arith}
use Rattle.cal_context.proofs.ListLemmas.{AreApart-from_distinct}
use Rattle.cal_value.specs.ExactOrder.{exact_equiv, exact_tells, text_exact}
use Rattle.cal_filter.proofs.latest.Latest.new.Goals as goal

pub returns-clause-knows : goal.returns-clause-knows
returns-clause-knows c = λ t. record {
  apart = AreApart-from_distinct (exact_equiv text_exact) (exact_tells text_exact) c.args.names.keys
      c.as_slice.ensures.unique;
  attributes = λ a short.
      absurd (omega (arith, subst (λ xs. a.0 < length xs) c.new.ensures short));
}

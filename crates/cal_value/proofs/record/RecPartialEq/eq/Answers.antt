use Rattle.std.proofs.Common.{rules}
use Rattle.cal_value.specs.ExactOrder.{exact_answer}
use Rattle.cal_value.specs.OrderLaws.{group_exact}
use Rattle.cal_value.proofs.record.RecPartialEq.eq.Goals as goal

pub returns-then-same-clause-value : goal.returns-then-same-clause-value
returns-then-same-clause-value c =
    exact_answer group_exact c.args.self.now c.args.other.now c.same-then-same.result (search rules)

pub returns-else-same-clause-value : goal.returns-else-same-clause-value
returns-else-same-clause-value c =
    exact_answer group_exact c.args.self.now c.args.other.now c.same.result (search rules)

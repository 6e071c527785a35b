use Rattle.std.proofs.Common.{rules}
use Rattle.cal_value.specs.ExactOrder.{text_exact, exact_answer}
use Rattle.cal_value.proofs.text.TextPartialEq.eq.Goals as goal

pub returns-clause-value : goal.returns-clause-value
returns-clause-value c =
    exact_answer text_exact c.args.self.now c.args.other.now c.eq.result (search rules)

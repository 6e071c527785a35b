use Rattle.std.proofs.Common.{Result, ap, subst}
use Rattle.cal_read.specs.Standing.{TakesLine}
use Rattle.cal_read.specs.Steps.{AnswersFor}
use Rattle.cal_read.specs.Stream as streams
use Rattle.cal_read.specs.Stream.{line_step}
use Rattle.cal_read.specs.declared.kind.StreamKind.{StreamKind}
use Rattle.cal_read.proofs.StreamLemmas.{line_no_text}
use Rattle.cal_read.proofs.stream.Stream.read_bytes.Goals as goal

pub returns-in-Ok-clause-read : goal.returns-in-Ok-clause-read
returns-in-Ok-clause-read g c = λ s stands.
    let cases = c.in-Ok.ensures.cases in
    subst (λ (o : Result streams.Stream StreamKind). AnswersFor (λ _. TakesLine c.read_str.new.context c.read_str.new.self
    (g.T.Taker.has_taken c.args.taker.now c.args.context.now) (g.T.Taker.has_taken c.read_str.new.taker c.read_str.new.context) s) c.read_str.result o)
    (ap (line_step s) cases.0)
    (c.read_str.ensures.read s stands)

pub returns-in-Err-clause-read : goal.returns-in-Err-clause-read
returns-in-Err-clause-read g c = λ s stands. line_no_text s c.args.line.now c.in-Err.ensures.cases.0

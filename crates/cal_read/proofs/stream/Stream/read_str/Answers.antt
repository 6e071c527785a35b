use Rattle.std.proofs.Common.{Result, length, sym, ◌∙◌, subst, true≢false}
use Rattle.std.proofs.lemmas.Bool.Decides.{Decides-eqb}
use Rattle.cal_read.specs.Standing.{TakesLine}
use Rattle.cal_read.specs.Steps.{AnswersFor}
use Rattle.cal_read.specs.Stream as streams
use Rattle.cal_read.specs.declared.kind.StreamKind.{StreamKind}
use Rattle.cal_read.proofs.StreamLemmas.{blank_taken, line_text, text_list}
use Rattle.cal_read.proofs.stream.Stream.read_str.Goals as goal

pub returns-then-is_empty-clause-read : goal.returns-then-is_empty-clause-read
returns-then-is_empty-clause-read g c = λ s stands.
    let blank = blank_taken c.args.context.now c.args.self.now (g.T.Taker.has_taken c.args.taker.now c.args.context.now) s c.args.line.now stands
    ((Decides-eqb (length c.args.line.now) 0).0 (sym c.if-is_empty.ensures)) in
    (blank.0, line_text s c.args.line.now c.utf8.line ∙ blank.1, blank.2)

pub returns-clause-read : goal.returns-clause-read
returns-clause-read g c = λ s stands.
    subst (λ (o : Result streams.Stream StreamKind). AnswersFor (λ _. TakesLine c.read_text.new.context c.read_text.new.self
    (g.T.Taker.has_taken c.args.taker.now c.args.context.now) (g.T.Taker.has_taken c.read_text.new.taker c.read_text.new.context) s) c.read_text.result o)
    (sym (text_list s c.args.line.now (λ none. true≢false (sym (c.if-is_empty.ensures ∙ (Decides-eqb (length c.args.line.now) 0).1 none))))
    ∙ sym (line_text s c.args.line.now c.utf8.line))
    (c.read_text.ensures.read s stands)

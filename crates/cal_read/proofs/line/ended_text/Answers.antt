use Rattle.std.proofs.Common.{◌∷◌, ◌++◌, sym, ◌∙◌}
use Rattle.cal_read.proofs.LineLemmas.{cut_at}
use Rattle.cal_read.proofs.line.ended_text.Goals as goal

pub cut-requires-clause-within : goal.cut-requires-clause-within
cut-requires-clause-within c =
    let parts = rw c.as_bytes.ensures.value at c.in-Some.ensures.parts in
    (cut_at c.args.text.now c.in-Some.line.now _ parts).within

pub cut-requires-clause-newline : goal.cut-requires-clause-newline
cut-requires-clause-newline c =
    let parts = rw c.as_bytes.ensures.value at c.in-Some.ensures.parts in
    (cut_at c.args.text.now c.in-Some.line.now _ parts).newline

pub returns-in-Some-clause-parts : goal.returns-in-Some-clause-parts
returns-in-Some-clause-parts c =
    let parts = rw c.as_bytes.ensures.value at c.in-Some.ensures.parts in
    let at = cut_at c.args.text.now c.in-Some.line.now _ parts in
    parts ∙ (λ j. (sym at.line_is ∙ sym c.cut.ensures.line) j ++ 10 ∷ (sym at.rest_is ∙ sym c.cut.ensures.rest) j)

pub returns-in-Some-clause-line : goal.returns-in-Some-clause-line
returns-in-Some-clause-line c =
    let parts = rw c.as_bytes.ensures.value at c.in-Some.ensures.parts in
    let at = cut_at c.args.text.now c.in-Some.line.now _ parts in
    rw (c.cut.ensures.line, at.line_is) c.in-Some.ensures.line

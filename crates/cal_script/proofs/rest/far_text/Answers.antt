use Rattle.std.proofs.Common.{ap, ◌∙◌, ℕ, length-drop, arith}
use Rattle.cal_line.proofs.Inputs.{lines_of-newline, lines_of-last}
use Rattle.cal_script.specs.Lines.{lines_of}
use Rattle.cal_script.proofs.NewlineCuts.{cut_at}
use Rattle.cal_script.proofs.rest.far_text.Goals as goal

pub cut-requires-clause-within : goal.cut-requires-clause-within
cut-requires-clause-within c =
    let parts = rw c.as_bytes.ensures.value at c.in-Some.ensures.parts in
    (cut_at c.args.text.now c.in-Some.line.now _ parts).within

pub cut-requires-clause-newline : goal.cut-requires-clause-newline
cut-requires-clause-newline c =
    let parts = rw c.as_bytes.ensures.value at c.in-Some.ensures.parts in
    (cut_at c.args.text.now c.in-Some.line.now _ parts).newline

pub returns-in-Some-clause-lines : goal.returns-in-Some-clause-lines
returns-in-Some-clause-lines c =
    let parts = rw c.as_bytes.ensures.value at c.in-Some.ensures.parts in
    let at = cut_at c.args.text.now c.in-Some.line.now _ parts in
    rw (c.cut.ensures.line, c.cut.ensures.rest, at.line_is, at.rest_is)
    (ap lines_of parts ∙ lines_of-newline c.in-Some.line.now _ c.in-Some.ensures.line)

pub returns-in-Some-clause-shorter : goal.returns-in-Some-clause-shorter
returns-in-Some-clause-shorter c =
    let parts = rw c.as_bytes.ensures.value at c.in-Some.ensures.parts in
    let at = cut_at c.args.text.now c.in-Some.line.now _ parts in
    rw c.cut.ensures.rest (omega (arith, at.within, length-drop {A = ℕ}))

pub returns-in-None-clause-lines : goal.returns-in-None-clause-lines
returns-in-None-clause-lines c = lines_of-last c.args.text.now c.requires (rw c.as_bytes.ensures.value at c.in-None.ensures.none)

use Rattle.std.proofs.Common.{ap, ◌∙◌}
use Rattle.cal_line.specs.Lines.{lines_of}
use Rattle.cal_line.proofs.Inputs.{lines_of-newline, lines_of-last}
use Rattle.cal_line.proofs.lines.next_line.Goals as goal

pub returns-in-Some-clause-lines : goal.returns-in-Some-clause-lines
returns-in-Some-clause-lines c =
    ap lines_of c.in-Some.ensures.parts ∙ lines_of-newline c.in-Some.line.now c.in-Some.rest.now c.in-Some.ensures.line

pub returns-in-None-clause-lines : goal.returns-in-None-clause-lines
returns-in-None-clause-lines c = lines_of-last c.args.bytes.now c.requires c.in-None.ensures.none

use Rattle.cal_script.proofs.NewlineCuts.{lines_of-first}
use Rattle.cal_script.proofs.rest.next_text.Goals as goal

pub returns-in-Some-clause-lines : goal.returns-in-Some-clause-lines
returns-in-Some-clause-lines c =
    rw (c.cut.ensures.line, c.cut.ensures.rest) (lines_of-first c.args.text.now c.in-Some.end (rw c.as_bytes.ensures.value at c.in-Some.ensures))

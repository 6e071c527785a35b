use Rattle.std.proofs.Common.{◌<◌, List, length, sym, subst}
use Rattle.cal_process.proofs.ScriptLemmas.{line-there}
use Rattle.cal_script.specs.declared.script.Line.{Line}
use Rattle.cal_replay.proofs.step.next_line.Goals as goal

pub returns-clause-line : goal.returns-clause-line
returns-clause-line c =
    let lines = c.thread_lines-lines.result.now in
    let line = c.line_in-line.result in
    line-there c.args.script.now c.args.thread c.args.done lines line
    (sym c.thread_lines-lines.ensures)
    (subst (λ (ls : List Line). c.args.done < length ls) (sym c.thread_lines-lines.ensures)
    c.requires.remains) (c.line_in-line.ensures line)

use Rattle.std.proofs.Common.{List, [], sym, ap}
use Rattle.std.specs.Prelude.{slice_get}
use Rattle.cal_run.proofs.HeldLemmas.{read-past}
use Rattle.cal_script.specs.declared.script.Line.{Line}
use Rattle.cal_run.proofs.lines.line_of.Goals as goal

pub returns-in-None : goal.returns-in-None
returns-in-None c =
    ap (λ (lines : List Line). slice_get lines c.args.place)
    (sym (read-past c.args.script.now.threads c.args.thread [] c.in-None.ensures))

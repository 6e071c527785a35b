use Rattle.std.proofs.Common.{List, length, ap, sym, ◌∙◌}
use Rattle.std.proofs.lemmas.Option.{get_or_from_slice_get}
use Rattle.cal_replay.proofs.Starting.{no-lines}
use Rattle.cal_script.specs.declared.script.Line.{Line}
use Rattle.cal_replay.proofs.running.line_count.Goals as goal

pub returns-in-None : goal.returns-in-None
returns-in-None c =
    sym (no-lines c.args.script.now.threads c.args.thread (sym c.in-None.ensures))

pub returns-in-Some : goal.returns-in-Some
returns-in-Some c =
    c.len.ensures ∙ sym (ap (λ (ls : List Line). length ls)
    (get_or_from_slice_get c.args.script.now.threads c.args.thread c.in-Some.lines.now _
    (sym c.in-Some.ensures)))

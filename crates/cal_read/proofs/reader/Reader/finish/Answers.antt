use Rattle.std.proofs.Common.{◌++◌, ap, ◌∙◌}
use Rattle.cal_read.proofs.StepLemmas.{of_ok}
use Rattle.cal_read.proofs.WholeLemmas.{appends}
use Rattle.cal_read.proofs.reader.Reader.finish.Goals as goal

pub returns-clause-rows : goal.returns-clause-rows
returns-clause-rows c = λ bytes h.
    appends c.new-taken.result c.finish.new.taker c.args.out.now c.append.new.out _ _ (c.in_ok-globals.ensures.taken bytes h) c.new-taken.ensures
    (of_ok c.append.result c.append.ensures.ok c.if-is_err.ensures.value ∙ ap (λ rs. c.args.out.now ++ rs) c.into_rows.ensures)

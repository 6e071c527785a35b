use Rattle.cal_replay.proofs.ToldLines.{told-step}
use Rattle.cal_replay.proofs.shown_laws.told_step_law.Goals as goal

pub returns : goal.returns
returns c = λ shared attributes numbers at told old new l note h channel was is given
    next noted number line_is w r named shown before. told-step shared attributes numbers at told
    old new l note h channel was is given next noted number line_is w r named shown before

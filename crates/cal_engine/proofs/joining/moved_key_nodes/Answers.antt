use Rattle.cal_context.proofs.CallerLemmas.{Grows-trans}
use Rattle.cal_engine.proofs.joining.moved_key_nodes.Goals as goal

pub returns-clause-moved : goal.returns-clause-moved
returns-clause-moved c = c.in_ok-move_imms.ensures.moved c.in_ok-moved.ensures.moved

pub returns-clause-grows : goal.returns-clause-grows
returns-clause-grows c = Grows-trans _ _ _ c.in_ok-moved.ensures.grows c.in_ok-move_imms.ensures.grows

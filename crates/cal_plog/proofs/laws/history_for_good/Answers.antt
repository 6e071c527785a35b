use Rattle.std.proofs.Common.{slice_index_or}
use Rattle.cal_once.specs.Views.{joined}
use Rattle.cal_once.proofs.Seen.{Saw_left, Saw_right}
use Rattle.cal_plog.proofs.Reading.{has_op_later}
use Rattle.cal_plog.proofs.laws.history_for_good.Goals as goal

pub returns-clause-later : goal.returns-clause-later
returns-clause-later c slots v w ops more seen k d l = has_op_later slots v w k (slice_index_or ops k d) more (seen k d l)

pub returns-clause-first : goal.returns-clause-first
returns-clause-first c slots v w ops seen k d l = has_op_later slots v (joined v w) k (slice_index_or ops k d) (λ i x saw. Saw_left v.seen w.seen i x saw) (seen k d l)

pub returns-clause-other : goal.returns-clause-other
returns-clause-other c slots v w ops seen k d l = has_op_later slots w (joined v w) k (slice_index_or ops k d) (λ i x saw. Saw_right v.seen w.seen i x saw) (seen k d l)

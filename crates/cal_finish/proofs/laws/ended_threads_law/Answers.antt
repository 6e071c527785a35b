use Rattle.std.proofs.Common.{◌∙◌}
use Rattle.cal_finish.proofs.RunThreads.{have-states, in-order, length-threads_of}
use Rattle.cal_finish.proofs.laws.ended_threads_law.Goals as goal

pub returns-clause-many : goal.returns-clause-many
returns-clause-many g c shared runners run = length-threads_of runners ∙ run.many

pub returns-clause-states : goal.returns-clause-states
returns-clause-states g c shared runners run = have-states _ _ shared runners run

pub returns-clause-order : goal.returns-clause-order
returns-clause-order g c shared runners run = in-order _ _ shared runners run

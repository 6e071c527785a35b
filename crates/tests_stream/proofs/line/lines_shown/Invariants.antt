use Rattle.std.proofs.Common.{length}
use Rattle.tests_stream.proofs.line.lines_shown.Given as goal

abbrev pub decreases-loop-rest : goal.decreases-loop-rest
decreases-loop-rest l = length l.rest

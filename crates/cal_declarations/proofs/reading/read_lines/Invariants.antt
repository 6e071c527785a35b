use Rattle.std.proofs.Common.{length}
use Rattle.cal_script.specs.Rests.{bytes_in}
use Rattle.cal_declarations.proofs.Runs.{IsRun}
use Rattle.cal_declarations.proofs.reading.read_lines.Given as goal

-- the lines so far say what the reader has, and the others are those of the rest
abbrev pub invariant-loop-text : goal.invariant-loop-text
invariant-loop-text l = IsRun l.bytes l.line l.reader (bytes_in l.rest)

abbrev pub decreases-loop-text : goal.decreases-loop-text
decreases-loop-text l = length (bytes_in l.rest)

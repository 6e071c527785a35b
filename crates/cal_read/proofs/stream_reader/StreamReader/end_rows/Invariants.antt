use Rattle.std.proofs.Common.{◌≡◌, length}
use Rattle.cal_read.specs.Lines.{bytes_in}
use Rattle.cal_read.specs.Reading.{ReadsOn}
use Rattle.cal_read.proofs.stream_reader.StreamReader.end_rows.Given as goal

abbrev pub invariant-loop-after : goal.invariant-loop-after
invariant-loop-after g l =
    ReadsOn (g.T.Taker.has_taken l.fn.taker l.context) (g.T.Taker.has_taken l.taker l.context) l.fn.self l.self l.context (bytes_in l.fn.all) (bytes_in l.rest)
    × (g.T.Taker.about l.taker ≡ g.T.Taker.about l.fn.taker)

abbrev pub decreases-loop-after : goal.decreases-loop-after
decreases-loop-after g l = length (bytes_in l.rest)

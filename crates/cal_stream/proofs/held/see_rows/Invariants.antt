use Rattle.std.proofs.Common.{take}
use Rattle.std.specs.List.{All}
use Rattle.cal_stream.specs.Readable.{IsHeldRecord}
use Rattle.cal_stream.proofs.held.see_rows.Given as goal

abbrev pub invariant-loop-r : goal.invariant-loop-r
invariant-loop-r l = All IsHeldRecord (take l.r-index l.rows)

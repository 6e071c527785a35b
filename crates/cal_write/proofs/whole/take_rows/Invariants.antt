use Rattle.std.proofs.Common.{take, map}
use Rattle.cal_write.specs.Interning.{without_empty}
use Rattle.cal_write.specs.Writer.{HasTaken}
use Rattle.cal_write.proofs.whole.take_rows.Given as goal

-- the rows so far are taken
abbrev pub invariant-loop-rec : goal.invariant-loop-rec
invariant-loop-rec l = HasTaken l.writer l.context (map without_empty (take l.rec-index l.rows))

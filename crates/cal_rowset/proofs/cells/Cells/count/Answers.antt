use Rattle.std.proofs.Common.{arith}
use Rattle.cal_rowset.proofs.Trails.{trail-length}
use Rattle.cal_rowset.proofs.cells.Cells.count.Goals as goal

pub returns : goal.returns
returns c = λ entries trail. omega (arith, c.len.ensures, trail-length c.args.self.now entries trail)

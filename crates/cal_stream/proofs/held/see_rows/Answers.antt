use Rattle.std.proofs.Common.{arith}
use Rattle.cal_stream.specs.Readable.{IsHeldRecord}
use Rattle.cal_stream.proofs.Seen.{all-more, all-seen}
use Rattle.cal_stream.proofs.held.see_rows.Goals as goal

pub loop-r-preserved : goal.loop-r-preserved
loop-r-preserved c =
    all-more IsHeldRecord c.args.rows.now c.as_slice-r-items.result.now
    c.loop-r.r-index c.r-item.result c.as_slice-r-items.ensures (omega arith)
    c.r-item.is c.loop-r.invariant c.see_record.ensures

pub returns : goal.returns
returns c =
    all-seen IsHeldRecord c.args.rows.now c.as_slice-r-items.result.now
    c.loop-r.r-index c.as_slice-r-items.ensures (omega arith) c.loop-r.invariant

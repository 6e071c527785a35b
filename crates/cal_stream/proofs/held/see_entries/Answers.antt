use Rattle.std.proofs.Common.{arith}
use Rattle.cal_stream.specs.Readable.{IsHeldEntry}
use Rattle.cal_stream.proofs.Seen.{all-more, all-seen}
use Rattle.cal_stream.proofs.held.see_entries.Goals as goal

pub loop-entry-preserved : goal.loop-entry-preserved
loop-entry-preserved c =
    all-more IsHeldEntry c.args.entries.now c.as_slice-entry-items.result.now
    c.loop-entry.entry-index c.entry-item.result c.as_slice-entry-items.ensures (omega arith)
    c.entry-item.is c.loop-entry.invariant c.see_entry.ensures

pub returns : goal.returns
returns c =
    all-seen IsHeldEntry c.args.entries.now c.as_slice-entry-items.result.now
    c.loop-entry.entry-index c.as_slice-entry-items.ensures (omega arith) c.loop-entry.invariant

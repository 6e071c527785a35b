use Rattle.std.proofs.Common.{◌<◌, length, arith}
use Rattle.cal_channel.proofs.LookedLemmas.{looked-next}
use Rattle.cal_channel.specs.Shown.{numbered_entry}
use Rattle.cal_channel.specs.Looked.{is_looked_at}
use Rattle.cal_channel.proofs.draft.number_entries.Goals as goal

pub loop-entry-preserved : goal.loop-entry-preserved
loop-entry-preserved c =
    let within : c.loop-entry.entry-index < length c.args.more.now = omega arith in
    looked-next (is_looked_at c.args.table.now.shape) (numbered_entry c.args.script.now.values)
    _ _ _ c.args.more.now c.loop-entry.entry-index c.entry-item.result within c.entry-item.is
    c.loop-entry.invariant c.in_ok-number_entry.ensures

use Rattle.std.proofs.Common.{length, ap, arith}
use Rattle.cal_channel.specs.Traces.{no_end}
use Rattle.cal_channel.proofs.TraceLemmas.{snaps-long}
use Rattle.cal_channel.proofs.trace.Trace.len.Goals as goal

pub returns : goal.returns
returns c =
    let t = c.self.inside in
    let long = snaps-long t.nodes.items t.entries no_end t.ends.items in
    let same = ap length c.self.view_is in
    let is = c.len.ensures in
    omega (arith, long, same, is)

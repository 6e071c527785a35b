use Rattle.std.proofs.Common.{◌-◌, length, rules}
use Rattle.cal_base.proofs.mem_sink.MemSinkSink.put.Goals as goal

-- the front that was appended is what fits
pub returns-else-store-clause-front : goal.returns-else-store-clause-front
returns-else-store-clause-front c =
    let sink = c.args.self.now in (sink.room - length sink.written, search rules)

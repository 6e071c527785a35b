use Rattle.std.proofs.Common.{◌++◌}
use Rattle.cal_read.proofs.ReadLemmas.{has_read, ready_read}
use Rattle.cal_read.proofs.stream_reader.StreamReader.feed.Goals as goal

pub returns-in-Ok-clause-ready : goal.returns-in-Ok-clause-ready
returns-in-Ok-clause-ready g c =
    let h = has_read c.args.self.now c.args.context.now c.requires c.in_default.is in
    ready_read c.feed_lines.new.self c.feed_lines.new.context (h.0 ++ c.args.piece.now) (c.in-Ok.ensures.read h.0 h.1)

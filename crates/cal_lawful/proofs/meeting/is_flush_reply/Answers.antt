use Rattle.cal_lawful.proofs.WalkLemmas.{busy-is}
use Rattle.cal_lawful.proofs.meeting.is_flush_reply.Goals as goal

pub returns-then-holder-thread : goal.returns-then-holder-thread
returns-then-holder-thread c =
    busy-is c.args.script.now c.args.journal.now c.args.merged.now.marks.items c.requires
    c.args.thread c.in-Busy.holder c.in-Flush.channel c.args.line c.args.reply _ c.in-Flush.is
    c.in-Busy.is c.if-holder-thread.true c.has.ensures

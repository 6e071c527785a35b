use Rattle.std.proofs.Common.{sym, ◌∙◌}
use Rattle.cal_write.proofs.RecordLemmas.{globals-written}
use Rattle.cal_write.proofs.writer.Writer.write_globals.Goals as goal

pub returns-clause-text : goal.returns-clause-text
returns-clause-text c =
    globals-written c.args.context.now c.has_each_once.ensures c.args.self.now c.write.new.self c.args.globals.now c.requires
    (sym c.has_no_entry.ensures ∙ c.if-has_no_entry.false) c.in_ok-write.ensures.written

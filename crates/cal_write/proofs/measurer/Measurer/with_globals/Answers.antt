use Rattle.std.proofs.Common.{sym, ◌∙◌}
use Rattle.cal_write.proofs.MeasureLemmas.{globals-measured}
use Rattle.cal_write.proofs.measurer.Measurer.with_globals.Goals as goal

pub returns : goal.returns
returns c =
    globals-measured c.args.context.now c.has_each_once.ensures c.args.self.now c.count.new.self
    c.args.globals.now c.requires (sym c.has_no_entry.ensures ∙ c.if-has_no_entry.false)
    c.in_ok-count.ensures.counted c.in_ok-count.ensures.rows

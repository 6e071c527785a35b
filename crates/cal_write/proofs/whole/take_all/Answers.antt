use Rattle.std.proofs.Common.{map, subst}
use Rattle.cal_write.specs.Interning.{without_empty}
use Rattle.cal_write.specs.Writer.{HasTaken}
use Rattle.cal_write.specs.WriterGrows.{HasTaken-stays}
use Rattle.cal_write.proofs.whole.take_all.Goals as goal

pub returns-clause-rows : goal.returns-clause-rows
returns-clause-rows c =
    HasTaken-stays c.take_rows.new.writer c.take_rows.new.context c.intern_record.new.context (map without_empty c.args.records.now.rows)
    (subst (λ rows. HasTaken c.take_rows.new.writer c.take_rows.new.context (map without_empty rows)) c.as_slice.ensures c.in_ok-take_rows.ensures)
    c.in_ok-intern_record.ensures.grows

use Rattle.std.proofs.Common.{List, map, subst}
use Rattle.std.proofs.lemmas.List.{take_all}
use Rattle.cal_value.specs.declared.record.Rec.{Rec}
use Rattle.cal_write.specs.Interning.{without_empty}
use Rattle.cal_write.specs.Writer.{HasTaken}
use Rattle.cal_write.proofs.WholeLemmas.{rows-more}
use Rattle.cal_write.proofs.whole.take_rows.Goals as goal

pub take-requires : goal.take-requires
take-requires c = c.in_ok-intern_record.ensures.means.within

pub loop-rec-preserved : goal.loop-rec-preserved
loop-rec-preserved c =
    rows-more c.loop-rec.context c.intern_record.new.context c.loop-rec.writer c.take.new.self c.args.rows.now c.loop-rec.rec-index c.rec-item.result c.intern_record.new.snapshot
    c.loop-rec-test.true c.rec-item.is c.loop-rec.invariant c.in_ok-intern_record.ensures.grows c.in_ok-intern_record.ensures.means c.in_ok-take.ensures.taken

pub returns : goal.returns
returns c =
    subst (λ (l : List Rec). HasTaken c.loop-rec.writer c.loop-rec.context (map without_empty l))
    (take_all c.loop-rec.rec-index c.args.rows.now c.loop-rec-test.false) c.loop-rec.invariant

use Rattle.cal_jsonfmt.proofs.KeyLemmas.{headers-more}
use Rattle.cal_jsonfmt.proofs.keys.headers.Goals as goal

pub loop-column-preserved : goal.loop-column-preserved
loop-column-preserved c =
    headers-more c.args.columns.now c.loop-column.names c.insert.new.self
    c.loop-column.column-index c.column-item.result c.in_ok-copy.field-0 c.loop-column-test.true
    c.column-item.is c.in_ok-copy.ensures c.in_ok-insert.ensures.updates c.loop-column.invariant

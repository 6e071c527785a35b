use Rattle.cal_ql.specs.Tokens.{quoted_len}
use Rattle.cal_ql.proofs.Scans.{counted-zero, quoted_stop, quoted_taken, quoted_plain}
use Rattle.cal_ql.proofs.scan.quoted_len.Goals as goal
use Rattle.cal_ql.proofs.scan.quoted_len.Goals.{then-behind-len-eq92, else-behind-len-eq92}

pub loop-len-init : goal.loop-len-init
loop-len-init c = counted-zero (quoted_len c.args.behind.now)

pub returns-then-behind-len-eq34 : goal.returns-then-behind-len-eq34
returns-then-behind-len-eq34 c =
    quoted_stop c.args.behind.now c.loop-len.len _ c.loop-len-test.true c.if-behind-len-eq34.true c.loop-len.invariant

pub loop-len-preserved : goal.loop-len-preserved
loop-len-preserved c =
    elim c.if-behind-len-eq92.branch [
      | then-behind-len-eq92 w ↦
          rw w.len-is (quoted_taken c.args.behind.now c.loop-len.len _ c.loop-len-test.true w.if-behind-len-eq92.true c.loop-len.invariant)
      | else-behind-len-eq92 w ↦
          rw w.len-is (quoted_plain c.args.behind.now c.loop-len.len _ c.loop-len-test.true c.if-behind-len-eq34.false w.if-behind-len-eq92.false c.loop-len.invariant)
    ]

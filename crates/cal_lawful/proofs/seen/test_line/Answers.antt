use Rattle.std.proofs.Common.{refl, ap, arith, length}
use Rattle.std.proofs.lemmas.Bool.{le-leb, leb-true}
use Rattle.cal_lawful.proofs.TellLemmas.{seen-line}
use Rattle.cal_lawful.specs.Checking.{noted}
use Rattle.cal_run.specs.Lawful.{NotedLine}
use Rattle.cal_lawful.proofs.seen.test_line.Goals as goal

pub returns-clause-told : goal.returns-clause-told
returns-clause-told c = λ front state told.
    let n : NotedLine = noted c.args.spot c.args.line c.args.note state in
    let long = ap length c.as_slice.ensures in
    seen-line c.args.script.now c.args.journal.now c.args.tests.now _ front n _ _ _ refl
    c.first_of-tests.ensures (leb-true _ _, le-leb _ _)
    c.first_of-tests-2.ensures (
      (λ h. let below = leb-true _ _ h in omega (arith, below, long)),
      (λ h. le-leb _ _ (omega (arith, h, long))),
    )
    c.first_of-tests-3.ensures (c.is_seen_own.ensures state)
    (c.mark.ensures front n refl refl refl told.merged) told

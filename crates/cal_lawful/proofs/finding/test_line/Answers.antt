use Rattle.std.proofs.Common.{refl}
use Rattle.cal_lawful.proofs.TellLemmas.{found-line}
use Rattle.cal_lawful.proofs.WalkLemmas.{answers-found, reads-found}
use Rattle.cal_lawful.specs.Checking.{noted}
use Rattle.cal_run.specs.Lawful.{NotedLine}
use Rattle.cal_lawful.proofs.finding.test_line.Goals as goal

pub returns-clause-told : goal.returns-clause-told
returns-clause-told c = λ front state is told.
    let script = c.args.script.now in
    let journal = c.args.journal.now in
    let found = c.args.found in
    let n : NotedLine = noted c.args.spot c.args.line c.args.note state in
    found-line script journal c.args.tests.now _ front n c.is_fixed-fixed.result
    c.is_read-read.result c.is_answered-answered.result refl
    c.first_of-tests.ensures (c.is_fixed-fixed.ensures state is)
    c.first_of-tests-2.ensures
    (reads-found script journal n found c.is_read-read.result is (c.is_read-read.ensures script))
    c.first_of-tests-3.ensures
    (answers-found script journal n found c.is_answered-answered.result is
    (c.is_answered-answered.ensures state)) told

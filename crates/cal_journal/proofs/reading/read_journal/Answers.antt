use Rattle.std.proofs.Common.{rules, sym, ◌∙◌}
use Rattle.cal_journal.proofs.JournalRuns.{run_on, fault_told, said_journal, cut_journal}
use Rattle.cal_journal.proofs.reading.read_journal.Goals as goal

pub returns-in-Err-clause-fault : goal.returns-in-Err-clause-fault
returns-in-Err-clause-fault c =
    rw c.end_at.ensures
    (fault_told c.args.before c.args.bytes.now c.loop-rest.pending c.loop-rest.rest.now c.loop-rest.invariant
    c.next_line.result.0.now c.next_line.result.1.now c.take_line.new.self c.in-Err.fault c.next_line.ensures.lines c.in-Err.ensures.counted c.in-Err.ensures.said)

pub loop-rest-preserved : goal.loop-rest-preserved
loop-rest-preserved c =
    run_on c.args.before c.args.bytes.now c.loop-rest.pending c.loop-rest.rest.now c.loop-rest.invariant
    c.next_line.result.0.now c.next_line.result.1.now c.take_line.new.self c.next_line.ensures.lines c.next_line.ensures.shorter c.in-Ok.ensures.counted c.in-Ok.ensures.said

pub returns-in-Some-clause-said : goal.returns-in-Some-clause-said
returns-in-Some-clause-said c =
    said_journal c.args.before c.args.bytes.now c.loop-rest.pending c.loop-rest.rest.now c.loop-rest.invariant c.in-Some.text (search rules)
    (sym c.in-Some.is ∙ c.in_ok-text.ensures)

pub returns-in-None-clause-fault : goal.returns-in-None-clause-fault
returns-in-None-clause-fault c =
    cut_journal c.args.before c.args.bytes.now c.loop-rest.pending c.loop-rest.rest.now c.loop-rest.invariant (search rules)
    (sym c.in-None.is ∙ c.in_ok-text.ensures) (search rules)

use Rattle.std.proofs.Common.{Bool, ◌+◌, if◌then◌else◌, sym, subst}
use Rattle.cal_process.specs.Operations.{history_of}
use Rattle.cal_run.specs.Steps.{changed}
use Rattle.cal_thread.proofs.ThreadLemmas.{line-done}
use Rattle.cal_thread.specs.Threads.{IsThread}
use Rattle.cal_replay.proofs.own_line.change_if.Goals as goal

pub returns-in_ok-change-clause-changed : goal.returns-in_ok-change-clause-changed
returns-in_ok-change-clause-changed c done h state note is at w =
    let common = c.args.common.now in
    subst (λ (b : Bool). IsThread common c.change.new.self (done + 1) h
    (if b then changed common.script.now (history_of h) c.args.line note state else state))
    (sym c.if-accepted.true) (c.in_ok-change.ensures.changed done h state note is at w)

pub returns-else-accepted-clause-changed :
    goal.returns-else-accepted-clause-changed
returns-else-accepted-clause-changed c done h state note is at w =
    let common = c.args.common.now in
    subst (λ (b : Bool). IsThread common c.args.thread.now (done + 1) h
    (if b then changed common.script.now (history_of h) c.args.line note state else state))
    (sym c.if-accepted.false) (line-done common c.args.thread.now done h state w)

use Rattle.std.proofs.Common.{refl, subst}
use Rattle.std.specs.Prelude.{Option}
use Rattle.cal_channel.specs.Closing.{HasRead}
use Rattle.cal_process.specs.Operations.{history_of}
use Rattle.cal_replay.proofs.ShowingLemmas.{state-reads}
use Rattle.cal_run.specs.History.{process_board}
use Rattle.cal_run.specs.declared.operation.Operation.{Operation}
use Rattle.cal_replay.proofs.showing.read_closed.Goals as goal

pub closed-requires-clause-seat : goal.closed-requires-clause-seat
closed-requires-clause-seat c = c.requires.thread.has.taken.at_tree

pub closed-requires-clause-board : goal.closed-requires-clause-board
closed-requires-clause-board c =
    let t = c.requires.thread in (t.state.board, t.has.mine.stands)

pub closed-requires-clause-process : goal.closed-requires-clause-process
closed-requires-clause-process c =
    let t = c.requires.thread in (
      process_board c.args.common.now.script.now (history_of t.h) c.args.thread.now.process.seen,
      t.has.taken.held.stands,
    )

pub returns-clause-read : goal.returns-clause-read
returns-clause-read c = subst (λ (op : Option Operation). HasRead c.args.common.now.tree
    c.closed.new.seat c.args.common.now.script.now c.in_ok-closed.closed c.args.thread.now.board
    c.args.thread.now.process.board op) c.operation_of.ensures c.in_ok-closed.ensures.read

pub returns-clause-reads : goal.returns-clause-reads
returns-clause-reads c = record { same = refl; learns = c.in_ok-closed.ensures.learns }

pub returns-clause-state : goal.returns-clause-state
returns-clause-state c h state has = state-reads c.args.common.now c.args.thread.now _ h state
    (record { same = refl; learns = c.in_ok-closed.ensures.learns })
    c.in_ok-closed.ensures.seat has

use Rattle.std.proofs.Common.{◌≡◌, ◌+◌, ◌<◌, true, length, subst, sym, arith}
use Rattle.std.specs.Prelude.{Option}
use Rattle.cal_run.proofs.HeldLemmas.{process_board-more}
use Rattle.cal_run.proofs.PathLemmas.{placed-places}
use Rattle.cal_run.proofs.WalkingLemmas.{held_to-more}
use Rattle.cal_run.specs.Adding.{MayHavePlaces}
use Rattle.cal_run.specs.Held.{Holds}
use Rattle.cal_run.specs.History.{board_placed, process_board}
use Rattle.cal_run.specs.Holding.{AreHeld, HoldsPaths}
use Rattle.cal_run.specs.Paths.{held_behind}
use Rattle.cal_run.specs.declared.operation.Operation.{Operation}
use Rattle.cal_run.proofs.walking.place_next.Goals as goal

pub hold_behind-requires-clause-places : goal.hold_behind-requires-clause-places
hold_behind-requires-clause-places c =
    let script = c.args.script.now in
    subst (MayHavePlaces script) (sym c.placed_operation-op.ensures)
    (placed-places script c.requires.runnable c.placed_at.result)

pub returns-clause-process : goal.returns-clause-process
returns-clause-process c =
    let script = c.args.script.now in
    let history = c.args.history.now in
    let count = c.args.process.now.count in
    let on : c.args.shared ≡ true = cc in
    let below : count < length history = c.requires.room on in
    let p = c.placed_at.result in
    let now = c.hold_behind.new.context in
    let board = c.hold_behind.new.board in
    let was = process_board script history count in
    record {
      holds = process_board-more now script history count p board (c.placed_at.ensures p) below
          (subst (λ (op : Option Operation). Holds now script board (board_placed script was op))
          c.placed_operation-op.ensures
          (c.in_ok-hold_behind.ensures.changed was c.requires.process.holds));
      within = omega (arith, below);
    }

pub returns-clause-held : goal.returns-clause-held
returns-clause-held c =
    let script = c.args.script.now in
    let history = c.args.history.now in
    let count = c.args.process.now.count in
    let on : c.args.shared ≡ true = cc in
    let below : count < length history = c.requires.room on in
    let p = c.placed_at.result in
    let now = c.hold_behind.new.context in
    let was = process_board script history count in
    let nodes = c.hold_behind.new.held.nodes in
    let adds = subst (λ (op : Option Operation). HoldsPaths c.args.context.now now
    c.args.placed.now.nodes nodes (held_behind script was op)) c.placed_operation-op.ensures
    (c.in_ok-hold_behind.ensures.held was c.requires.process.holds) in
    subst (AreHeld now nodes)
    (sym (held_to-more script history count p (c.placed_at.ensures p) below))
    (adds _ c.requires.held)

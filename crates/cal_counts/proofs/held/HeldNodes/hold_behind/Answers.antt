use Rattle.std.proofs.Common.{subst, sym}
use Rattle.std.specs.Prelude.{Option}
use Rattle.std.proofs.lemmas.Result.{on_ok_weaker}
use Rattle.cal_run.specs.History.{board_with}
use Rattle.cal_run.specs.Holding.{HoldsPaths}
use Rattle.cal_run.specs.Paths.{held_behind, paths_of}
use Rattle.cal_run.specs.declared.operation.Operation.{Operation}
use Rattle.cal_run.proofs.NumberLemmas.{AreNumbered-Grows}
use Rattle.cal_run.proofs.PathLemmas.{holds-grown}
use Rattle.cal_counts.proofs.held.HeldNodes.hold_behind.Goals as goal

pub add_board-requires-clause-numbered : goal.add_board-requires-clause-numbered
add_board-requires-clause-numbered c =
    AreNumbered-Grows c.operate.ensures.grows c.args.script.now c.args.numbers.now
    c.requires.numbered

pub returns-in_ok-operate-in-Some-clause-held : goal.returns-in_ok-operate-in-Some-clause-held
returns-in_ok-operate-in-Some-clause-held c =
    let script = c.args.script.now in
    let was = c.args.context.now in
    let now = c.operate.new.context in
    let old = c.args.self.now.nodes in
    let new = c.add_board.new.self.nodes in
    on_ok_weaker c.add_board.result (λ adds b holds.
    let after = board_with script b c.in-Some.op in
    subst (λ (op : Option Operation). HoldsPaths was now old new (held_behind script b op))
    (sym c.in-Some.is)
    (holds-grown c.operate.ensures.grows now old new (paths_of script after)
    (adds after (c.in_ok-operate-in-Some.ensures.changed b holds))))
    c.add_board.ensures

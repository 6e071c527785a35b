use Rattle.std.proofs.Common.{map, subst, sym}
use Rattle.std.proofs.lemmas.List.{get_or_default}
use Rattle.cal_context.proofs.CallerLemmas.{Grows-refl, Grows-trans}
use Rattle.cal_run.proofs.NumberLemmas.{AreNumbered-Grows}
use Rattle.cal_run.proofs.PathLemmas.{placed-places}
use Rattle.cal_run.specs.Adding.{MayHavePlaces}
use Rattle.cal_run.specs.History.{placed_operation}
use Rattle.cal_run.specs.Paths.{held_by_process}
use Rattle.cal_counts.proofs.HoldingLemmas.{held-end, held-more, held-start}
use Rattle.cal_counts.proofs.walking.hold_history.Goals as goal

pub loop-placed-init : goal.loop-placed-init
loop-placed-init c =
    let t = c.args.context.now in
    let script = c.args.script.now in
    record {
      numbered = c.requires.numbered;
      grows = Grows-refl t;
      so_far = held-start script t c.args.held.now.nodes c.new-board.result
          (map (placed_operation script) c.args.history.now) c.new-board.ensures;
    }

pub hold_behind-requires-clause-places : goal.hold_behind-requires-clause-places
hold_behind-requires-clause-places c =
    let script = c.args.script.now in
    subst (MayHavePlaces script) (sym c.placed_operation-op.ensures)
    (placed-places script c.requires.runnable _)

pub hold_behind-requires-clause-holds : goal.hold_behind-requires-clause-holds
hold_behind-requires-clause-holds c =
    (c.loop-placed.invariant.so_far.b, c.loop-placed.invariant.so_far.holds)

pub returns-in_err-hold_behind-clause-grows : goal.returns-in_err-hold_behind-clause-grows
returns-in_err-hold_behind-clause-grows c =
    Grows-trans _ _ _ c.loop-placed.invariant.grows c.hold_behind.ensures.grows

pub loop-placed-preserved : goal.loop-placed-preserved
loop-placed-preserved c =
    let script = c.args.script.now in
    let old = c.loop-placed.invariant in
    let history = c.args.history.now in
    let i = c.loop-placed.placed-index in
    let below = c.loop-placed-test.true in
    let grows = c.hold_behind.ensures.grows in
    let step = c.in_ok-hold_behind.ensures in
    record {
      numbered = AreNumbered-Grows grows script c.args.numbers.now old.numbered;
      grows = Grows-trans _ _ _ old.grows grows;
      so_far = held-more script (placed_operation script) history i _
          c.placed_operation-op.result
          c.args.context.now c.loop-placed.context c.hold_behind.new.context
          c.args.held.now.nodes c.loop-placed.held.nodes c.hold_behind.new.self.nodes
          c.loop-placed.board c.hold_behind.new.board (held_by_process script history)
          (get_or_default history i _ _ below) below c.placed_operation-op.ensures
          step.changed step.held old.so_far;
    }

pub returns-clause-held : goal.returns-clause-held
returns-clause-held c =
    let script = c.args.script.now in
    held-end script (placed_operation script) c.args.history.now c.loop-placed.placed-index
    c.args.context.now c.loop-placed.context c.args.held.now.nodes c.loop-placed.held.nodes
    c.loop-placed.board (held_by_process script c.args.history.now) c.loop-placed-test.false
    c.loop-placed.invariant.so_far

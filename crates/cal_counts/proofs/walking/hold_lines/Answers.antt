use Rattle.std.proofs.Common.{map, subst, sym}
use Rattle.std.proofs.lemmas.List.{get_or_default}
use Rattle.cal_context.proofs.CallerLemmas.{Grows-refl, Grows-trans}
use Rattle.cal_run.proofs.NumberLemmas.{AreNumbered-Grows}
use Rattle.cal_run.proofs.PathLemmas.{own-places}
use Rattle.cal_run.specs.Adding.{MayHavePlaces}
use Rattle.cal_run.specs.Paths.{held_by_thread, own_operation}
use Rattle.cal_counts.proofs.HoldingLemmas.{held-end, held-more, held-start}
use Rattle.cal_counts.proofs.walking.hold_lines.Goals as goal

pub loop-line-init : goal.loop-line-init
loop-line-init c =
    let t = c.args.context.now in
    let script = c.args.script.now in
    record {
      numbered = c.requires.numbered;
      grows = Grows-refl t;
      so_far = held-start script t c.args.held.now.nodes c.new-board.result
          (map (own_operation script) c.args.lines.now) c.new-board.ensures;
    }

pub hold_behind-requires-clause-places : goal.hold_behind-requires-clause-places
hold_behind-requires-clause-places c =
    let script = c.args.script.now in
    subst (MayHavePlaces script) (sym c.own_operation-op.ensures)
    (own-places script _ (c.requires.placed c.loop-line.line-index _ c.loop-line-test.true))

pub hold_behind-requires-clause-holds : goal.hold_behind-requires-clause-holds
hold_behind-requires-clause-holds c =
    (c.loop-line.invariant.so_far.b, c.loop-line.invariant.so_far.holds)

pub returns-in_err-hold_behind-clause-grows : goal.returns-in_err-hold_behind-clause-grows
returns-in_err-hold_behind-clause-grows c =
    Grows-trans _ _ _ c.loop-line.invariant.grows c.hold_behind.ensures.grows

pub loop-line-preserved : goal.loop-line-preserved
loop-line-preserved c =
    let script = c.args.script.now in
    let old = c.loop-line.invariant in
    let lines = c.args.lines.now in
    let i = c.loop-line.line-index in
    let below = c.loop-line-test.true in
    let grows = c.hold_behind.ensures.grows in
    let step = c.in_ok-hold_behind.ensures in
    record {
      numbered = AreNumbered-Grows grows script c.args.numbers.now old.numbered;
      grows = Grows-trans _ _ _ old.grows grows;
      so_far = held-more script (own_operation script) lines i _ c.own_operation-op.result
          c.args.context.now c.loop-line.context c.hold_behind.new.context
          c.args.held.now.nodes c.loop-line.held.nodes c.hold_behind.new.self.nodes
          c.loop-line.board c.hold_behind.new.board (held_by_thread script lines)
          (get_or_default lines i _ _ below) below c.own_operation-op.ensures
          step.changed step.held old.so_far;
    }

pub returns-clause-held : goal.returns-clause-held
returns-clause-held c =
    let script = c.args.script.now in
    held-end script (own_operation script) c.args.lines.now c.loop-line.line-index
    c.args.context.now c.loop-line.context c.args.held.now.nodes c.loop-line.held.nodes
    c.loop-line.board (held_by_thread script c.args.lines.now) c.loop-line-test.false
    c.loop-line.invariant.so_far

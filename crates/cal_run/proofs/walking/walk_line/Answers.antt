use Rattle.std.proofs.Common.{◌≡◌, ℕ, ◌+◌, List, ap, subst, sym, ◌∙◌}
use Rattle.std.specs.Prelude.{Option}
use Rattle.cal_context.proofs.CallerLemmas.{Grows-trans}
use Rattle.cal_run.proofs.HeldLemmas.{Holds-Grows}
use Rattle.cal_run.proofs.NumberLemmas.{AreNumbered-Grows}
use Rattle.cal_run.proofs.PathLemmas.{AreHeld-Grows, holds-grown, own-board, own-places}
use Rattle.cal_run.proofs.PlainLemmas.{found, on_ok-always}
use Rattle.cal_run.proofs.WalkingLemmas.{IsProcess-Grows, on_ok-both, takers-is, walked-found}
use Rattle.cal_run.specs.Adding.{MayHavePlaces}
use Rattle.cal_run.specs.Held.{Holds, IsProcess}
use Rattle.cal_run.specs.History.{board_placed}
use Rattle.cal_run.specs.Holding.{HoldsPaths}
use Rattle.cal_run.specs.Paths.{held_behind}
use Rattle.cal_run.specs.Plain.{note_of, plain_history}
use Rattle.cal_run.specs.Steps.{ThreadState, is_accepted}
use Rattle.cal_run.specs.Walking.{every, has_trace}
use Rattle.cal_run.specs.declared.operation.Operation.{Operation}
use Rattle.cal_script.specs.declared.journal.Placed.{Placed}
use Rattle.cal_run.proofs.walking.walk_line.Goals as goal

pub hold_behind-requires-clause-numbered : goal.hold_behind-requires-clause-numbered
hold_behind-requires-clause-numbered c =
    AreNumbered-Grows c.place_next.ensures.grows c.args.script.now c.args.numbers.now
    c.requires.numbered

pub hold_behind-requires-clause-places : goal.hold_behind-requires-clause-places
hold_behind-requires-clause-places c =
    let script = c.args.script.now in
    subst (MayHavePlaces script) (sym c.own_operation-op.ensures)
    (own-places script c.args.line c.requires.placed)

pub hold_behind-requires-clause-holds : goal.hold_behind-requires-clause-holds
hold_behind-requires-clause-holds c =
    let some = c.requires.board in (
      some.0,
      Holds-Grows c.place_next.ensures.grows c.args.script.now c.args.board.now some.0
          some.1,
    )

pub returns-clause-walked : goal.returns-clause-walked
returns-clause-walked c =
    let script = c.args.script.now in
    let l = c.args.line in
    let was = c.args.walk.now in
    let before = was.process.count in
    let t0 = c.args.context.now in
    let t2 = c.hold_behind.new.context in
    let some = was.own.nodes in
    let more = c.hold_behind.new.held.nodes in
    let accepted = c.is_accepted-accepted.result in
    let sees : IsProcess t0 script (plain_history script) was.process =
    subst (λ (h : List Placed). IsProcess t0 script h was.process) c.requires.history
    c.requires.process in
    on_ok-both c.hold_behind.result c.hold_behind.ensures.changed c.hold_behind.ensures.held
    (λ changed held (state : ThreadState) (seen : ℕ)
    (holds : Holds t0 script c.args.board.now state.board).
    let told = c.reply_behind-reply.ensures
    ∙ walked-found t0 script l c.is_process_line-shared.result c.args.board.now was.process state
    c.is_process_line-shared.ensures holds sees in
    let accepts : accepted ≡ is_accepted (found script before state l) =
    c.is_accepted-accepted.ensures ∙ ap is_accepted told in
    let note = note_of script before seen state l in
    let grown = Holds-Grows c.place_next.ensures.grows script c.args.board.now state.board holds in
    record {
      kept = subst (Holds t2 script c.hold_behind.new.board)
          (ap (λ (op : Option Operation). board_placed script state.board op)
          c.own_operation-op.ensures
          ∙ sym (own-board script (plain_history script) l note state))
          (changed state.board grown);
      own = subst (λ (op : Option Operation). HoldsPaths t0 t2 some more
          (held_behind script state.board op)) c.own_operation-op.ensures
          (holds-grown c.place_next.ensures.grows t2 some more _ (held state.board grown));
      in_all = ap (λ (n : ℕ). was.in_all + n)
          (c.takers.ensures.count ∙ takers-is script every before seen state l accepted accepts);
      traced = ap (λ (n : ℕ). was.traced + n)
          (c.tracers.ensures.count
          ∙ takers-is script has_trace before seen state l accepted accepts);
    })

pub returns-clause-process : goal.returns-clause-process
returns-clause-process c =
    on_ok-always c.hold_behind.result (IsProcess-Grows c.hold_behind.ensures.grows
    c.args.script.now c.args.history.now _ c.in_ok-place_next.ensures.process)

pub returns-clause-held : goal.returns-clause-held
returns-clause-held c =
    on_ok-always c.hold_behind.result (AreHeld-Grows c.hold_behind.ensures.grows _ _
    c.in_ok-place_next.ensures.held)

pub returns-clause-grows : goal.returns-clause-grows
returns-clause-grows c = Grows-trans _ _ _ c.place_next.ensures.grows c.hold_behind.ensures.grows

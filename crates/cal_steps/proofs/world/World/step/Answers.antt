use Rattle.std.proofs.Common.{◌≡◌, ap, subst, sym, ◌∙◌}
use Rattle.std.specs.Prelude.{Some}
use Rattle.std.proofs.lemmas.Result.{on_ok_weaker}
use Rattle.cal_events.specs.Effects.{world_if}
use Rattle.cal_steps.proofs.NodeReadyLemmas.{may-make}
use Rattle.cal_steps.proofs.ReadyLemmas.{behind-next, behind-world, ready}
use Rattle.cal_steps.proofs.world.World.step.Goals as goal
use Rattle.cal_steps.specs.Behind.{IsReady, MayMakeNode}
use Rattle.cal_world.specs.Progress.{reached_by, thread_of, turn_behind}
use Rattle.cal_world.specs.declared.turn.Turn.{Turn}

pub act-requires-clause-ready : goal.act-requires-clause-ready
act-requires-clause-ready c =
    let script = c.args.script.now in
    let journal = c.args.journal.now in
    let w = c.args.self.now in
    let e = c.args.event.now in
    let thread = c.thread_of-thread.ensures in
    let found : Some c.in-Some.turn ≡ Some c.requires.next.turn = c.in-Some.ensures
    ∙ ap (turn_behind script journal c.thread_of-thread.result) c.lines_done-done.ensures
    ∙ (λ j. turn_behind script journal (thread j) (reached_by w.progress (thread j)).lines)
    ∙ c.requires.next.line in
    let same : c.in-Some.turn ≡ c.requires.next.turn = cc in
    subst (λ (x : Turn). IsReady script w x (thread_of e)) (sym same)
    (ready script journal c.requires.runnable c.requires.lawful w
    (behind-world script journal c.requires.lawful w c.requires.behind) e c.requires.next
    c.has_few_operations.ensures)

pub act-requires-clause-node : goal.act-requires-clause-node
act-requires-clause-node c =
    let script = c.args.script.now in
    let journal = c.args.journal.now in
    let w = c.args.self.now in
    let e = c.args.event.now in
    let thread = c.thread_of-thread.ensures in
    let found : Some c.in-Some.turn ≡ Some c.requires.next.turn = c.in-Some.ensures
    ∙ ap (turn_behind script journal c.thread_of-thread.result) c.lines_done-done.ensures
    ∙ (λ j. turn_behind script journal (thread j) (reached_by w.progress (thread j)).lines)
    ∙ c.requires.next.line in
    let same : c.in-Some.turn ≡ c.requires.next.turn = cc in
    subst (λ (x : Turn). MayMakeNode script journal w x e) (sym same)
    (may-make script journal c.requires.lawful w
    (behind-world script journal c.requires.lawful w c.requires.behind) e c.requires.next)

pub returns-in-Some-clause-behind : goal.returns-in-Some-clause-behind
returns-in-Some-clause-behind c =
    let script = c.args.script.now in
    let journal = c.args.journal.now in
    let w = c.args.self.now in
    let e = c.args.event.now in
    let thread = c.thread_of-thread.ensures in
    let found = c.in-Some.ensures
    ∙ ap (turn_behind script journal c.thread_of-thread.result) c.lines_done-done.ensures
    ∙ (λ j. turn_behind script journal (thread j) (reached_by w.progress (thread j)).lines) in
    on_ok_weaker c.act.result (λ is. behind-next script journal c.requires.lawful w
    c.act.new.self e c.requires.behind c.requires.next
    (is ∙ ap (world_if script journal w e) found)) c.act.ensures.ok

use Rattle.std.proofs.Common.{ap, subst, sym, ◌∙◌}
use Rattle.std.proofs.lemmas.Result.{on_err_weaker, on_ok_weaker}
use Rattle.cal_events.specs.Effects.{world_by}
use Rattle.cal_steps.proofs.FlushLemmas.{same-but}
use Rattle.cal_steps.proofs.world.World.act.Goals as goal
use Rattle.cal_steps.specs.Behind.{IsSameBut}
use Rattle.cal_world.specs.Progress.{thread_of}
use Rattle.cal_world.specs.declared.event.Event as events

pub returns-in-Node-clause-ok : goal.returns-in-Node-clause-ok
returns-in-Node-clause-ok c =
    on_ok_weaker c.node.result (λ is. is
    ∙ ap (world_by c.args.script.now c.args.journal.now c.args.self.now c.args.turn)
    (sym c.in-Node.is)) c.node.ensures.ok

pub returns-in-Node-clause-err : goal.returns-in-Node-clause-err
returns-in-Node-clause-err c =
    on_err_weaker c.node.result (λ is. subst (λ (e : events.Event).
    IsSameBut (thread_of e) c.args.self.now c.node.new.self) (sym c.in-Node.is)
    (same-but c.args.self.now c.in-Node.thread c.node.new.self is)) c.node.ensures.err

pub returns-in-Place-clause-ok : goal.returns-in-Place-clause-ok
returns-in-Place-clause-ok c =
    on_ok_weaker c.place.result (λ is. is c.args.script.now c.args.journal.now c.args.turn
    ∙ ap (world_by c.args.script.now c.args.journal.now c.args.self.now c.args.turn)
    (sym c.in-Place.is)) c.place.ensures.ok

pub returns-in-Place-clause-err : goal.returns-in-Place-clause-err
returns-in-Place-clause-err c =
    on_err_weaker c.place.result (λ is. subst (λ (e : events.Event).
    IsSameBut (thread_of e) c.args.self.now c.place.new.self) (sym c.in-Place.is)
    (same-but c.args.self.now c.in-Place.thread c.place.new.self is)) c.place.ensures.err

pub returns-in-Look-clause-ok : goal.returns-in-Look-clause-ok
returns-in-Look-clause-ok c =
    c.look.ensures c.args.script.now c.args.journal.now c.args.turn c.in-Look.line
    ∙ ap (world_by c.args.script.now c.args.journal.now c.args.self.now c.args.turn)
    (sym c.in-Look.is)

pub returns-in-Flush-clause-ok : goal.returns-in-Flush-clause-ok
returns-in-Flush-clause-ok c =
    on_ok_weaker c.flush.result (λ is. is c.args.journal.now c.in-Flush.line
    ∙ ap (world_by c.args.script.now c.args.journal.now c.args.self.now c.args.turn)
    (sym c.in-Flush.is)) c.flush.ensures.ok

pub returns-in-Flush-clause-err : goal.returns-in-Flush-clause-err
returns-in-Flush-clause-err c =
    on_err_weaker c.flush.result (λ is. subst (λ (e : events.Event).
    IsSameBut (thread_of e) c.args.self.now c.flush.new.self) (sym c.in-Flush.is) is)
    c.flush.ensures.err

pub returns-in-Own-clause-ok : goal.returns-in-Own-clause-ok
returns-in-Own-clause-ok c =
    on_ok_weaker c.own.result (λ is. is c.args.journal.now c.in-Own.line
    ∙ ap (world_by c.args.script.now c.args.journal.now c.args.self.now c.args.turn)
    (sym c.in-Own.is)) c.own.ensures.ok

pub returns-in-Own-clause-err : goal.returns-in-Own-clause-err
returns-in-Own-clause-err c =
    on_err_weaker c.own.result (λ is. subst (λ (e : events.Event).
    IsSameBut (thread_of e) c.args.self.now c.own.new.self) (sym c.in-Own.is) is)
    c.own.ensures.err

use Rattle.std.proofs.Common.{◌≡◌, true, All, reverse, rules, subst}
use Rattle.cal_crew.proofs.EachRun.{of-all}
use Rattle.cal_crew.specs.declared.shift.Shift.{Shift}
use Rattle.cal_keeping.specs.Runners.{IsHiredRunner}
use Rattle.cal_keeping.specs.declared.runner.Runner.{Runner}
use Rattle.cal_live.proofs.Ended.{have-ended}
use Rattle.cal_live.specs.Sending.{IsSendingFor, account_of}
use Rattle.cal_live.specs.declared.sending.SenderHand.{SenderHand}
use Rattle.cal_live.proofs.running.run_and_collect.Goals as goal

pub join-collector-requires-after_bounds : goal.join-collector-requires-after_bounds
join-collector-requires-after_bounds g c κs within =
    let shared = c.args.shared.now in
    let shapes = g.S.Shapes.shapes in
    let hired = of-all (λ (r : Runner g.row.P.Denot (SenderHand g.row.Q.Denot g.row.S.Denot)).
    IsHiredRunner account_of (IsSendingFor shapes) shared r)
    (λ (s : Shift g.row.P.Denot (SenderHand g.row.Q.Denot g.row.S.Denot) g.row.K.Denot). s.runner)
    c.in_ok-shifts.shifts.items c.args.runners.items c.in_ok-shifts.ensures.runners
    c.requires.hired in
    (c.requires.merged, (c.requires.shared, (hired, search rules)))

pub returns-clause-ran : goal.returns-clause-ran
returns-clause-ran g c =
    let shared = c.args.shared.now in
    let given = g.K.Clock.given in
    let vec = c.in_ok-shifts.shifts in
    let left = reverse c.pair.new.clocks.items in
    let new = c.join-collector.result.1 in
    let yes : c.have_all_run.result ≡ true = search rules in
    have-ended g.S.Shapes.shapes shared given vec.items new.items left
    c.args.clocks.now.items c.part.new.clocks.items c.join-collector.ensures.second.0
    c.join-collector.ensures.second.1
    (subst (λ ss. All (λ s. s.ran ≡ true) ss) c.as_slice.ensures.value (c.have_all_run.ensures yes))
    c.in_ok-shifts.ensures.clocks c.in_ok-done.ensures.clocks c.args.runners.items
    c.in_ok-done.done.items c.in_ok-shifts.ensures.runners c.in_ok-done.ensures.runners

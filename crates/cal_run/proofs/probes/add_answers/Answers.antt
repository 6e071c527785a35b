use Rattle.std.proofs.Common.{ℕ, List, map, subst, sym, ◌∙◌}
use Rattle.std.proofs.lemmas.Result.{on_ok_weaker}
use Rattle.cal_run.specs.Adding.{AddsEntries}
use Rattle.cal_run.specs.Snapshots.{CanBeAsked, numbered, probe_of, probe_value}
use Rattle.cal_run.proofs.ServiceLemmas.{depths-Stand, depths-asked}
use Rattle.cal_run.proofs.probes.add_answers.Goals as goal

pub push_probes-requires : goal.push_probes-requires
push_probes-requires g c =
    subst CanBeAsked (sym c.depths-count.ensures.depths)
    (depths-asked c.args.moment.now.board.now c.has_few_slots.ensures.within)

pub returns : goal.returns
returns g c =
    let held = c.args.moment.now.board.now in
    let is_node = g.V.NodeValues.is_node c.args.nodes.now in
    let values = c.args.script.now.values in
    let imms = g.S.ImmediateSink.imms in
    on_ok_weaker c.push_probes.result (λ added attributes named s shows.
    subst (λ (ds : List ℕ). AddsEntries attributes (imms c.args.out.now values)
    (imms c.push_probes.new.out values)
    (map (λ p. numbered (probe_of p) (probe_value p ds)) c.args.probes.now))
    (c.depths-count.ensures.depths ∙ depths-Stand is_node held s.mine shows.mine.stands)
    (added attributes named))
    c.push_probes.ensures

use Rattle.std.proofs.Common.{List, [], length, ap, subst, ◌∙◌}
use Rattle.std.specs.Prelude.{flat_map}
use Rattle.cal_context.proofs.CallerLemmas.{Grows-trans}
use Rattle.cal_context.specs.declared.numbers.NodeNumber.{NodeNumber}
use Rattle.cal_run.proofs.NumberLemmas.{AreNumbered-Grows}
use Rattle.cal_run.proofs.PathLemmas.{held-count, holds-both}
use Rattle.cal_run.specs.Holding.{HoldsPaths}
use Rattle.cal_run.specs.Paths.{held_by_process, held_by_thread, held_paths}
use Rattle.cal_script.specs.declared.journal.Placed.{Placed}
use Rattle.cal_counts.proofs.tree.count_nodes.Goals as goal

pub hold_history-requires-clause-numbered : goal.hold_history-requires-clause-numbered
hold_history-requires-clause-numbered c =
    AreNumbered-Grows c.hold_threads.ensures.grows c.args.script.now c.args.numbers.now
    c.requires.numbered

pub returns-in_err-hold_history-clause-grows : goal.returns-in_err-hold_history-clause-grows
returns-in_err-hold_history-clause-grows c =
    Grows-trans _ _ _ c.hold_threads.ensures.grows c.hold_history.ensures.grows

pub returns-clause-grows : goal.returns-clause-grows
returns-clause-grows c =
    Grows-trans _ _ _ c.hold_threads.ensures.grows c.hold_history.ensures.grows

pub returns-clause-counted : goal.returns-clause-counted
returns-clause-counted c =
    let script = c.args.script.now in
    let journal = c.args.journal.now in
    let was = c.args.context.now in
    let mid = c.hold_threads.new.context in
    let now = c.hold_history.new.context in
    let none = c.new-held.result.nodes in
    let some = c.hold_threads.new.held.nodes in
    let all = c.hold_history.new.held.nodes in
    let process = subst (λ (h : List Placed). HoldsPaths mid now some all
    (held_by_process script h)) c.as_slice-history.ensures c.in_ok-hold_history.ensures.held in
    let both = holds-both was mid now none some all
    (flat_map (held_by_thread script) script.threads) (held_by_process script journal.ops)
    c.in_ok-hold_threads.ensures.held process in
    let adds : HoldsPaths was now [] all (held_paths script journal) =
    subst (λ (ns : List NodeNumber). HoldsPaths was now ns all (held_paths script journal))
    c.new-held.ensures both in
    ap length c.as_slice-each.ensures.items
    ∙ held-count now c.has_each_once.ensures all c.as_slice-each.ensures.apart was
    (held_paths script journal) adds

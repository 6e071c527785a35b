use Rattle.std.proofs.Common.{◌≡◌, ℕ, ◌+◌, List, [], length, ap, subst, ◌∙◌, zero-add, arith}
use Rattle.std.specs.Prelude.{flat_map, zip}
use Rattle.std.proofs.lemmas.List.{take_all}
use Rattle.cal_context.specs.declared.numbers.NodeNumber.{NodeNumber}
use Rattle.cal_run.proofs.PathLemmas.{held-count, holds-both}
use Rattle.cal_run.proofs.WalkingLemmas.{held-instead, start-held, start-walk, taken-is}
use Rattle.cal_run.specs.Holding.{AreHeld, HoldsPaths}
use Rattle.cal_run.specs.Paths.{held_by_process, held_by_thread, held_paths}
use Rattle.cal_run.specs.Plain.{plain}
use Rattle.cal_run.specs.Walking.{every, has_trace, taken_by}
use Rattle.cal_script.specs.declared.journal.Placed.{Placed}
use Rattle.cal_run.proofs.plain_counts.count_plain.Goals as goal

pub walk_threads-requires-clause-history : goal.walk_threads-requires-clause-history
walk_threads-requires-clause-history c = c.as_slice-ops.ensures ∙ c.in_ok-history.ensures

pub walk_threads-requires-clause-process : goal.walk_threads-requires-clause-process
walk_threads-requires-clause-process c =
    start-walk c.args.context.now c.args.script.now c.as_slice-ops.result.now
    c.new-walk.result.process c.new-walk.ensures.board c.new-walk.ensures.count

pub walk_threads-requires-clause-held : goal.walk_threads-requires-clause-held
walk_threads-requires-clause-held c =
    start-held c.args.context.now c.args.script.now c.as_slice-ops.result.now
    c.new-walk.result.placed.nodes c.new-walk.result.process.count c.new-walk.ensures.placed
    c.new-walk.ensures.count

pub add_held-requires : goal.add_held-requires
add_held-requires c = c.in_ok-walk_threads.ensures.held.within

pub returns-clause-nodes : goal.returns-clause-nodes
returns-clause-nodes c =
    let script = c.args.script.now in
    let ops = c.as_slice-ops.result.now in
    let was = c.args.context.now in
    let now = c.walk_threads.new.context in
    let none = c.new-walk.result.own.nodes in
    let some = c.walk_threads.new.walk.own.nodes in
    let placed = c.walk_threads.new.walk.placed.nodes in
    let all = c.add_held.new.self.nodes in
    let process : AreHeld now placed (held_by_process script (plain script).ops) =
    subst (AreHeld now placed)
    (ap (λ (h : List Placed). held_by_process script h)
    (take_all (length ops) ops (omega arith) ∙ c.as_slice-ops.ensures ∙ c.in_ok-history.ensures))
    c.in_ok-walk_threads.ensures.held in
    let more = held-instead now some all placed (held_by_process script (plain script).ops) process
    c.in_ok-add_held.ensures in
    let both = holds-both was now now none some all
    (flat_map (held_by_thread script) script.threads) (held_by_process script (plain script).ops)
    c.in_ok-walk_threads.ensures.own more in
    let adds : HoldsPaths was now [] all (held_paths script (plain script)) =
    subst (λ (ns : List NodeNumber). HoldsPaths was now ns all (held_paths script (plain script)))
    c.new-walk.ensures.own both in
    ap length c.as_slice-held.ensures.items
    ∙ held-count now c.has_each_once.ensures all c.as_slice-held.ensures.apart was
    (held_paths script (plain script)) adds

pub returns-clause-in_all : goal.returns-clause-in_all
returns-clause-in_all c =
    let script = c.args.script.now in
    c.in_ok-walk_threads.ensures.in_all
    ∙ ap (λ (n : ℕ). n + taken_by script every (zip script.threads (plain script).threads))
    c.new-walk.ensures.in_all
    ∙ zero-add _
    ∙ taken-is script every

pub returns-clause-traced : goal.returns-clause-traced
returns-clause-traced c =
    let script = c.args.script.now in
    c.in_ok-walk_threads.ensures.traced
    ∙ ap (λ (n : ℕ). n + taken_by script has_trace (zip script.threads (plain script).threads))
    c.new-walk.ensures.traced
    ∙ zero-add _
    ∙ taken-is script has_trace

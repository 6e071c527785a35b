use Rattle.std.proofs.Common.{◌++◌, true, not, filter, drop, sym, ap, ◌∙◌, arith, ◌+◌}
use Rattle.std.proofs.lemmas.Grind.{common_steps}
use Rattle.cal_keys.specs.Groups.{has_entries, taken, takes}
use Rattle.cal_engine.proofs.Takings.{paths_then, paths_else, taken_next}
use Rattle.cal_engine.proofs.grouping.taken_paths.Goals as goal
use Rattle.cal_engine.proofs.grouping.taken_paths.Goals.{then-not-is_empty+in_ok-push, else-not-is_empty}

pub loop-name-preserved : goal.loop-name-preserved
loop-name-preserved c =
    let n = c.loop-name.name-index in
    let names = c.args.names.now in
    let left = c.loop-name.left.items in
    let took = c.in_ok-took.ensures.took in
    let rest = c.in_ok-took.ensures.rest in
    let next = taken_next true names n c.name-item.result left (omega arith) c.name-item.is in
    let before = ap (λ ts. c.loop-name.paths.items ++ filter has_entries ts) (sym next) ∙ c.loop-name.invariant in
    rw rest
    (elim c.if-not-is_empty.branch [
      | then-not-is_empty+in_ok-push w ↦
          paths_then c.loop-name.paths.items c.if-not-is_empty.paths.items (filter (takes true c.name-item.result) left)
          (taken true (drop (n + 1) names) (filter (λ e. not (takes true c.name-item.result e)) left))
          (filter has_entries (taken true names c.args.entries.items))
          (grind (arith, common_steps, w.paths-is, w.in_ok-push.ensures.items, w.from_vec.ensures, took))
          (grind (arith, common_steps, w.if-not-is_empty.true, c.is_empty.ensures, took))
          before
      | else-not-is_empty w ↦
          paths_else c.loop-name.paths.items c.if-not-is_empty.paths.items (filter (takes true c.name-item.result) left)
          (taken true (drop (n + 1) names) (filter (λ e. not (takes true c.name-item.result e)) left))
          (filter has_entries (taken true names c.args.entries.items))
          (ap (λ v. v.items) w.paths-is)
          (grind (arith, common_steps, w.if-not-is_empty.false, c.is_empty.ensures, took))
          before
    ])

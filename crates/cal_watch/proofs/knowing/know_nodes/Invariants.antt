use Rattle.std.proofs.Common.{◌≡◌, map, take}
use Rattle.cal_watch.specs.Asking.{Keeps, all_named, holds_on}
use Rattle.cal_watch.proofs.knowing.know_nodes.Given as goal

-- those before this one
abbrev pub invariant-loop-place : goal.invariant-loop-place
invariant-loop-place g l =
    let test = holds_on g.D.Decider.condition in
    l.named ≡ all_named g.D.Decider.condition l.context
    → Keeps test l.fn.holding.items l.context.paths
    → l.holding.items ≡ map test (take l.place l.context.paths)

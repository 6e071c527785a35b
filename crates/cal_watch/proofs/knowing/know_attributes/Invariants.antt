use Rattle.std.proofs.Common.{◌≡◌, map, take}
use Rattle.cal_watch.specs.Asking.{Keeps, has_name}
use Rattle.cal_watch.proofs.knowing.know_attributes.Given as goal

-- those before this one
abbrev pub invariant-loop-place : goal.invariant-loop-place
invariant-loop-place g l =
    let test = has_name g.D.Decider.condition in
    Keeps test l.fn.named.items l.context.attributes
    → l.named.items ≡ map test (take l.place l.context.attributes)

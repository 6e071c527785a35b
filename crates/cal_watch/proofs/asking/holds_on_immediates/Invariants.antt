use Rattle.std.proofs.Common.{◌≡◌, false, map, take}
use Rattle.cal_context.specs.Snapshots.{entry_of}
use Rattle.cal_watch.specs.Asking.{all_named, holds_on}
use Rattle.cal_watch.proofs.asking.holds_on_immediates.Given as goal

-- none of the immediates so far
abbrev pub invariant-loop-imm : goal.invariant-loop-imm
invariant-loop-imm g l =
    let condition = g.D.Decider.condition in
    l.named ≡ all_named condition l.context
    → holds_on condition (map (entry_of l.context) (take l.imm-index l.imms)) ≡ false

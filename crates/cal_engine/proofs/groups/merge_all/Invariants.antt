use Rattle.std.proofs.Common.{◌≡◌, ◌++◌, drop, take}
use Rattle.cal_parts.specs.Parts.{merged_parts}
use Rattle.cal_engine.proofs.groups.merge_all.Given as goal

-- those before this place are merged, and the others are as they were
abbrev pub invariant-loop-place : goal.invariant-loop-place
invariant-loop-place l = l.parts.items
    ≡ merged_parts l.fn.parts.items (take l.place l.fresh) ++ drop l.place l.fn.parts.items

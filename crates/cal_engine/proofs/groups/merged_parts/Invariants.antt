use Rattle.std.proofs.Common.{◌≡◌, ◌++◌, drop}
use Rattle.cal_parts.specs.Parts.{merged_parts}
use Rattle.cal_engine.proofs.groups.merged_parts.Given as goal

abbrev pub invariant-loop-place : goal.invariant-loop-place
invariant-loop-place l =
    l.merged.items ++ merged_parts (drop l.place l.parts) (drop l.place l.fresh)
    ≡ merged_parts l.parts l.fresh

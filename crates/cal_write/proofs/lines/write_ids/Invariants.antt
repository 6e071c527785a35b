use Rattle.std.proofs.Common.{◌≡◌, ◌++◌, take, map, decimal}
use Rattle.std.specs.Prelude.{codes}
use Rattle.std.specs.List.{flat_map}
use Rattle.cal_write.proofs.lines.write_ids.Given as goal

-- the start and the ids so far are written
abbrev pub invariant-loop-id : goal.invariant-loop-id
invariant-loop-id l = l.out ≡ l.fn.out ++ (l.start ++ flat_map (λ w. codes "=" ++ w) (map decimal (take l.id-index l.ids)))

use Rattle.std.proofs.Common.{◌≡◌, ◌++◌, take, map}
use Rattle.std.specs.Prelude.{codes}
use Rattle.std.specs.List.{flat_map}
use Rattle.cal_write.specs.Lines.{written_value}
use Rattle.cal_write.proofs.lines.write_values.Given as goal

-- the key and the values so far are written
abbrev pub invariant-loop-imm : goal.invariant-loop-imm
invariant-loop-imm l =
    l.out ≡ l.fn.out ++ (codes ",data"
    ++ flat_map (λ w. codes "=" ++ w) (map (λ i. written_value i.value) (take l.imm-index l.imms)))

use Rattle.std.proofs.Common.{◌≡◌, map, take}
use Rattle.cal_table.specs.Shapes.{is_among}
use Rattle.cal_table.proofs.shape.flags_of.Given as goal

-- the flags so far are those of the attributes so far
abbrev pub invariant-loop-attr : goal.invariant-loop-attr
invariant-loop-attr l =
    l.flags.items ≡ map (λ a. is_among l.names a.name) (take l.attr-index l.attrs)

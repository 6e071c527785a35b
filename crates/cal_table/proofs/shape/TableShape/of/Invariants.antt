use Rattle.std.proofs.Common.{◌≡◌, [], ◌∷◌, map, take}
use Rattle.cal_table.specs.Shapes.{flags_of}
use Rattle.cal_table.proofs.shape.TableShape.of.Given as goal

-- the flags so far are those of the names so far
abbrev pub invariant-loop-name : goal.invariant-loop-name
invariant-loop-name l =
    l.flags.items ≡ map (λ name. flags_of (name ∷ []) l.attrs) (take l.name-index l.values)

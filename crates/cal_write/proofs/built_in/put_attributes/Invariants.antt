use Rattle.std.proofs.Common.{◌≡◌, ◌∷◌, ◌++◌, [], take, map}
use Rattle.cal_write.specs.BuiltIn.{key_of_kind, key_of_built_in}
use Rattle.cal_write.specs.Nodes.{first_kinds}
use Rattle.cal_write.specs.declared.built_in.BuiltIn.TheVariants.{OfNames, OfKinds, OfProps}
use Rattle.cal_write.proofs.built_in.put_attributes.Given as goal

abbrev pub invariant-loop-attribute : goal.invariant-loop-attribute
invariant-loop-attribute l =
    l.nodes ≡ map key_of_kind first_kinds ++ map key_of_built_in (take l.attribute-index (OfNames ∷ OfKinds ∷ OfProps ∷ []))

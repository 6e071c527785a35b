use Rattle.std.proofs.Common.{◌≡◌, take, map}
use Rattle.cal_write.specs.BuiltIn.{key_of_kind}
use Rattle.cal_write.specs.Nodes.{first_kinds}
use Rattle.cal_write.proofs.built_in.put_first_kinds.Given as goal

abbrev pub invariant-loop-kind : goal.invariant-loop-kind
invariant-loop-kind l = l.nodes ≡ map key_of_kind (take l.kind-index first_kinds)

use Rattle.std.proofs.Common.{◌<◌, ℕ, List, length, take}
use Rattle.std.specs.List.{All}
use Rattle.cal_context.specs.Tree.{Tree}
use Rattle.cal_context.specs.declared.snapshot.Immediate.{Immediate}
use Rattle.cal_keys.specs.TakenImms.{AreTaken, IsTakenIn}
use Rattle.cal_keys.specs.Takers.{KnowsTakers}
use Rattle.cal_keys.proofs.key_imms.taken_imms.Given as goal

abbrev pub invariant-loop-imm : goal.invariant-loop-imm
invariant-loop-imm l = record {
  within : (t : Tree) → All (λ (i : Immediate). i.attribute.0 < length t.attributes) l.imms → All (IsTakenIn t) l.taken.items;
  taken : (t : Tree) (names : List (List ℕ)) → KnowsTakers t names l.sieve.takers
      → All (λ (i : Immediate). i.attribute.0 < length t.attributes) l.imms
      → AreTaken t names (take l.imm-index l.imms) l.taken.items;
}

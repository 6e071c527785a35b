use Rattle.std.proofs.Common.{◌≡◌, map}
use Rattle.cal_context.specs.Snapshots.{entry_of}
use Rattle.cal_context.specs.Tree.{Tree}
use Rattle.cal_keys.specs.Moves.{AreMovedAttributes}
use Rattle.cal_keys.proofs.moving.renumbered_imms.Given as goal

abbrev pub invariant-loop-imm : goal.invariant-loop-imm
invariant-loop-imm l = (t u : Tree) → AreMovedAttributes t u l.attributes
    → map (entry_of u) l.moved.items ≡ map (entry_of t) l.yielded

use Rattle.std.proofs.Common.{◌≡◌, take}
use Rattle.cal_table.proofs.shape.TableShapeTryCopy.copy.Given as goal

-- the copies so far are those of the flags so far
abbrev pub invariant-loop-flags : goal.invariant-loop-flags
invariant-loop-flags l = l.values.items ≡ take l.flags-index l.self.values

use Rattle.std.proofs.Common.{◌≡◌, take}
use Rattle.std.specs.Prelude.{IsTrue}
use Rattle.cal_tabfmt.specs.Grid.{width}
use Rattle.cal_tabfmt.proofs.shape.is_ascii.Given as goal

abbrev pub invariant-loop-byte : goal.invariant-loop-byte
invariant-loop-byte l = IsTrue l.ascii → width (take l.byte-index l.text) ≡ l.byte-index

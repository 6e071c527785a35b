use Rattle.std.proofs.Common.{◌≡◌, take}
use Rattle.std.specs.Prelude.{IsTrue}
use Rattle.cal_tabfmt.specs.Grid.{on_line}
use Rattle.cal_tabfmt.proofs.shown_text.is_one_line.Given as goal

abbrev pub invariant-loop-byte : goal.invariant-loop-byte
invariant-loop-byte l = IsTrue l.plain → on_line (take l.byte-index l.text) ≡ take l.byte-index l.text

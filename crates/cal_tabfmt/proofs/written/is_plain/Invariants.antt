use Rattle.std.proofs.Common.{◌≡◌, false, take}
use Rattle.cal_line.specs.Escapes.{escaped}
use Rattle.cal_tabfmt.proofs.written.is_plain.Given as goal

abbrev pub invariant-loop-byte : goal.invariant-loop-byte
invariant-loop-byte l =
    l.newline ≡ false → l.backslash ≡ false → l.comma ≡ false → l.equals ≡ false
    → escaped (take l.byte-index l.text) ≡ take l.byte-index l.text

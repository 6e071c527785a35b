use Rattle.std.proofs.Common.{◌≡◌, take}
use Rattle.bench.specs.Copies.{with_escapes}
use Rattle.bench.proofs.copying.by_bytes.Given as goal

-- the bytes so far are copied
abbrev pub invariant-loop-byte : goal.invariant-loop-byte
invariant-loop-byte l = l.out.items ≡ with_escapes (take l.byte-index l.bytes)

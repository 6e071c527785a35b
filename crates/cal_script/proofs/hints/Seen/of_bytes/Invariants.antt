use Rattle.std.proofs.Common.{◌≡◌, ℕ, ◌<◌, false, get_or}
use Rattle.cal_script.proofs.hints.Seen.of_bytes.Given as goal

-- no backslash stands among the bytes so far, unless one was seen
abbrev pub invariant-loop-byte : goal.invariant-loop-byte
invariant-loop-byte l = l.escapes ≡ false → (k : ℕ) → k < l.byte-index → get_or l.bytes k 0 ≡ 92 → ⊥

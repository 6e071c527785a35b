use Rattle.std.proofs.Common.{◌≡◌, ◌<◌, ℕ}
use Rattle.cal_engine.specs.Making.{key_at}
use Rattle.cal_records.proofs.group_keys.have_no_immediates.Given as goal

-- none so far
abbrev pub invariant-loop-number : goal.invariant-loop-number
invariant-loop-number l = (n : ℕ) → n < l.number → (key_at l.rows n).imms.0 ≡ 0

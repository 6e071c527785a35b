use Rattle.std.proofs.Common.{◌≡◌, ◌+◌, ◌-◌, length, drop}
use Rattle.std.specs.Prelude.{option_map}
use Rattle.cal_ql.specs.Tokens.{quoted_len}
use Rattle.cal_ql.proofs.scan.quoted_len.Given as goal

abbrev pub invariant-loop-len : goal.invariant-loop-len
invariant-loop-len l = option_map (λ n. l.len + n) (quoted_len (drop l.len l.behind)) ≡ quoted_len l.behind

abbrev pub decreases-loop-len : goal.decreases-loop-len
decreases-loop-len l = length l.behind - l.len

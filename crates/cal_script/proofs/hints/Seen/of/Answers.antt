use Rattle.std.proofs.Common.{arith}
use Rattle.std.proofs.lemmas.List.{length-take}
use Rattle.cal_script.proofs.Plain.{spelled_none, spelled_plain}
use Rattle.cal_script.proofs.hints.Seen.of.Goals as goal

pub returns-then-bytes-le-MOST_HASHED : goal.returns-then-bytes-le-MOST_HASHED
returns-then-bytes-le-MOST_HASHED c = λ plain. spelled_none c.as_bytes-bytes.result.now c.args.text.now c.as_bytes-bytes.ensures.value (c.of_bytes.ensures plain)

pub slice_bounds-of_bytes-end : goal.slice_bounds-of_bytes-end
slice_bounds-of_bytes-end c = omega (arith, length-take 32 c.as_bytes-bytes.result.now, c.if-bytes-le-MOST_HASHED.false, c.as_bytes-bytes.ensures.len)

pub returns-in-None : goal.returns-in-None
returns-in-None c = λ _. spelled_plain c.as_bytes-bytes.result.now c.args.text.now c.as_bytes-bytes.ensures.value c.in-None.ensures

use Rattle.std.proofs.Common.{rules, Some, ◌≡◌}
use Rattle.cal_ql.specs.Signs.{sign_at}
use Rattle.cal_ql.proofs.Scans.{word_boundary, sign_boundary}
use Rattle.cal_ql.proofs.scan.token_at.Goals as goal

pub range-requires-clause-end_boundary : goal.range-requires-clause-end_boundary
range-requires-clause-end_boundary c = rw (c.word_len-len.ensures, c.as_bytes-bytes.ensures.value) (word_boundary c.args.text.now)

pub returns-then-len-gt0-clause-boundary : goal.returns-then-len-gt0-clause-boundary
returns-then-len-gt0-clause-boundary c = rw (c.word_len-len.ensures, c.as_bytes-bytes.ensures.value) (word_boundary c.args.text.now)

pub returns-clause-boundary : goal.returns-clause-boundary
returns-clause-boundary c =
    let found : sign_at c.args.text.now ≡ Some c.in_ok-sign.sign = search rules in
    rw c.text.ensures (sign_boundary c.args.text.now c.in_ok-sign.sign c.utf8.text found)

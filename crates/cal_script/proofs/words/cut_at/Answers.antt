use Rattle.std.proofs.Common.{ℕ, List, length, get_or, ap, arith}
use Rattle.std.proofs.lemmas.Str.{IsCharBoundary-after_ascii}
use Rattle.cal_script.proofs.words.cut_at.Goals as goal

pub range_from-requires : goal.range_from-requires
range_from-requires c = λ _.
    let same = c.as_bytes-bytes.ensures.value in
    IsCharBoundary-after_ascii c.args.text.now c.args.place c.utf8.text
    (omega (arith, c.if-place-bytes.false, ap length same))
    (omega (arith, c.if-bytes-place-ne32.false, ap (λ (bytes : List ℕ). get_or bytes c.args.place 0) same))

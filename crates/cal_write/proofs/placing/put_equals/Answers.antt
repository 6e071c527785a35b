use Rattle.std.proofs.Common.{[], ◌∷◌, ◌++◌, length, take, ap, ◌∙◌, arith}
use Rattle.std.proofs.lemmas.List.{length-set, take_more_set}
use Rattle.cal_write.proofs.placing.put_equals.Goals as goal

pub put_bytes-requires : goal.put_bytes-requires
put_bytes-requires c =
    omega (
      arith,
      c.requires,
      ap length c.as_bytes-text.ensures.value,
      c.format.ensures.fits,
      length-set c.args.bytes.now c.args.at 61,
    )

pub returns-clause-written : goal.returns-clause-written
returns-clause-written c =
    let front = take c.args.at c.args.bytes.now in
    c.put_bytes.ensures.written
    ∙ ap (λ l. l ++ c.as_bytes-text.result.now)
    (take_more_set c.args.bytes.now c.args.at 61 (omega arith))
    ∙ ap (λ l. (front ++ 61 ∷ []) ++ l) (c.as_bytes-text.ensures.value ∙ c.format.ensures.text)

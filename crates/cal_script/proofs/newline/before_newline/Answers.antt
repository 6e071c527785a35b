use Rattle.std.proofs.Common.{eqb, sym, ap, ◌∙◌, arith, w8}
use lib.Count.{count_trailing_zeros}
use Rattle.std.specs.Simd.Lanes.{chunk}
use Rattle.std.proofs.lemmas.Simd.{length-chunk, bitmask_splat, leading_from_mask_l, trailing_mask_l}
use Rattle.cal_script.proofs.newline.before_newline.Goals as goal

pub returns-then-found-eq0 : goal.returns-then-found-eq0
returns-then-found-eq0 c =
    let v = chunk 0 32 c.args.bytes.now in
    let long = length-chunk 0 32 c.args.bytes.now c.requires in
    let found = bitmask_splat w8 eqb v 32 10 long (omega arith) in
    sym (leading_from_mask_l (λ x. eqb x 10) v (sym found ∙ c.if-found-eq0.true) ∙ long)

pub returns-else-found-eq0 : goal.returns-else-found-eq0
returns-else-found-eq0 c =
    let v = chunk 0 32 c.args.bytes.now in
    let long = length-chunk 0 32 c.args.bytes.now c.requires in
    let found = bitmask_splat w8 eqb v 32 10 long (omega arith) in
    ap (count_trailing_zeros 64) found ∙ trailing_mask_l (λ x. eqb x 10) 64 v (omega arith) (omega arith)

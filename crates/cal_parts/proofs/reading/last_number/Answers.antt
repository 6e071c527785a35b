use Rattle.std.proofs.Common.{◌≡◌, length, take, get_or, ap, ◌∙◌, arith}
use Rattle.std.specs.List.{last_or}
use Rattle.std.proofs.lemmas.Grind.{common_steps}
use Rattle.cal_value.specs.Flat.{joined}
use Rattle.cal_parts.specs.Kernels.{numbers_sought}
use Rattle.cal_parts.proofs.Lasts.{numbers_all, numbers_more}
use Rattle.cal_parts.proofs.reading.last_number.Goals as goal

pub loop-path-preserved : goal.loop-path-preserved
loop-path-preserved c =
    let paths = c.args.rec.now.paths in
    let n = c.loop-path.path-index in
    let path = c.path-item.result in
    let same = c.as_slice-path-items.ensures in
    let long : length c.as_slice-path-items.result.now ≡ length paths = ap length same in
    numbers_more c.args.whole c.args.name.now paths n path c.loop-path.last c.last_among-last.result
    (omega arith)
    (c.path-item.is ∙ ap (λ xs. get_or xs n path) same)
    c.loop-path.invariant
    (c.last_among-last.ensures ∙ ap (λ es. last_or c.loop-path.last (numbers_sought c.args.whole c.args.name.now es)) c.as_slice.ensures)

pub returns : goal.returns
returns c =
    let paths = c.args.rec.now.paths in
    let same = c.as_slice-path-items.ensures in
    let long : length c.as_slice-path-items.result.now ≡ length paths = ap length same in
    let all : take c.loop-path.path-index paths ≡ paths = grind (arith, common_steps, long) in
    numbers_all c.args.whole c.args.name.now (joined paths) c.args.rec.now.imms c.loop-path.last c.last_among.result
    (rw all at c.loop-path.invariant)
    (c.last_among.ensures ∙ ap (λ es. last_or c.loop-path.last (numbers_sought c.args.whole c.args.name.now es)) c.as_slice-2.ensures)

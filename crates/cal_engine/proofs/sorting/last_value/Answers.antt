use Rattle.std.proofs.Common.{◌≡◌, length, take, get_or, ap, ◌∙◌, arith}
use Rattle.std.specs.List.{last_or}
use Rattle.std.specs.Option.{option_copied}
use Rattle.std.proofs.lemmas.Grind.{common_steps}
use Rattle.cal_value.specs.Flat.{joined}
use Rattle.cal_engine.specs.Ranks.{values_of}
use Rattle.cal_engine.proofs.LastValues.{last_value_is, values_all, values_more}
use Rattle.cal_engine.proofs.sorting.last_value.Goals as goal

pub loop-path-preserved : goal.loop-path-preserved
loop-path-preserved c =
    let paths = c.args.row.now.paths in
    let n = c.loop-path.path-index in
    let path = c.path-item.result in
    let same = c.as_slice-path-items.ensures in
    let long : length c.as_slice-path-items.result.now ≡ length paths = ap length same in
    values_more c.args.name.now paths n path (option_copied c.loop-path.last) (option_copied c.last_among-last.result)
    (omega arith)
    (c.path-item.is ∙ ap (λ xs. get_or xs n path) same)
    c.loop-path.invariant
    (c.last_among-last.ensures ∙ ap (λ es. last_or (option_copied c.loop-path.last) (values_of c.args.name.now es)) c.as_slice.ensures)

pub returns : goal.returns
returns c =
    let paths = c.args.row.now.paths in
    let same = c.as_slice-path-items.ensures in
    let long : length c.as_slice-path-items.result.now ≡ length paths = ap length same in
    let all : take c.loop-path.path-index paths ≡ paths = grind (arith, common_steps, long) in
    last_value_is c.args.name.now c.args.row.now (option_copied c.last_among.result)
    (values_all c.args.name.now (joined paths) c.args.row.now.imms (option_copied c.loop-path.last) (option_copied c.last_among.result)
    (rw all at c.loop-path.invariant)
    (c.last_among.ensures ∙ ap (λ es. last_or (option_copied c.loop-path.last) (values_of c.args.name.now es)) c.as_slice-2.ensures))

use Rattle.std.proofs.Common.{◌≡◌, length, get_or, ap, ◌∙◌, arith, None, false}
use Rattle.std.specs.List.{last_or}
use Rattle.cal_value.specs.Flat.{flat}
use Rattle.cal_parts.specs.Kernels.{numbers_sought}
use Rattle.cal_parts.proofs.Lasts.{numbers_found}
use Rattle.cal_parts.proofs.reading.last_numbers.Goals as goal

pub loop-name-preserved : goal.loop-name-preserved
loop-name-preserved c =
    let names = c.args.names.now in
    let same = c.as_slice-name-items.ensures in
    let long : length c.as_slice-name-items.result.now ≡ length names = ap length same in
    numbers_found names c.args.rec.now c.loop-name.name-index c.name-item.result c.last_number.result c.loop-name.numbers.items _
    (omega arith)
    (c.name-item.is ∙ ap (λ xs. get_or xs c.loop-name.name-index c.name-item.result) same)
    c.loop-name.invariant
    c.in_ok-push_some.ensures
    (c.last_number.ensures ∙ ap (λ m. last_or None (numbers_sought false m (flat c.args.rec.now))) c.as_str.ensures)

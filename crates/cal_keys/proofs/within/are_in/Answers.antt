use Rattle.std.proofs.Common.{◌<◌, length, subst, arith}
use Rattle.std.specs.List.{All}
use Rattle.std.proofs.lemmas.List.{take_all}
use Rattle.std.proofs.lemmas.List.Elements.{All-more, All-nil}
use Rattle.cal_rowset.specs.NumberedRows.{IsWithin}
use Rattle.cal_keys.proofs.within.are_in.Goals as goal

pub loop-place-init : goal.loop-place-init
loop-place-init c = All-nil (IsWithin c.args.context.now)

pub loop-place-preserved : goal.loop-place-preserved
loop-place-preserved c =
    let rows = c.args.rows.now in
    let n = c.loop-place.place in
    let within : n < length rows = omega arith in
    All-more (IsWithin c.args.context.now) rows n _ within c.loop-place.invariant (c.is_row_in.ensures c.if-not-is_row_in.false)

pub returns : goal.returns
returns c = λ yes.
    subst (All (IsWithin c.args.context.now)) (take_all c.loop-place.place c.args.rows.now (omega arith)) c.loop-place.invariant

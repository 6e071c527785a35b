use Rattle.std.proofs.Common.{◌<◌, Some, sym, ◌∙◌, ap, arith, subst, length}
use Rattle.cal_context.specs.Snapshots.{meaning}
use Rattle.cal_value.specs.Flat.{flat}
use Rattle.cal_filter.specs.Known.{sought}
use Rattle.cal_filter.specs.Latest.{IsReadyOperand}
use Rattle.cal_filter.specs.Sought.{value_sought}
use Rattle.cal_filter.proofs.Applying.{first_at, none_next}
use Rattle.cal_filter.proofs.NamedLemmas.{operand_at}
use Rattle.cal_filter.proofs.operands.first_found.Goals as goal

pub returns-in-Some : goal.returns-in-Some
returns-in-Some c = λ k.
    let t = c.args.context.now in
    let l = c.args.latest.now in
    let imms = c.args.snapshot.now.imms.items in
    let i = c.loop-place.place in
    let s = c.index-seekers-place.result in
    let short : i < length c.args.seekers.now = omega arith in
    let ready = subst (IsReadyOperand t l imms s) (sym c.name_at-name.ensures)
    (operand_at t l imms c.args.seekers.now c.args.names.now i s k short c.index-seekers-place.is) in
    ap Some c.in_ok-copy-in-Some.ensures
    ∙ sym (first_at (λ s. value_sought (sought s) (flat (meaning t c.args.snapshot.now)))
    c.args.seekers.now i s c.in-Some.value.now short c.index-seekers-place.is
    (c.loop-place.invariant k) (sym (c.in-Some.ensures ready)))

pub loop-place-preserved : goal.loop-place-preserved
loop-place-preserved c = λ k.
    let t = c.args.context.now in
    let l = c.args.latest.now in
    let imms = c.args.snapshot.now.imms.items in
    let i = c.loop-place.place in
    let s = c.index-seekers-place.result in
    let short : i < length c.args.seekers.now = omega arith in
    let ready = subst (IsReadyOperand t l imms s) (sym c.name_at-name.ensures)
    (operand_at t l imms c.args.seekers.now c.args.names.now i s k short c.index-seekers-place.is) in
    none_next (λ s. value_sought (sought s) (flat (meaning t c.args.snapshot.now)))
    c.args.seekers.now i s short c.index-seekers-place.is (c.loop-place.invariant k)
    (sym (c.in-None.ensures ready))

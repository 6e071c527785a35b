use Rattle.std.proofs.Common.{◌≡◌, ◌<◌, length, get_or, arith}
use Rattle.std.proofs.lemmas.Grind.{common_steps}
use Rattle.tests_trigger.proofs.Adding.{stands_more}
use Rattle.tests_trigger.proofs.watching.add_all.Goals as goal

pub loop-rec-preserved : goal.loop-rec-preserved
loop-rec-preserved g c = λ q stands.
    let i = c.loop-rec.rec-index in
    let rows = c.args.rows.now in
    let r = c.in_ok-copy.field-0 in
    let short : i < length rows = omega arith in
    let read : r ≡ get_or rows i r =
    grind (arith, common_steps, c.in_ok-copy.ensures, c.rec-item.is) in
    stands_more q c.args.trigger.now.conds rows i r c.add.new.self short read
    (c.in_ok-add.ensures.ok q _ (c.loop-rec.invariant q stands))

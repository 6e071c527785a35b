use Rattle.std.proofs.Common.{◌<◌, length, map, append_assoc, decimal, arith, refl}
use Rattle.std.proofs.lemmas.List.{length-map, take_all}
use Rattle.std.proofs.lemmas.Bool.Decides.{nat_tests}
use Rattle.cal_write.proofs.LineLemmas.{joined_more, field-some}
use Rattle.cal_write.proofs.lines.write_ids.Goals as goal

pub loop-id-preserved : goal.loop-id-preserved
loop-id-preserved c =
    rw (joined_more decimal c.args.ids.now c.loop-id.id-index 0 c.loop-id-test.true, c.in_ok-put_equals.ensures, c.loop-id.invariant) (simp append_assoc)

pub returns : goal.returns
returns c = λ key is.
    let some : 0 < length (map decimal c.args.ids.now) = rw length-map (grind (arith, nat_tests)) in
    rw (field-some key (map decimal c.args.ids.now) some, c.loop-id.invariant, take_all c.loop-id.id-index c.args.ids.now c.loop-id-test.false, is) refl

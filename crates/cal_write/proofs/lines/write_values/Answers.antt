use Rattle.std.proofs.Common.{◌<◌, length, map, append_assoc, arith, refl}
use Rattle.std.specs.Prelude.{codes}
use Rattle.std.proofs.lemmas.List.{length-map, take_all}
use Rattle.std.proofs.lemmas.Simd.{map-map}
use Rattle.std.proofs.lemmas.Bool.Decides.{nat_tests}
use Rattle.cal_context.specs.declared.snapshot.Immediate.{Immediate}
use Rattle.cal_write.specs.Lines.{written_value}
use Rattle.cal_write.proofs.LineLemmas.{joined_more, field-some}
use Rattle.cal_write.proofs.lines.write_values.Goals as goal

pub loop-imm-preserved : goal.loop-imm-preserved
loop-imm-preserved c =
    rw (joined_more (λ (i : Immediate). written_value i.value) c.args.imms.now c.loop-imm.imm-index c.imm-item.result c.loop-imm-test.true, ← c.imm-item.is, c.in_ok-write_value.ensures, c.loop-imm.invariant) (simp append_assoc)

pub returns : goal.returns
returns c =
    let some : 0 < length (map (λ (i : Immediate). written_value i.value) c.args.imms.now) = rw length-map (grind (arith, nat_tests)) in
    rw (map-map written_value (λ (i : Immediate). i.value) c.args.imms.now, field-some (codes "data") (map (λ (i : Immediate). written_value i.value) c.args.imms.now) some, c.loop-imm.invariant, take_all c.loop-imm.imm-index c.args.imms.now c.loop-imm-test.false) refl

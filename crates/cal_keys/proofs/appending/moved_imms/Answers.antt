use Rattle.std.proofs.Common.{◌≡◌, ◌<◌, [], length, map, subst, sym, ap, arith}
use Rattle.std.specs.List.{All}
use Rattle.std.proofs.lemmas.Grind.{common_steps}
use Rattle.std.proofs.lemmas.List.{take_all}
use Rattle.std.proofs.lemmas.List.Elements.{All-nil}
use Rattle.cal_context.specs.Snapshots.{entry_of}
use Rattle.cal_context.specs.declared.snapshot.Immediate.{Immediate}
use Rattle.cal_keys.specs.Moves.{AreMovedImms}
use Rattle.cal_keys.proofs.MovedKeys.{imms_next}
use Rattle.cal_keys.proofs.appending.moved_imms.Goals as goal

pub loop-imm-init : goal.loop-imm-init
loop-imm-init c =
    let none : c.in_ok-moved.moved.items ≡ [] = grind (arith, common_steps) in
    λ t u are. record {
      mean = ap (map (entry_of u)) none;
      within = subst (All (λ (i : Immediate). i.attribute.0 < length u.attributes)) (sym none)
          (All-nil (λ (i : Immediate). i.attribute.0 < length u.attributes));
    }

pub loop-imm-preserved : goal.loop-imm-preserved
loop-imm-preserved c = λ t u are.
    let new : Immediate = record { attribute = c.in-Some.attribute; value = c.in_ok-value.value } in
    imms_next t u c.args.attributes.now c.args.imms.now c.loop-imm.moved.items c.push.new.self.items c.loop-imm.imm-index c.imm-item.result new
    are (omega arith) c.imm-item.is (c.attribute_in.ensures c.in-Some.attribute c.in-Some.is) c.in_ok-value.ensures
    (c.loop-imm.invariant t u are) c.in_ok-push.ensures.items

pub returns : goal.returns
returns c = λ t u are.
    subst (λ xs. AreMovedImms t u xs c.loop-imm.moved.items) (take_all c.loop-imm.imm-index c.args.imms.now (omega arith))
    (c.loop-imm.invariant t u are)

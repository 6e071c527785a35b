use Rattle.std.proofs.Common.{◌∙◌, arith, refl, subst, sym}
use Rattle.std.proofs.lemmas.List.Elements.{All-push}
use Rattle.cal_context.specs.declared.snapshot.Immediate.{Immediate}
use Rattle.cal_keys.specs.TakenImms.{IsTakenIn}
use Rattle.std.specs.List.{All}
use Rattle.std.proofs.Common.{◌<◌, length}
use Rattle.cal_keys.proofs.ImmLemmas.{imm_taken, imm_not_taken}
use Rattle.cal_keys.proofs.key_imms.taken_imms.Goals as goal
use Rattle.cal_keys.proofs.key_imms.taken_imms.Goals.{in-Some+in_ok-push, in_default}

pub loop-imm-preserved : goal.loop-imm-preserved
loop-imm-preserved c =
    elim c.match-beside.branch [
      | in-Some+in_ok-push w ↦ record {
        within = λ t all. let here = subst (λ (i : Immediate). i.attribute.0 < length t.attributes) (sym c.imm-item.is) (all c.loop-imm.imm-index c.imm-item.result (omega arith)) in
            subst (All (IsTakenIn t)) (sym ((λ i. (w.taken-is i).items) ∙ w.in_ok-push.ensures.items))
            (All-push (IsTakenIn t) c.loop-imm.taken.items _ (c.loop-imm.invariant.within t all) here);
        taken = λ t names knows all. let here = subst (λ (i : Immediate). i.attribute.0 < length t.attributes) (sym c.imm-item.is) (all c.loop-imm.imm-index c.imm-item.result (omega arith)) in
            imm_taken t names c.args.sieve.now.takers c.args.imms.now c.loop-imm.imm-index c.imm-item.result w.in-Some.place c.loop-imm.taken.items
            c.match-beside.taken.items _ knows here (omega arith) c.imm-item.is (sym c.beside.ensures ∙ w.in-Some.is) refl refl
            ((λ i. (w.taken-is i).items) ∙ w.in_ok-push.ensures.items) (c.loop-imm.invariant.taken t names knows all);
      }
      | in_default w ↦ record {
        within = λ t all. subst (All (IsTakenIn t)) (sym (λ i. (w.taken-is i).items)) (c.loop-imm.invariant.within t all);
        taken = λ t names knows all. let here = subst (λ (i : Immediate). i.attribute.0 < length t.attributes) (sym c.imm-item.is) (all c.loop-imm.imm-index c.imm-item.result (omega arith)) in
            imm_not_taken t names c.args.sieve.now.takers c.args.imms.now c.loop-imm.imm-index c.imm-item.result c.loop-imm.taken.items
            c.match-beside.taken.items knows here (omega arith) c.imm-item.is (sym c.beside.ensures ∙ w.in_default.is)
            (λ i. (w.taken-is i).items) (c.loop-imm.invariant.taken t names knows all);
      }
    ]

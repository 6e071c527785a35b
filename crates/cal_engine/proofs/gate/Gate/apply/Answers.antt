use Rattle.std.proofs.Common.{subst, sym}
use Rattle.cal_filter.specs.Ready.{IsFilter}
use Rattle.cal_engine.specs.Looked.{IsLooked}
use Rattle.cal_engine.proofs.Gating.{small_record}
use Rattle.cal_engine.proofs.gate.Gate.apply.Goals as goal

pub returns-clause-stays : goal.returns-clause-stays
returns-clause-stays c = λ q h. record {
  filter = c.in_ok-keeps.ensures.stays q (subst (λ f. IsFilter c.args.context.now q f) (sym c.in_ok-know_small.ensures.same) h.filter);
  small = c.in_ok-know_small.ensures.next h.small;
  looked = subst (IsLooked c.args.context.now q) (sym c.in_ok-know_small.ensures.looked) h.looked;
}

pub returns-clause-filtered : goal.returns-clause-filtered
returns-clause-filtered c = λ q h.
    c.in_ok-keeps.ensures.filtered q
    (subst (λ f. IsFilter c.args.context.now q f) (sym c.in_ok-know_small.ensures.same) h.filter)
    (small_record c.args.context.now c.args.snapshot.now c.requires.within (c.in_ok-know_small.ensures.small h.small) c.requires.small)

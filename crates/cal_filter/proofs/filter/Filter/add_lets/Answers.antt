use Rattle.std.proofs.Common.{sym, subst}
use Rattle.std.specs.List.{All, AllZip}
use Rattle.cal_filter.specs.Latest.{AreNamed}
use Rattle.cal_filter.specs.Ready.{IsReadyDefinition}
use Rattle.cal_filter.proofs.filter.Filter.add_lets.Goals as goal

pub returns-clause-stays : goal.returns-clause-stays
returns-clause-stays c = λ q h. record {
  lets = h.lets;
  named = rw c.in_ok-apply_all.ensures.names h.named;
  latest = c.in_ok-apply_all.ensures.knows h.latest;
  conds = h.conds;
  known = record { lets = h.known.lets; conds = h.known.conds };
}

pub returns-clause-adds : goal.returns-clause-adds
returns-clause-adds c = λ q h small.
    let f = c.args.self.now in
    c.in_ok-apply_all.ensures.adds q.lets
    (subst (AllZip (IsReadyDefinition c.args.context.now) q.lets) (sym c.deref.ensures.value) h.lets)
    (subst (All (AreNamed f.latest.names.keys)) (sym c.deref.ensures.value) h.named) h.latest small

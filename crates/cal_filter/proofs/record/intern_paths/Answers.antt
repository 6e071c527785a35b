use Rattle.std.proofs.Common.{[], ◌++◌, ap, arith, sym, take}
use Rattle.std.proofs.lemmas.List.{append-nil, take_all}
use Rattle.cal_context.proofs.CallerLemmas.{Grows-refl, Grows-trans}
use Rattle.cal_value.specs.Flat.{joined}
use Rattle.cal_filter.proofs.InternedLemmas.{entries_same, paths_next}
use Rattle.cal_filter.proofs.record.intern_paths.Goals as goal

pub loop-path-init : goal.loop-path-init
loop-path-init c = record {
  grows = Grows-refl c.args.context.now;
  adds = λ es h.
      entries_same c.args.context.now c.args.imms.now.items es (es ++ []) (sym (append-nil es)) h;
}

pub loop-path-preserved : goal.loop-path-preserved
loop-path-preserved c = record {
  grows = Grows-trans c.args.context.now c.loop-path.context c.intern_entries.new.context
      c.loop-path.invariant.grows c.in_ok-intern_entries.ensures.grows;
  adds = λ es h.
      paths_next c.intern_entries.new.context c.intern_entries.new.imms.items es c.args.paths.now c.loop-path.path-index
      c.path-item.result (omega arith) c.path-item.is
      (entries_same c.intern_entries.new.context c.intern_entries.new.imms.items _ _
      (ap (λ p. (es ++ joined (take c.loop-path.path-index c.args.paths.now)) ++ p)
      c.as_slice.ensures)
      (c.in_ok-intern_entries.ensures.adds
      (es ++ joined (take c.loop-path.path-index c.args.paths.now))
      (c.loop-path.invariant.adds es h)));
}

pub returns-clause-adds : goal.returns-clause-adds
returns-clause-adds c = λ es h.
    entries_same c.loop-path.context c.loop-path.imms.items _ _
    (ap (λ xs. es ++ joined xs) (take_all c.loop-path.path-index c.args.paths.now (omega arith)))
    (c.loop-path.invariant.adds es h)

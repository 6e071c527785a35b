use Rattle.std.proofs.Common.{[], ◌++◌, ap, arith, sym, take}
use Rattle.std.proofs.lemmas.List.{append-nil, take_all}
use Rattle.cal_context.proofs.CallerLemmas.{Grows-refl, Grows-trans}
use Rattle.cal_filter.proofs.InternedLemmas.{entries_same, entries_next}
use Rattle.cal_filter.proofs.record.intern_entries.Goals as goal

pub loop-entry-init : goal.loop-entry-init
loop-entry-init c = record {
  grows = Grows-refl c.args.context.now;
  adds = λ es h.
      entries_same c.args.context.now c.args.imms.now.items es (es ++ []) (sym (append-nil es)) h;
}

pub loop-entry-preserved : goal.loop-entry-preserved
loop-entry-preserved c = record {
  grows = Grows-trans c.args.context.now c.loop-entry.context c.intern_entry.new.context
      c.loop-entry.invariant.grows c.in_ok-intern_entry.ensures.grows;
  adds = λ es h.
      entries_next c.intern_entry.new.context c.intern_entry.new.imms.items es c.args.entries.now c.loop-entry.entry-index
      c.entry-item.result (omega arith) c.entry-item.is
      (c.in_ok-intern_entry.ensures.adds (es ++ take c.loop-entry.entry-index c.args.entries.now) (c.loop-entry.invariant.adds es h));
}

pub returns-clause-adds : goal.returns-clause-adds
returns-clause-adds c = λ es h.
    entries_same c.loop-entry.context c.loop-entry.imms.items _ _
    (ap (λ xs. es ++ xs) (take_all c.loop-entry.entry-index c.args.entries.now (omega arith)))
    (c.loop-entry.invariant.adds es h)

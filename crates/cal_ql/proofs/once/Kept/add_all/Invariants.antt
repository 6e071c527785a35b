use Rattle.std.proofs.Common.{◌≡◌}
use Rattle.std.specs.Vec.Iter.{into_iter_items}
use Rattle.cal_ql.specs.Once.{IsKept, with_all_new}
use Rattle.cal_ql.proofs.once.Kept.add_all.Given as goal

-- what is kept, with what is left, is what is kept of all
abbrev pub invariant-loop-agg : goal.invariant-loop-agg
invariant-loop-agg l =
    IsKept l.self × (with_all_new l.self.aggs (into_iter_items l.agg-iterator) ≡ with_all_new l.fn.self.aggs l.fn.aggs)

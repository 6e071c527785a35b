use Rattle.std.proofs.Common.{subst}
use Rattle.std.specs.List.{filter_map}
use Rattle.std.proofs.lemmas.Result.{on_ok_weaker}
use Rattle.cal_filter.specs.Kept.{kept}
use Rattle.cal_engine.specs.FoldGrows.{gate-Grows}
use Rattle.cal_engine.specs.Tallies.{Holds}
use Rattle.cal_engine.proofs.MergedGroups.{holds_both}
use Rattle.cal_engine.proofs.snapshot_fold.SnapshotFold.merge.Goals as goal

pub returns-clause-merged : goal.returns-clause-merged
returns-clause-merged c =
    let old = c.args.self.now in
    let other = c.args.other in
    let q = old.query in
    let u = c.merge_held.new.context in
    on_ok_weaker c.merge_held.result
    (λ merges rs ss h k. record {
      valid = h.valid;
      gate = gate-Grows c.merge_held.ensures.grows q old.gate h.gate;
      holds = holds_both u q rs ss c.merge_held.new.tally c.merge_held.new.rows
          (merges (filter_map (kept q) rs) (filter_map (kept q) ss) h.holds
          (subst (λ p. Holds c.args.its.now p (filter_map (kept p) ss) other.tally other.rows) c.requires.same k.holds));
    })
    c.merge_held.ensures.merged

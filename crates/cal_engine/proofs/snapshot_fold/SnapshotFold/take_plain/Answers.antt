use Rattle.std.specs.List.{filter_map}
use Rattle.cal_context.specs.Snapshots.{meaning}
use Rattle.cal_filter.specs.Kept.{kept}
use Rattle.cal_engine.proofs.Staying.{dropped_filtered, filtered_plain, kept_filtered, stands_dropped, stands_kept}
use Rattle.cal_engine.proofs.snapshot_fold.SnapshotFold.take_plain.Goals as goal

pub returns-then-not-keeps-clause-taken : goal.returns-then-not-keeps-clause-taken
returns-then-not-keeps-clause-taken c = λ rs h.
    let t = c.args.context.now in
    let old = c.args.self.now in
    let r = meaning t c.args.snapshot.now in
    let plain = filtered_plain old.query r c.in_ok-keeps.keeps c.requires.plain (c.in_ok-keeps.ensures.kept old.query h.gate) in
    record {
      valid = h.valid;
      gate = c.in_ok-keeps.ensures.stays old.query h.gate;
      holds = stands_dropped t old.query rs r old.tally old.rows (dropped_filtered old.query r r c.in_ok-keeps.keeps plain c.if-not-keeps.true) h.holds;
    }

pub returns-clause-taken : goal.returns-clause-taken
returns-clause-taken c = λ rs h.
    let t = c.args.context.now in
    let old = c.args.self.now in
    let r = meaning t c.args.snapshot.now in
    let plain = filtered_plain old.query r c.in_ok-keeps.keeps c.requires.plain (c.in_ok-keeps.ensures.kept old.query h.gate) in
    record {
      valid = h.valid;
      gate = c.in_ok-keeps.ensures.stays old.query h.gate;
      holds = stands_kept t old.query rs r r c.take_kept.new.tally c.take_kept.new.rows (kept_filtered old.query r r c.in_ok-keeps.keeps plain c.if-not-keeps.false)
          (c.in_ok-take_kept.ensures (filter_map (kept old.query) rs) h.holds);
    }

use Rattle.std.proofs.Common.{[], ◌∷◌, ◌++◌, subst}
use Rattle.std.specs.List.{filter_map}
use Rattle.cal_context.specs.Snapshots.{meaning}
use Rattle.cal_filter.specs.Filtered.{IsFiltered}
use Rattle.cal_filter.specs.Kept.{kept, with_lets}
use Rattle.cal_value.specs.declared.record.Rec.{Rec}
use Rattle.cal_engine.specs.Tallies.{Holds}
use Rattle.cal_engine.proofs.Looking.{filtered_same, full_same, holds_same}
use Rattle.cal_engine.proofs.Staying.{dropped_filtered, kept_filtered, stands_dropped, stands_kept}
use Rattle.cal_engine.proofs.snapshot_fold.SnapshotFold.take_with_lets.Goals as goal

pub returns-then-not-keeps-clause-taken : goal.returns-then-not-keeps-clause-taken
returns-then-not-keeps-clause-taken c = λ rs h.
    let t = c.args.context.now in
    let q = c.args.self.now.query in
    let r = meaning t c.args.snapshot.now in
    let full = meaning t c.apply.new.snapshot in
    let gate = c.in_ok-copy_looked.ensures.stays h.gate in
    let looked = subst (λ (x : Rec). IsFiltered q x full c.in_ok-keeps.keeps)
    (c.in_ok-copy_looked.ensures.looked h.gate) (c.in_ok-keeps.ensures.filtered q gate) in
    let filtered = filtered_same q r full c.in_ok-keeps.keeps looked in
    record {
      valid = h.valid;
      gate = c.in_ok-keeps.ensures.stays q gate;
      holds = stands_dropped t q rs r c.args.self.now.tally c.args.self.now.rows
          (dropped_filtered q r (with_lets q.lets r) c.in_ok-keeps.keeps filtered c.if-not-keeps.true) h.holds;
    }

pub returns-clause-taken : goal.returns-clause-taken
returns-clause-taken c = λ rs h.
    let t = c.args.context.now in
    let q = c.args.self.now.query in
    let r = meaning t c.args.snapshot.now in
    let full = meaning t c.apply.new.snapshot in
    let tally = c.take_kept.new.tally in
    let rows = c.take_kept.new.rows in
    let ks = filter_map (kept q) rs in
    let gate = c.in_ok-copy_looked.ensures.stays h.gate in
    let looked = subst (λ (x : Rec). IsFiltered q x full c.in_ok-keeps.keeps)
    (c.in_ok-copy_looked.ensures.looked h.gate) (c.in_ok-keeps.ensures.filtered q gate) in
    let filtered = filtered_same q r full c.in_ok-keeps.keeps looked in
    record {
      valid = h.valid;
      gate = c.in_ok-keeps.ensures.stays q gate;
      holds = stands_kept t q rs r (with_lets q.lets r) tally rows
          (kept_filtered q r (with_lets q.lets r) c.in_ok-keeps.keeps filtered c.if-not-keeps.false)
          (holds_same q ks (with_lets q.lets r) t tally rows
          (subst (λ (x : Rec). Holds t q (ks ++ x ∷ []) tally rows)
          (full_same q r full c.in_ok-keeps.keeps looked)
          (c.in_ok-take_kept.ensures ks h.holds)));
    }

use Rattle.std.proofs.Common.{refl, inl, inr, arith, length, ◌∙◌}
use Rattle.cal_rowset.proofs.Trails.{kept-start, kept-fewer, kept-end, trail-length}
use Rattle.cal_rowset.proofs.cells.Cells.keep.Goals as goal

pub loop-self-init : goal.loop-self-init
loop-self-init c = record {
  same = refl;
  kept = kept-start c.args.self.now;
  within = λ entries trail. omega (arith, trail-length c.args.self.now entries trail);
  enough = λ entries trail. inl (trail-length c.args.self.now entries trail);
}

pub loop-self-preserved : goal.loop-self-preserved
loop-self-preserved c =
    let kept = c.loop-self.invariant in
    record {
      same = c.back.ensures.names ∙ kept.same;
      kept = λ entries trail. (kept-fewer c.loop-self.self c.back.new.self entries (omega arith) (kept.within entries trail) (kept.kept entries trail) c.back.ensures.given).0;
      within = λ entries trail.
          let fewer = kept-fewer c.loop-self.self c.back.new.self entries (omega arith) (kept.within entries trail) (kept.kept entries trail) c.back.ensures.given in
          omega (arith, fewer.1, kept.within entries trail);
      enough = λ entries trail.
          let fewer = kept-fewer c.loop-self.self c.back.new.self entries (omega arith) (kept.within entries trail) (kept.kept entries trail) c.back.ensures.given in
          inr (omega (arith, fewer.1));
    }

pub returns-clause-kept : goal.returns-clause-kept
returns-clause-kept c =
    let kept = c.loop-self.invariant in
    λ entries trail. kept-end c.loop-self.self entries (length c.loop-self.self.steps.items) c.args.count (omega arith) (kept.enough entries trail) (kept.kept entries trail)

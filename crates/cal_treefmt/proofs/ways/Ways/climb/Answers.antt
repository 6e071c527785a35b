use Rattle.std.proofs.Common.{List, Option, subst, arith, refl}
use Rattle.cal_context.specs.declared.numbers.NodeNumber.{NodeNumber}
use Rattle.cal_treefmt.specs.Ways.{IsUp}
use Rattle.cal_treefmt.proofs.WayLemmas.{LeadsTo-more, LeadsTo-none}
use Rattle.cal_treefmt.proofs.ways.Ways.climb.Goals as goal

pub loop-above-init : goal.loop-above-init
loop-above-init c = record {
  within = c.requires;
  left = LeadsTo-none c.args.context.now c.args.node _ c.clear.ensures.items;
  known = refl;
}

pub loop-above-preserved : goal.loop-above-preserved
loop-above-preserved c =
    let is = c.in-Some.ensures.above in
    record {
      within = omega (arith, is.earlier, is.within);
      left = LeadsTo-more c.args.context.now c.in-Some.above c.loop-above.up c.args.node c.loop-above.self.left.items _ is c.loop-above.invariant.left c.in_ok-push.ensures.items;
      known = c.loop-above.invariant.known;
    }

pub loop-above-smaller : goal.loop-above-smaller
loop-above-smaller c = c.in-Some.ensures.above.earlier

pub returns-clause-up : goal.returns-clause-up
returns-clause-up c =
    subst (λ (known : List (Option NodeNumber)). IsUp c.args.context.now known c.args.from c.loop-above.up) c.loop-above.invariant.known c.in_default.ensures.up

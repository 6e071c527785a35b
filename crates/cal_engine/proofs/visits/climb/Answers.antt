use Rattle.std.proofs.Common.{◌<◌, ◌++◌, length, map, reverse, sym, ap, ◌∙◌, subst, arith}
use Rattle.std.proofs.lemmas.List.{length-set}
use Rattle.std.proofs.lemmas.List.Elements.{All-push}
use Rattle.std.specs.List.{All}
use Rattle.cal_context.specs.Tree.{attribute_at}
use Rattle.cal_engine.specs.Visiting.{attributes_on}
use Rattle.cal_engine.proofs.Visiting.{met_further, trail_further}
use Rattle.cal_engine.proofs.visits.climb.Goals as goal

pub loop-link-preserved : goal.loop-link-preserved
loop-link-preserved c =
    let t = c.args.context.now in
    let inv = c.loop-link.invariant in
    let at = c.loop-link.at in
    let link = c.in-Some.link in
    let linked = c.in-Some.ensures.linked in
    let trail = c.loop-link.trail.items in
    record {
      within = omega (arith, linked.child.later, inv.within);
      long = simp length-set inv.long;
      path = trail_further t link at linked c.args.node trail inv.path
          ∙ ap (λ trail. attributes_on t link.parent ++ map (attribute_at t) (reverse trail)) (sym c.in_ok-push.ensures.items);
      known = subst (All (λ a. a.0 < length t.attributes)) (sym c.in_ok-push.ensures.items)
          (All-push (λ a. a.0 < length t.attributes) trail link.attribute inv.known linked.child.known);
      met = met_further t link at linked c.args.node c.args.met.now.items c.loop-link.met.items
          (map (attribute_at t) (reverse trail), inv.path) inv.met;
    }

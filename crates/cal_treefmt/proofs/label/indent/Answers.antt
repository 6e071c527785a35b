use Rattle.std.proofs.Common.{arith, ◌∙◌}
use Rattle.cal_treefmt.proofs.Lining.{indent-more}
use Rattle.cal_treefmt.proofs.label.indent.Goals as goal

pub loop-link-preserved : goal.loop-link-preserved
loop-link-preserved c = record {
  within = omega (arith, c.in-Some.ensures.linked.child.later, c.loop-link.invariant.within);
  rest = indent-more c.loop-link.label c.push_str.new.self _ _ _ c.in-Some.ensures.linked.child.path c.in_ok-push_str.ensures.ok ∙ c.loop-link.invariant.rest;
}

use Rattle.std.proofs.Common.{◌≡◌, sym, ap, subst, arith}
use Rattle.cal_context.specs.declared.numbers.NodeNumber.{NodeNumber}
use Rattle.cal_records.proofs.ForkLemmas.{after-earlier, leads-itself, leads-up, two-first}
use Rattle.cal_records.proofs.ForkLemmas.{two-second}
use Rattle.cal_records.proofs.comparing.fork_of.Goals as goal
use Rattle.cal_records.specs.Forks.{IsAfter, LeadsThrough}

pub loop-one-init : goal.loop-one-init
loop-one-init c = record {
  one = leads-itself c.args.context.now c.args.one c.requires.one;
  other = leads-itself c.args.context.now c.args.other c.requires.other;
  one_after = tt;
  other_after = tt;
  two = tt;
}

pub loop-one-preserved-then-other-one : goal.loop-one-preserved-then-other-one
loop-one-preserved-then-other-one c =
    let at = c.loop-one.invariant in
    let up = c.child_at-child.result in
    let is = c.child_at-child.ensures in
    let number : up.node.0 ≡ c.loop-one.one.0 = ap (λ (n : NodeNumber). n.0) is.node in
    record {
      one = leads-up c.args.context.now c.args.one c.loop-one.one c.loop-one.fork.one up
          at.one is.node is.linked;
      other = at.other;
      one_after = omega (arith, c.if-other-one.true, number);
      other_after = after-earlier up.link.parent c.loop-one.one c.loop-one.fork.other
          is.linked.child.later at.other_after;
      two = two-first up c.loop-one.fork.other
          (subst (λ (n : NodeNumber). IsAfter n c.loop-one.fork.other) (sym is.node)
          at.other_after);
    }

pub loop-one-preserved : goal.loop-one-preserved
loop-one-preserved c =
    let at = c.loop-one.invariant in
    let up = c.child_at-child-else-other-one.result in
    let is = c.child_at-child-else-other-one.ensures in
    let number : up.node.0 ≡ c.loop-one.other.0 = ap (λ (n : NodeNumber). n.0) is.node in
    let apart : ¬ (c.loop-one.one.0 ≡ c.loop-one.other.0) = c.loop-one-test.true in
    record {
      one = at.one;
      other = leads-up c.args.context.now c.args.other c.loop-one.other c.loop-one.fork.other up
          at.other is.node is.linked;
      one_after = after-earlier up.link.parent c.loop-one.other c.loop-one.fork.one
          is.linked.child.later at.one_after;
      other_after = omega (arith, c.if-other-one.false, apart, number);
      two = two-second c.loop-one.fork.one up
          (subst (λ (n : NodeNumber). IsAfter n c.loop-one.fork.one) (sym is.node) at.one_after);
    }

pub returns : goal.returns
returns c =
    let at = c.loop-one.invariant in
    record {
      shared = c.loop-one.one;
      first = at.one;
      second = subst
          (λ (n : NodeNumber). LeadsThrough c.args.context.now c.args.other n c.loop-one.fork.other)
          (λ i. record { 0 = sym c.loop-one-test.false i }) at.other;
      two = at.two;
    }

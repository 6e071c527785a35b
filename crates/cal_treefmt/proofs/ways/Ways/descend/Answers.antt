use Rattle.std.proofs.Common.{◌∙◌, ap, arith, refl}
use Rattle.std.specs.Prelude.{Option, unwrap_or}
use Rattle.cal_context.specs.declared.numbers.NodeNumber.{NodeNumber}
use Rattle.cal_treefmt.proofs.WayLemmas.{AreWays-same, descending-end, descending-more, descending-start, next-known, next-within, none-left}
use Rattle.cal_treefmt.proofs.ways.Ways.descend.Goals as goal

pub loop-next-init : goal.loop-next-init
loop-next-init c =
    descending-start c.args.context.now c.args.nodes.now c.args.self.now c.args.from c.args.up c.args.node c.unwrap_or-at.result c.has_each_once.ensures c.requires.from c.requires.within
    c.requires.ways c.requires.left c.requires.up (c.unwrap_or-at.ensures ∙ ap (λ (o : Option NodeNumber). unwrap_or o c.args.from) c.known.ensures)

pub add_own-requires-clause-node : goal.add_own-requires-clause-node
add_own-requires-clause-node c =
    next-within c.args.context.now c.args.nodes.now c.loop-next.nodes c.loop-next.nodes c.loop-next.self c.loop-next.self c.args.from c.args.node c.loop-next.at c.in-Some.next c.loop-next.at
    _ c.has_each_once.ensures c.loop-next.invariant c.in-Some.ensures.items

pub add_own-requires-clause-at : goal.add_own-requires-clause-at
add_own-requires-clause-at c = c.loop-next.invariant.walks.within

pub learn-requires : goal.learn-requires
learn-requires c =
    next-known c.args.context.now c.args.nodes.now c.loop-next.nodes c.loop-next.nodes c.loop-next.self c.loop-next.self c.args.from c.args.node c.loop-next.at c.in-Some.next c.loop-next.at
    _ c.has_each_once.ensures c.loop-next.invariant c.in-Some.ensures.items

pub loop-next-preserved : goal.loop-next-preserved
loop-next-preserved c =
    descending-more c.args.context.now c.args.nodes.now c.loop-next.nodes c.add_own.new.nodes c.loop-next.self c.learn.new.self c.args.from c.args.node c.loop-next.at c.in-Some.next
    c.in_ok-at.at _ c.has_each_once.ensures c.loop-next.invariant c.in-Some.ensures.items c.in_ok-at.ensures c.learn.ensures.left c.learn.ensures.known

pub returns-clause-ways : goal.returns-clause-ways
returns-clause-ways c = AreWays-same c.args.context.now c.loop-next.nodes c.loop-next.self _ refl c.loop-next.invariant.ways

pub returns-clause-walks : goal.returns-clause-walks
returns-clause-walks c =
    descending-end c.args.context.now c.args.nodes.now c.loop-next.nodes c.loop-next.self c.args.from c.args.node c.loop-next.at c.loop-next.invariant
    (none-left c.loop-next.self.left.items (omega (arith, c.in_default.ensures.cases.0)))

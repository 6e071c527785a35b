use Rattle.std.proofs.Common.{List, Option, sym, subst}
use Rattle.cal_context.specs.declared.numbers.NodeNumber.{NodeNumber}
use Rattle.cal_treefmt.specs.Ways.{IsUp}
use Rattle.cal_treefmt.proofs.WayLemmas.{AreWays-same}
use Rattle.cal_treefmt.proofs.ways.Ways.go.Goals as goal

pub descend-requires-clause-up : goal.descend-requires-clause-up
descend-requires-clause-up c =
    subst (λ (known : List (Option NodeNumber)). IsUp c.args.context.now known c.args.from c.in_ok-up.up) (sym c.climb.ensures.known) c.in_ok-up.ensures.up

pub descend-requires-clause-ways : goal.descend-requires-clause-ways
descend-requires-clause-ways c = AreWays-same c.args.context.now c.args.nodes.now c.args.self.now c.climb.new.self c.climb.ensures.known c.requires.ways

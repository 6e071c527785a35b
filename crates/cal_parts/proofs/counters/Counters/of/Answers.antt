use Rattle.std.proofs.Common.{◌≡◌, [], subst, sym, arith}
use Rattle.std.specs.List.{All}
use Rattle.std.proofs.lemmas.Grind.{common_steps}
use Rattle.std.proofs.lemmas.List.Elements.{All-nil}
use Rattle.cal_filter.specs.Known.{Knows}
use Rattle.cal_parts.proofs.counters.Counters.of.Goals as goal

pub returns : goal.returns
returns c =
    let none : c.new-seekers.result.items ≡ [] = grind (arith, common_steps) in
    λ t. record {
      counts = c.in_ok-counters.ensures.counts;
      knows = c.in_ok-counters.ensures.more.knows t (subst (All (Knows t)) (sym none) (All-nil (Knows t)));
    }

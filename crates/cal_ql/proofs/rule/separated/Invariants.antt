use Rattle.cal_ql.specs.Reading.{count, separated}
use Rattle.cal_ql.specs.Steps.{Advances, tokens_ahead}
use Rattle.cal_ql.proofs.Lists.{Reads}
use Rattle.cal_ql.proofs.rule.separated.Given as goal

-- the items so far, and those that are left, are all
abbrev pub invariant-loop-behind : goal.invariant-loop-behind
invariant-loop-behind g l =
    Reads (g.R.Rule.item_at l.rule) l.items (tokens_ahead l.rest) (separated (g.R.Rule.item_at l.rule) (tokens_ahead l.ahead)) × Advances l.ahead l.rest

abbrev pub decreases-loop-behind : goal.decreases-loop-behind
decreases-loop-behind g l = count (tokens_ahead l.rest)

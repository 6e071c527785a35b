use Rattle.std.proofs.Common.{◌≡◌, length}
use Rattle.cal_filter.specs.Known.{KnowsAttributes}
use Rattle.cal_filter.proofs.Seeking.{Stays}
use Rattle.cal_filter.proofs.seeker.Seeker.know_nodes.Given as goal

-- the nodes before this one are known
abbrev pub invariant-loop-place : goal.invariant-loop-place
invariant-loop-place l = record {
  counted : length l.self.nearest ≡ l.place;
  same : Stays l.fn.self l.self;
  named : l.self.named ≡ l.fn.self.named;
  knows : KnowsAttributes l.context l.fn.self → KnowsAttributes l.context l.self;
}

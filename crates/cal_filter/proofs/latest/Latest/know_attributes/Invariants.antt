use Rattle.std.proofs.Common.{◌≡◌, length}
use Rattle.cal_filter.specs.Latest.{KnowsNames}
use Rattle.cal_filter.proofs.latest.Latest.know_attributes.Given as goal

-- the attributes before this one are known
abbrev pub invariant-loop-place : goal.invariant-loop-place
invariant-loop-place l = record {
  counted : length l.self.named ≡ l.place;
  names : l.self.names ≡ l.fn.self.names;
  knows : KnowsNames l.context l.fn.self → KnowsNames l.context l.self;
}

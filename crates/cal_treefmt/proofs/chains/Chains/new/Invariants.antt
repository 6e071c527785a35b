use Rattle.cal_treefmt.specs.Chains.{AreChains}
use Rattle.cal_treefmt.proofs.chains.Chains.new.Given as goal

-- the chains of the places from one on
abbrev pub invariant-loop-place : goal.invariant-loop-place
invariant-loop-place l = AreChains l.keys l.place l.count l.first.items l.next.items

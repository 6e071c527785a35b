use Rattle.std.proofs.Common.{◌≡◌, ℕ, List, length}
use Rattle.cal_context.specs.Tree.{Grows}
use Rattle.cal_keys.specs.Sieves.{KnowsAttributes}
use Rattle.cal_keys.proofs.sieve.Sieve.know_nodes.Given as goal

abbrev pub invariant-loop-place : goal.invariant-loop-place
invariant-loop-place l = record {
  counted : length l.self.shares ≡ l.place;
  grows : Grows l.fn.own l.own;
  knows : (names : List (List ℕ)) → KnowsAttributes l.context l.fn.own names l.fn.self → KnowsAttributes l.context l.own names l.self;
}

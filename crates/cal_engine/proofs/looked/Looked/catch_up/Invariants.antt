use Rattle.std.proofs.Common.{◌≡◌, length}
use Rattle.cal_engine.specs.Looked.{IsLooked}
use Rattle.cal_engine.proofs.looked.Looked.catch_up.Given as goal

-- the attributes before this one are known
abbrev pub invariant-loop-place : goal.invariant-loop-place
invariant-loop-place l = record {
  counted : length l.self.attributes ≡ l.place;
  is : IsLooked l.context l.query l.fn.self → IsLooked l.context l.query l.self;
}

use Rattle.std.proofs.Common.{◌≡◌, ◌++◌, filter}
use Rattle.std.specs.Prelude.{slice_range}
use Rattle.cal_keys.specs.Shares.{is_above}
use Rattle.cal_keys.proofs.share.add_above.Given as goal

abbrev pub invariant-loop-at : goal.invariant-loop-at
invariant-loop-at l = record {
  added : l.list.items ≡ l.fn.list.items ++ filter (is_above l.place) (slice_range l.fn.list.items l.from l.at);
}

use Rattle.std.specs.List.{AllZip}
use Rattle.std.proofs.Common.{◌≡◌, length}
use Rattle.cal_filter.specs.Latest.{IsNamed, KnowsAllNames}
use Rattle.cal_filter.specs.Replaced.{CatchesUp}
use Rattle.cal_filter.proofs.Zips.{Replacing}
use Rattle.cal_filter.proofs.operands.catch_up_by_numbers.Given as goal

-- those before this one have caught up
abbrev pub invariant-loop-place : goal.invariant-loop-place
invariant-loop-place l = record {
  counted : length l.seekers ≡ length l.fn.seekers;
  replacing : KnowsAllNames l.context l.latest
      → AllZip (IsNamed l.latest.names.keys) l.fn.seekers l.names
      → Replacing (CatchesUp l.context) l.fn.seekers l.place l.seekers;
}

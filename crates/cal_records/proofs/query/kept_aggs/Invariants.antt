use Rattle.std.proofs.Common.{◌≡◌, [], take}
use Rattle.cal_profile.specs.Groups.{aggs_of}
use Rattle.cal_ql.specs.Once.{with_all_new}
use Rattle.cal_records.specs.Kept.{AreNamed}
use Rattle.cal_records.proofs.query.kept_aggs.Given as goal

-- what is kept of the results so far
abbrev pub invariant-loop-value : goal.invariant-loop-value
invariant-loop-value l = record {
  named : AreNamed l.kept;
  kept : l.kept.aggs ≡ with_all_new [] (aggs_of (take l.value-index l.fn.values));
}

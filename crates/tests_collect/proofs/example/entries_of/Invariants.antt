use Rattle.std.proofs.Common.{◌<◌, All}
use Rattle.cal_table.specs.Snapshots.{HasNumberOf64}
use Rattle.tests_collect.proofs.example.entries_of.Given as goal

abbrev pub invariant-loop-place : goal.invariant-loop-place
invariant-loop-place l = record {
  known : All (λ e. e.attribute < 4) l.entries.items;
  numbers : All HasNumberOf64 l.entries.items;
}

use Rattle.std.proofs.Common.{◌≡◌, ◌*◌, ◌≤◌, length, take}
use Rattle.std.specs.Prelude.{sum_by}
use Rattle.cal_records.specs.Records.{traced}
use Rattle.cal_script.specs.declared.script.Channel.{Channel}
use Rattle.cal_counts.proofs.snapshots.count_traced.Given as goal

-- the channels so far are counted
abbrev pub invariant-loop-channel : goal.invariant-loop-channel
invariant-loop-channel l = record {
  counted : l.count ≡ sum_by (λ (c : Channel). length (traced l.script l.journal c))
      (take l.channel-index l.script.channels);
  few : l.count ≤ 1048576 * l.channel-index;
}

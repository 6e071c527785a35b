use Rattle.std.proofs.Common.{◌≡◌, length, map, take}
use Rattle.std.specs.List.{All}
use Rattle.std.specs.Option.{ForSome}
use Rattle.cal_agg.specs.Numbers.{IsSmall}
use Rattle.cal_context.specs.Snapshots.{meaning}
use Rattle.cal_value.specs.Flat.{flat}
use Rattle.cal_filter.specs.Known.{sought}
use Rattle.cal_filter.specs.Latest.{AreReadyOperands}
use Rattle.cal_filter.specs.Named.{HasSmallNumbers}
use Rattle.cal_filter.specs.Sought.{number_sought}
use Rattle.cal_filter.proofs.operands.fill_numbers.Given as goal

-- the seekers before this one have given their numbers
abbrev pub invariant-loop-place : goal.invariant-loop-place
invariant-loop-place l = record {
  few : length l.numbers.items ≡ l.place;
  small : All (λ number. ForSome number IsSmall) l.numbers.items;
  found : AreReadyOperands l.context l.latest l.snapshot.imms.items l.seekers l.names
      → HasSmallNumbers (meaning l.context l.snapshot)
      → l.numbers.items ≡ map (λ s. number_sought (sought s)
      (flat (meaning l.context l.snapshot))) (take l.place l.seekers);
}

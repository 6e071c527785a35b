use Rattle.std.proofs.Common.{◌≡◌, List, take}
use Rattle.std.specs.List.{All, AllZip}
use Rattle.cal_context.specs.Snapshots.{IsIn, meaning}
use Rattle.cal_ql.specs.declared.query.Let.{Let}
use Rattle.cal_filter.specs.Kept.{with_lets}
use Rattle.cal_filter.specs.Latest.{AreNamed, IsLatest, KnowsNames}
use Rattle.cal_filter.specs.Named.{HasSmallNumbers}
use Rattle.cal_filter.specs.Ready.{IsReadyDefinition}
use Rattle.cal_filter.proofs.filter.apply_all.Given as goal

-- the definitions before this one are applied
abbrev pub invariant-loop-definition : goal.invariant-loop-definition
invariant-loop-definition l = record {
  within : IsIn l.context l.snapshot;
  nodes : l.snapshot.nodes.items ≡ l.fn.snapshot.nodes.items;
  names : l.latest.names ≡ l.fn.latest.names;
  latest : KnowsNames l.context l.fn.latest → IsLatest l.context l.latest l.snapshot.imms.items;
  adds : (lets : List Let) → AllZip (IsReadyDefinition l.context) lets l.definitions
      → All (AreNamed l.fn.latest.names.keys) l.definitions → KnowsNames l.context l.fn.latest
      → HasSmallNumbers (meaning l.context l.fn.snapshot)
      → meaning l.context l.snapshot
      ≡ with_lets (take l.definition-index lets) (meaning l.context l.fn.snapshot);
}

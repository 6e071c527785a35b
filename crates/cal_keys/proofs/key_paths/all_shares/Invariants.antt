use Rattle.std.proofs.Common.{ℕ, true, List, length, map, take}
use Rattle.std.specs.List.{All}
use Rattle.cal_context.specs.Snapshots.{IsBelowRoot}
use Rattle.cal_context.specs.Tree.{Tree, path_at}
use Rattle.cal_value.specs.Flat.{joined}
use Rattle.cal_keys.specs.Shares.{Say}
use Rattle.cal_keys.specs.Sieves.{IsReadySieve}
use Rattle.cal_keys.specs.Takers.{taken_at}
use Rattle.cal_keys.proofs.key_paths.all_shares.Given as goal

abbrev pub invariant-loop-node : goal.invariant-loop-node
invariant-loop-node l = record {
  say : (t : Tree) (names : List (List ℕ)) → IsReadySieve t l.own names l.sieve → All (IsBelowRoot t) l.nodes
      → Say l.own (length names) (λ place. taken_at true names place (joined (map (path_at t) (take l.node-index l.nodes)))) l.all.items;
}

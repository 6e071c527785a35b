use Rattle.std.proofs.Common.{◌≡◌, ◌<◌, length, map, take}
use Rattle.std.specs.List.{All}
use Rattle.cal_value.specs.Flat.{joined}
use Rattle.cal_context.specs.Snapshots.{entry_of}
use Rattle.cal_context.specs.Tree.{path_at}
use Rattle.cal_query.proofs.joining.all_immediates.Given as goal

abbrev pub invariant-loop-node : goal.invariant-loop-node
invariant-loop-node l = record {
  within : All (λ i. i.attribute.0 < length l.context.attributes) l.imms.items;
  entries : map (entry_of l.context) l.imms.items
      ≡ joined (map (path_at l.context) (take l.node-index l.snapshot.nodes.items));
}

use Rattle.std.proofs.Common.{◌≡◌, map, take}
use Rattle.std.specs.List.{All}
use Rattle.cal_context.specs.Tree.{Tree}
use Rattle.cal_filter.specs.Known.{Knows, sought}
use Rattle.cal_filter.specs.Sought.{sought_by}
use Rattle.cal_filter.proofs.operands.seekers_of.Given as goal

-- the names before this one have their seekers
abbrev pub invariant-loop-name : goal.invariant-loop-name
invariant-loop-name l = record {
  same : map sought l.seekers.items ≡ map (sought_by l.op) (take l.name-index l.names);
  knows : (t : Tree) → All (Knows t) l.seekers.items;
}

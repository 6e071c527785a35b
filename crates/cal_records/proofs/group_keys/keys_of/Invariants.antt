use Rattle.std.proofs.Common.{◌≡◌, ◌<◌, ◌++◌, filter, length, map, not, reverse}
use Rattle.cal_context.specs.Tree.{path_at}
use Rattle.cal_profile.specs.Groups.{is_result}
use Rattle.cal_records.specs.Ranks.{key_entry}
use Rattle.cal_records.proofs.group_keys.keys_of.Given as goal

-- what is left of the path, and what was found of it
abbrev pub invariant-loop-link : goal.invariant-loop-link
invariant-loop-link l = record {
  within : l.node.0 < length l.room.paths;
  found : filter (λ e. not (is_result l.aggs e)) (path_at l.room l.fn.node)
      ≡ filter (λ e. not (is_result l.aggs e)) (path_at l.room l.node)
      ++ reverse (map key_entry l.keys.items);
}

abbrev pub decreases-loop-link : goal.decreases-loop-link
decreases-loop-link l = l.node.0

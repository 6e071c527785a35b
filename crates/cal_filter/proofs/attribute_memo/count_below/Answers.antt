use Rattle.std.proofs.Common.{◌≤◌, ◌<◌, arith, rules, get_or}
use Rattle.std.proofs.Common.{ltb, ltb-true, ltb-false}
use Rattle.std.proofs.lemmas.List.Sorted.{IsPartitionPoint-from_clause, IsPartitionedBy-ltb}
use Rattle.cal_filter.proofs.attribute_memo.count_below.Goals as goal

pub returns-clause-below : goal.returns-clause-below
returns-clause-below c =
    let parted = IsPartitionedBy-ltb (λ place. place) _ c.args.limit c.requires in
    let point = IsPartitionPoint-from_clause (λ place. ltb place c.args.limit) _ _
    c.partition_point.ensures.partitioned parted (λ a r q k. search rules) in
    λ k d short. ltb-true _ _ (point.0 k d (omega arith) short)

pub returns-clause-behind : goal.returns-clause-behind
returns-clause-behind c =
    let parted = IsPartitionedBy-ltb (λ place. place) _ c.args.limit c.requires in
    let point = IsPartitionPoint-from_clause (λ place. ltb place c.args.limit) _ _
    c.partition_point.ensures.partitioned parted (λ a r q k. search rules) in
    λ k d late short. ltb-false _ _ (point.1 k d late short)

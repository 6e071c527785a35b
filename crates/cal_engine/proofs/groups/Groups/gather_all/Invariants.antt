use Rattle.std.proofs.Common.{◌≡◌, ◌++◌, List, take}
use Rattle.cal_ql.specs.declared.query.Query.{Query}
use Rattle.cal_value.specs.declared.record.Rec.{Rec}
use Rattle.cal_engine.specs.Folding.{groups_over}
use Rattle.cal_keys.specs.Groups.{groups_of}
use Rattle.cal_engine.proofs.Regroups.{regrouped}
use Rattle.cal_engine.proofs.groups.Groups.gather_all.Given as goal

-- the groups so far are added
abbrev pub invariant-loop-number : goal.invariant-loop-number
invariant-loop-number l = (q : Query) (rs ss : List Rec) → l.fn.self ≡ groups_over q rs → l.other ≡ groups_over q ss
    → l.self ≡ groups_over q (rs ++ regrouped q ss (take l.number (groups_of q.group ss)))

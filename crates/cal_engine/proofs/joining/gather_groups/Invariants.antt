use Rattle.std.proofs.Common.{List}
use Rattle.cal_ql.specs.declared.query.Query.{Query}
use Rattle.cal_value.specs.declared.record.Rec.{Rec}
use Rattle.cal_engine.specs.Numbered.{AreGroups}
use Rattle.cal_engine.proofs.MergedGroups.{so_far}
use Rattle.cal_engine.proofs.joining.gather_groups.Given as goal

-- the groups so far are put behind
abbrev pub invariant-loop-number : goal.invariant-loop-number
invariant-loop-number l = (q : Query) (rs ss : List Rec) → AreGroups l.room q rs l.fn.groups → AreGroups l.its q ss l.others
    → AreGroups l.room q (so_far q rs ss l.number) l.groups

-- Answers that say the same of the same groups, in whatever order.
use Rattle.std.specs.Prelude.{◌≡◌, ◌↔◌, List, Contains}
use Rattle.std.specs.List.{filter_map}
use Rattle.cal_engine.specs.Answers.{answer_of}
use Rattle.cal_keys.specs.Groups.{groups_of}
use Rattle.cal_engine.specs.Rows.{results}
use Rattle.cal_filter.specs.Kept.{kept}
use Rattle.cal_ql.specs.declared.query.Query.{Query}
use Rattle.cal_value.specs.declared.record.Rec.{Rec}

-- Two lists of records have the same groups, and each group the same results.
pub record SameGroups (q : Query) (rs ss : List Rec) : Type 0 where
  pub groups : (group : Rec)
      → Contains (groups_of q.group rs) group ↔ Contains (groups_of q.group ss) group
  pub results : (group : Rec) → results q rs group ≡ results q ss group

-- so it is of what LET and WHERE keep of them
abbrev pub AnswerAlike : Query → List Rec → List Rec → Type 0
AnswerAlike q rs ss = SameGroups q (filter_map (kept q) rs) (filter_map (kept q) ss)

-- the same rows, in whatever order
abbrev pub SameRows : List Rec → List Rec → Type 0
SameRows rows others = (row : Rec) → Contains rows row ↔ Contains others row

-- Records answer a query for others: as maps from groups to results both answers are the same, and
-- they have the same rows. The order of rows isn't promised.
pub record AnswersFor (q : Query) (rs ss : List Rec) : Type 0 where
  pub alike : AnswerAlike q rs ss
  pub rows : SameRows (answer_of q rs).rows.rows (answer_of q ss).rows.rows

-- The rows that a trigger lets through, and the query that asks for them.
use Rattle.std.specs.Prelude.{List, ◌++◌, filter}
use Rattle.cal_filter.specs.Conditions.{where_holds}
use Rattle.cal_ql.specs.declared.query.Cond.{Cond}
use Rattle.cal_ql.specs.declared.query.Query.{Query}
use Rattle.cal_value.specs.declared.record.Rec.{Rec}

-- the rows of which conditions hold, in order
abbrev pub let_through : List Cond → List Rec → List Rec
let_through conds rows = filter (where_holds conds) rows

-- a query with conditions put in front of those of its WHERE
abbrev pub with_conditions : List Cond → Query → Query
with_conditions conds q = record {
  lets = q.lets;
  select = q.select;
  aggs = q.aggs;
  conds = conds ++ q.conds;
  group = q.group;
  order = q.order;
  format = q.format;
}

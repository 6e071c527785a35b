-- What a filter answers.
use Rattle.std.specs.Prelude.{◌≡◌, Bool}
use Rattle.cal_ql.specs.declared.query.Query.{Query}
use Rattle.cal_value.specs.declared.record.Rec.{Rec}
use Rattle.cal_filter.specs.Conditions.{where_holds}
use Rattle.cal_filter.specs.Kept.{with_lets}

-- a record has got the entries that LET adds, and the answer is whether WHERE keeps it then
pub record IsFiltered (q : Query) (r full : Rec) (keeps : Bool) : Type 0 where
  pub lets : full ≡ with_lets q.lets r
  pub kept : keeps ≡ where_holds q.conds full

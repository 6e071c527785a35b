-- What a function does that decides conditions.
use Rattle.std.specs.Prelude.{◌≡◌, Bool, List, ◌&&◌}
use denote.Ref.{Bor}
use Rattle.cal_filter.specs.Conditions.{test_holds, where_holds}
use Rattle.cal_filter.specs.Named.{is_named}
use Rattle.cal_ql.specs.declared.query.Cond.{Cond}
use Rattle.cal_value.specs.declared.attribute.Entry.{Entry}
use Rattle.cal_value.specs.declared.record.Rec.{Rec}

-- The function may be called on every record, and answers whether all conditions hold of it: `pre`
-- are the records on which it may be called, and `post` says which answers a call may give.
pub record Decides (conds : List Cond) (pre : Bor Rec → Type 0) (post : Bor Rec → Bool → Type 0)
    : Type 0 where
  pub callable : (rec : Bor Rec) → pre rec
  pub answers : (rec : Bor Rec) (result : Bool) → post rec result
      → result ≡ where_holds conds rec.now

-- whether an entry has a condition's name and passes its test
abbrev pub speaks_of : Cond → Entry → Bool
speaks_of c e = is_named c.name e && test_holds c.test e

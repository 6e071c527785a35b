-- What a condition of WHERE asks of a record (CalQL).
use Rattle.std.specs.Prelude.{ℕ, Bool, true, false, not, List, if◌then◌else◌}
use Rattle.std.specs.List.{list_all, list_any}
use Rattle.std.specs.Option.{option_map_or}
use Rattle.std.specs.Ordering.{is_eq, is_ge, is_gt, is_le, is_lt}
use Rattle.std.specs.declared.cmp.Ordering.{Ordering}
use Rattle.cal_ql.specs.declared.query.Cond.{Cond}
use Rattle.cal_ql.specs.declared.query.Test as tests
use Rattle.cal_ql.specs.declared.query.Test.TheVariants as test
use Rattle.cal_value.specs.Order.{value_cmp}
use Rattle.cal_value.specs.Reading.{value_of}
use Rattle.cal_value.specs.declared.attribute.Entry.{Entry}
use Rattle.cal_value.specs.declared.record.Rec.{Rec}
use Rattle.cal_filter.specs.Named.{entries_named}

-- Whether an entry's value stands so to the value that a text writes as the entry's kind. A text
-- that writes none stands to no value.
abbrev pub compares : (Ordering → Bool) → List ℕ → Entry → Bool
compares stands text e =
    option_map_or (λ v. stands (value_cmp e.value v)) (value_of e.attr.kind text) false

-- whether a test holds of an entry
abbrev pub test_holds : tests.Test → Entry → Bool
test_holds test.Has e = true
test_holds (test.Eq text) e = compares is_eq text e
test_holds (test.Lt text) e = compares is_lt text e
test_holds (test.Gt text) e = compares is_gt text e
test_holds (test.Le text) e = compares is_le text e
test_holds (test.Ge text) e = compares is_ge text e

-- whether a condition holds of a record: its test of some entry of its name, or with `not` of none
abbrev pub cond_holds : Cond → Rec → Bool
cond_holds c r =
    let some = list_any (test_holds c.test) (entries_named c.name r) in
    if c.not then not some else some

-- whether every condition holds
abbrev pub where_holds : List Cond → Rec → Bool
where_holds conds r = list_all (λ c. cond_holds c r) conds

-- What is looked for among the entries of a record.
use Rattle.std.specs.Prelude.{ℕ, Bool, true, false, ◌&&◌, List, filter, slice_index_or}
use Rattle.std.specs.Prelude.{Option, None, is_some, option_and_then, option_map}
use Rattle.std.specs.List.{last_or}
use Rattle.std.specs.Option.{option_map_or}
use Rattle.std.specs.Ordering.{is_eq, is_ge, is_gt, is_le, is_lt}
use Rattle.std.specs.declared.cmp.Ordering.{Ordering}
use Rattle.cal_agg.specs.declared.num.Num.{Num}
use Rattle.cal_ql.specs.declared.names.Op as ops
use Rattle.cal_ql.specs.declared.names.Op.TheVariants as op
use Rattle.cal_value.specs.Order.{value_cmp}
use Rattle.cal_value.specs.declared.attribute.Entry.{Entry}
use Rattle.cal_value.specs.declared.kind.Kind as kinds
use Rattle.cal_value.specs.declared.kind.Kind.TheVariants as kind
use Rattle.cal_value.specs.declared.variant.Variant.{Variant}
use Rattle.cal_filter.specs.Named.{is_named}
use Rattle.cal_filter.specs.Numbers.{number_in, whole_in}
use Rattle.cal_filter.specs.declared.relation.Relation as relations
use Rattle.cal_filter.specs.declared.relation.Relation.TheVariants as relation
use Rattle.cal_filter.specs.declared.wanted.Wanted as wants
use Rattle.cal_filter.specs.declared.wanted.Wanted.TheVariants as wanted

-- the place of a kind among all kinds
abbrev pub kind_place : kinds.Kind → ℕ
kind_place kind.Usr = 0
kind_place kind.Int = 1
kind_place kind.Uint = 2
kind_place kind.Str = 3
kind_place kind.Addr = 4
kind_place kind.Double = 5
kind_place kind.Bool = 6
kind_place kind.TypeName = 7
kind_place kind.Ptr = 8

-- the value that is kept for a kind
abbrev pub value_for : List (Option Variant) → kinds.Kind → Option Variant
value_for values k = slice_index_or values (kind_place k) None

-- whether two values whose order is this one stand so
abbrev pub stands : relations.Relation → Ordering → Bool
stands relation.Equal = is_eq
stands relation.Less = is_lt
stands relation.Greater = is_gt
stands relation.AtMost = is_le
stands relation.AtLeast = is_ge

-- whether a value of an attribute of this kind is wanted
abbrev pub passes : wants.Wanted → kinds.Kind → Variant → Bool
passes wanted.Any k v = true
passes wanted.Number k v = is_some (number_in v)
passes wanted.Whole k v = is_some (whole_in v)
passes (wanted.Compared c) k v =
    option_map_or (λ w. stands c.relation (value_cmp v w)) (value_for c.values.items k) false

-- an entry that has a name, and is wanted
pub record Sought : Type 0 where
  pub name : List ℕ
  pub wanted : wants.Wanted

-- whether an entry is sought
abbrev pub seeks : Sought → Entry → Bool
seeks s e = is_named s.name e && passes s.wanted e.attr.kind e.value

-- the last entry that is sought
abbrev pub last_sought : Sought → List Entry → Option Entry
last_sought s es = last_or None (filter (seeks s) es)

-- its value
abbrev pub value_sought : Sought → List Entry → Option Variant
value_sought s es = option_map (λ e. e.value) (last_sought s es)

-- its number
abbrev pub number_sought : Sought → List Entry → Option Num
number_sought s es = option_and_then number_in (value_sought s es)

-- an operator wants numbers, but for `first`
abbrev pub wanted_by : ops.Op → wants.Wanted
wanted_by op.First = wanted.Any
wanted_by _ = wanted.Number

-- the last number of a name
abbrev pub number_of : List ℕ → Sought
number_of name = record { name = name; wanted = wanted.Number }

-- the last whole number of a name
abbrev pub whole_of : List ℕ → Sought
whole_of name = record { name = name; wanted = wanted.Whole }

-- the last value of a name, whatever it is
abbrev pub any_of : List ℕ → Sought
any_of name = record { name = name; wanted = wanted.Any }

-- what an operator seeks by a name
abbrev pub sought_by : ops.Op → List ℕ → Sought
sought_by o name = record { name = name; wanted = wanted_by o }

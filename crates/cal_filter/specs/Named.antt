-- The entries of a name in a record.
use Rattle.std.specs.Prelude.{ℕ, Bool, List, filter, Option, None}
use Rattle.std.specs.List.{All, filter_map, last_or}
use Rattle.std.specs.Ordering.{eq_by_cmp}
use Rattle.cal_agg.specs.declared.num.Num.{Num}
use Rattle.cal_value.specs.Flat.{flat}
use Rattle.cal_value.specs.Reading.{IsSmall}
use Rattle.cal_value.specs.Texts.{text_cmp}
use Rattle.cal_value.specs.declared.attribute.Entry.{Entry}
use Rattle.cal_value.specs.declared.record.Rec.{Rec}
use Rattle.cal_filter.specs.Numbers.{number_in}

-- whether an entry has this name
abbrev pub is_named : List ℕ → Entry → Bool
is_named name e = eq_by_cmp text_cmp e.attr.name name

-- the entries of a name, in the order of `flat`
abbrev pub entries_named : List ℕ → Rec → List Entry
entries_named name r = filter (is_named name) (flat r)

-- the last entry of a name
abbrev pub last_entry : List ℕ → Rec → Option Entry
last_entry name r = last_or None (entries_named name r)

-- the last number of a name: that of the last of its entries whose value is a number
abbrev pub last_number : List ℕ → Rec → Option Num
last_number name r = last_or None (filter_map (λ e. number_in e.value) (entries_named name r))

-- each Int and Fixed of a record is at most 2^86 in magnitude
abbrev pub HasSmallNumbers : Rec → Type 0
HasSmallNumbers r = All (λ e. IsSmall e.value) (flat r)

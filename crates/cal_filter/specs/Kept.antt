-- What LET and WHERE make of a record.
use Rattle.std.specs.Prelude.{ℕ, List, [], ◌∷◌, ◌++◌, fold, Option, Some, None, if◌then◌else◌}
use Rattle.cal_ql.specs.declared.query.Let.{Let}
use Rattle.cal_ql.specs.declared.query.Query.{Query}
use Rattle.cal_value.specs.Values.{kind_of}
use Rattle.cal_value.specs.declared.attribute.Attribute.{Attribute}
use Rattle.cal_value.specs.declared.attribute.Entry.{Entry}
use Rattle.cal_value.specs.declared.kind.Kind.{Kind}
use Rattle.cal_value.specs.declared.record.Rec.{Rec}
use Rattle.cal_value.specs.declared.variant.Variant.{Variant}
use Rattle.cal_filter.specs.Conditions.{where_holds}
use Rattle.cal_filter.specs.Lets.{let_value}

-- the attribute of a result, that of LET or of a kernel: its properties are 65 (Giltmoth's rule)
abbrev pub result_attribute : List ℕ → Kind → Attribute
result_attribute name kind = record { name = name; kind = kind; props = record { 0 = 65 } }

-- the entry of a result, whose kind is the value's
abbrev pub result_entry : List ℕ → Variant → Entry
result_entry name value =
    record { attr = result_attribute name (kind_of value); value = value }

-- a record with a result at its end, if there is one
abbrev pub with_result : Rec → List ℕ → Option Variant → Rec
with_result r name None = r
with_result r name (Some value) =
    record { paths = r.paths; imms = r.imms ++ result_entry name value ∷ [] }

-- a record with the entry of a definition, if that has a value
abbrev pub with_let : Rec → Let → Rec
with_let r l = with_result r l.name (let_value l r)

-- a record with the entries of definitions, which are applied in order
abbrev pub with_lets : List Let → Rec → Rec
with_lets lets r = fold with_let r lets

-- What a query makes of a record: LET adds its entries, and then WHERE keeps it or not.
abbrev pub kept : Query → Rec → Option Rec
kept q r =
    let full = with_lets q.lets r in
    if where_holds q.conds full then Some full else None

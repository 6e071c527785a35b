use Rattle.std.specs.Prelude.{ℕ, ℤ, pos, List, [], unwrap_or, if◌then◌else◌}
use Rattle.std.specs.declared.cmp.Ordering.{Ordering}
use Rattle.std.specs.Ordering.{nat_cmp, int_cmp, on, then_cmp}
use Rattle.std.specs.Cmp.Lexicographic.{slice_cmp}
use Rattle.cal_value.specs.Kinds.{kind_node}
use Rattle.cal_value.specs.Measures.{measure}
use Rattle.cal_value.specs.Texts.{text_cmp}
use Rattle.cal_value.specs.declared.kind.Kind as kinds
use Rattle.cal_value.specs.declared.props.Props.{Props}
use Rattle.cal_value.specs.declared.attribute.Attribute.{Attribute}
use Rattle.cal_value.specs.declared.attribute.Entry.{Entry}
use Rattle.cal_value.specs.declared.record.Rec.{Rec}
use Rattle.cal_value.specs.declared.variant.Variant as variants
use Rattle.cal_value.specs.declared.variant.Variant.TheVariants as variant

-- Kinds are ordered by their nodes, and properties as numbers.
abbrev pub kind_cmp : kinds.Kind → kinds.Kind → Ordering
kind_cmp = on kind_node nat_cmp

abbrev pub props_cmp : Props → Props → Ordering
props_cmp = on (λ p. p.0) nat_cmp

-- the class of a value: numbers come first, then truths, addresses, kinds, and texts of four kinds
abbrev pub value_class : variants.Variant → ℕ
value_class (variant.Int n) = 0
value_class (variant.Uint n) = 0
value_class (variant.Fixed n) = 0
value_class (variant.Bool b) = 1
value_class (variant.Addr a) = 2
value_class (variant.Kind k) = 3
value_class (variant.Text t) = 4
value_class (variant.Real t) = 5
value_class (variant.Usr t) = 6
value_class (variant.Ptr t) = 7

-- The number by which a value is ordered in its class: a number's measure, false before true,
-- an address, and a kind by its node. The texts of a class are ordered by their bytes alone.
abbrev pub value_number : variants.Variant → ℤ
value_number (variant.Bool b) = if b then pos 1 else pos 0
value_number (variant.Addr a) = pos a
value_number (variant.Kind k) = pos (kind_node k)
value_number v = unwrap_or (measure v) (pos 0)

-- of numbers with one measure an Int comes first, then a Uint, and then a Fixed
abbrev pub value_rank : variants.Variant → ℕ
value_rank (variant.Uint n) = 1
value_rank (variant.Fixed n) = 2
value_rank _ = 0

-- the bytes by which a text is ordered in its class
abbrev pub value_bytes : variants.Variant → List ℕ
value_bytes (variant.Text t) = t
value_bytes (variant.Real t) = t
value_bytes (variant.Usr t) = t
value_bytes (variant.Ptr t) = t
value_bytes _ = []

-- the order of values (Giltmoth's rule): by class, number, rank and bytes
abbrev pub value_cmp : variants.Variant → variants.Variant → Ordering
value_cmp =
    then_cmp (on value_class nat_cmp)
    (then_cmp (on value_number int_cmp)
    (then_cmp (on value_rank nat_cmp) (on value_bytes text_cmp)))

-- attributes are ordered by name, then by kind, then by properties
abbrev pub attribute_cmp : Attribute → Attribute → Ordering
attribute_cmp =
    then_cmp (on (λ a. a.name) text_cmp)
    (then_cmp (on (λ a. a.kind) kind_cmp) (on (λ a. a.props) props_cmp))

-- entries are ordered by attribute, then by value
abbrev pub entry_cmp : Entry → Entry → Ordering
entry_cmp = then_cmp (on (λ e. e.attr) attribute_cmp) (on (λ e. e.value) value_cmp)

-- paths are ordered entry by entry, a proper prefix first
abbrev pub path_cmp : List Entry → List Entry → Ordering
path_cmp = slice_cmp entry_cmp

-- groups are ordered by their paths, path by path, and then by their immediates
abbrev pub group_cmp : Rec → Rec → Ordering
group_cmp = then_cmp (on (λ r. r.paths) (slice_cmp path_cmp)) (on (λ r. r.imms) path_cmp)

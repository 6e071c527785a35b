use Rattle.std.specs.Prelude.{◌≡◌, ℕ, ℤ, pos, negsuc, Bool, true, false, if◌then◌else◌}
use Rattle.std.proofs.Common.{refl, ap, arith}
use Rattle.std.specs.declared.cmp.Ordering.TheVariants.{Equal}
use Rattle.std.specs.Ordering.{nat_cmp, int_cmp, ordering_then}
use Rattle.std.specs.Cmp.{then_total, on_total}
use Rattle.std.proofs.lemmas.Int.{ints}
use Rattle.cal_value.specs.Kinds.{kind_node}
use Rattle.cal_value.specs.Measures.{nanos}
use Rattle.cal_value.specs.Texts.{text_cmp}
use Rattle.cal_value.specs.Order.{kind_cmp, props_cmp, value_class, value_number, value_rank}
use Rattle.cal_value.specs.Order.{value_bytes, value_cmp, attribute_cmp, entry_cmp, path_cmp}
use Rattle.cal_value.specs.Order.{group_cmp}
use Rattle.cal_value.specs.ExactOrder.{IsExactOrder, exact_first, nat_exact, int_exact, lists_exact}
use Rattle.cal_value.specs.ExactOrder.{text_exact}
use Rattle.cal_value.specs.declared.kind.Kind as kinds
use Rattle.cal_value.specs.declared.kind.Kind.TheVariants as kind
use Rattle.cal_value.specs.declared.props.Props.{Props}
use Rattle.cal_value.specs.declared.attribute.Attribute.{Attribute}
use Rattle.cal_value.specs.declared.attribute.Entry.{Entry}
use Rattle.cal_value.specs.declared.record.Rec.{Rec}
use Rattle.cal_value.specs.declared.variant.Variant as variants
use Rattle.cal_value.specs.declared.variant.Variant.TheVariants as variant

-- no two kinds have one node
pub kind_node-one : (j k : kinds.Kind) → kind_node j ≡ kind_node k → j ≡ k
kind_node-one kind.Usr kind.Usr e = refl
kind_node-one kind.Int kind.Int e = refl
kind_node-one kind.Uint kind.Uint e = refl
kind_node-one kind.Str kind.Str e = refl
kind_node-one kind.Addr kind.Addr e = refl
kind_node-one kind.Double kind.Double e = refl
kind_node-one kind.Bool kind.Bool e = refl
kind_node-one kind.TypeName kind.TypeName e = refl
kind_node-one kind.Ptr kind.Ptr e = refl
kind_node-one _ _ e = absurd (omega arith)

-- each order of this crate tells any two values apart: kinds, properties, values and what is made
-- of them
pub kind_exact : IsExactOrder kind_cmp
kind_exact = record {
  total = on_total kind_node nat_exact.total;
  exact = λ j k e. kind_node-one j k (nat_exact.exact _ _ e);
}

pub props_exact : IsExactOrder props_cmp
props_exact = record {
  total = on_total (λ (p : Props). p.0) nat_exact.total;
  exact = λ p q e. let h = nat_exact.exact p.0 q.0 e in λ i. record { 0 = h i };
}

-- a truth is known by its number
truth_number : (a b : Bool) → (if a then pos 1 else pos 0) ≡ (if b then pos 1 else pos 0) → a ≡ b
truth_number true true e = refl
truth_number false false e = refl
truth_number _ _ e = cc

pos_one : (a b : ℕ) → pos a ≡ pos b → a ≡ b
pos_one a b e = cc

-- no two whole numbers have one measure
nanos_one : (a b : ℤ) → nanos a ≡ nanos b → a ≡ b
nanos_one (pos a) (pos b) e = omega (arith, ints)
nanos_one (pos a) (negsuc b) e = omega (arith, ints)
nanos_one (negsuc a) (pos b) e = omega (arith, ints)
nanos_one (negsuc a) (negsuc b) e = omega (arith, ints)

-- a value is known by its class, its number, its rank and its bytes
known :
    (x y : variants.Variant) → value_class x ≡ value_class y → value_number x ≡ value_number y
    → value_rank x ≡ value_rank y → value_bytes x ≡ value_bytes y → x ≡ y
known (variant.Int a) (variant.Int b) c n s t = ap variant.Int (nanos_one a b n)
known (variant.Uint a) (variant.Uint b) c n s t =
    ap variant.Uint (pos_one a b (nanos_one (pos a) (pos b) n))
known (variant.Fixed a) (variant.Fixed b) c n s t = ap variant.Fixed n
known (variant.Bool a) (variant.Bool b) c n s t = ap variant.Bool (truth_number a b n)
known (variant.Addr a) (variant.Addr b) c n s t = ap variant.Addr (pos_one a b n)
known (variant.Kind a) (variant.Kind b) c n s t =
    ap variant.Kind (kind_node-one a b (pos_one (kind_node a) (kind_node b) n))
known (variant.Text a) (variant.Text b) c n s t = ap variant.Text t
known (variant.Real a) (variant.Real b) c n s t = ap variant.Real t
known (variant.Usr a) (variant.Usr b) c n s t = ap variant.Usr t
known (variant.Ptr a) (variant.Ptr b) c n s t = ap variant.Ptr t
known (variant.Int a) (variant.Uint b) c n s t = absurd (omega (arith, s))
known (variant.Int a) (variant.Fixed b) c n s t = absurd (omega (arith, s))
known (variant.Uint a) (variant.Int b) c n s t = absurd (omega (arith, s))
known (variant.Uint a) (variant.Fixed b) c n s t = absurd (omega (arith, s))
known (variant.Fixed a) (variant.Int b) c n s t = absurd (omega (arith, s))
known (variant.Fixed a) (variant.Uint b) c n s t = absurd (omega (arith, s))
known _ _ c n s t = absurd (omega (arith, c))

value_tied : (x y : variants.Variant) → value_cmp x y ≡ Equal → x ≡ y
value_tied x y e =
    let bytes = text_cmp (value_bytes x) (value_bytes y) in
    let rank = ordering_then (nat_cmp (value_rank x) (value_rank y)) bytes in
    let number = ordering_then (int_cmp (value_number x) (value_number y)) rank in
    let c = exact_first nat_exact (value_class x) (value_class y) number e in
    let n = exact_first int_exact (value_number x) (value_number y) rank c.1 in
    let s = exact_first nat_exact (value_rank x) (value_rank y) bytes n.1 in
    known x y c.0 n.0 s.0 (text_exact.exact (value_bytes x) (value_bytes y) s.1)

pub value_exact : IsExactOrder value_cmp
value_exact = record {
  total = then_total (on_total value_class nat_exact.total)
      (then_total (on_total value_number int_exact.total)
      (then_total (on_total value_rank nat_exact.total) (on_total value_bytes text_exact.total)));
  exact = value_tied;
}

attribute_tied : (x y : Attribute) → attribute_cmp x y ≡ Equal → x ≡ y
attribute_tied x y e =
    let props = props_cmp x.props y.props in
    let more = ordering_then (kind_cmp x.kind y.kind) props in
    let name = exact_first text_exact x.name y.name more e in
    let kind = exact_first kind_exact x.kind y.kind props name.1 in
    let same = props_exact.exact x.props y.props kind.1 in
    λ i. record { name = name.0 i; kind = kind.0 i; props = same i }

pub attribute_exact : IsExactOrder attribute_cmp
attribute_exact = record {
  total = then_total (on_total (λ (a : Attribute). a.name) text_exact.total)
      (then_total (on_total (λ (a : Attribute). a.kind) kind_exact.total)
      (on_total (λ (a : Attribute). a.props) props_exact.total));
  exact = attribute_tied;
}

entry_tied : (x y : Entry) → entry_cmp x y ≡ Equal → x ≡ y
entry_tied x y e =
    let attr = exact_first attribute_exact x.attr y.attr (value_cmp x.value y.value) e in
    let value = value_exact.exact x.value y.value attr.1 in
    λ i. record { attr = attr.0 i; value = value i }

pub entry_exact : IsExactOrder entry_cmp
entry_exact = record {
  total = then_total (on_total (λ (e : Entry). e.attr) attribute_exact.total)
      (on_total (λ (e : Entry). e.value) value_exact.total);
  exact = entry_tied;
}

pub path_exact : IsExactOrder path_cmp
path_exact = lists_exact entry_exact

group_tied : (x y : Rec) → group_cmp x y ≡ Equal → x ≡ y
group_tied x y e =
    let paths = exact_first (lists_exact path_exact) x.paths y.paths (path_cmp x.imms y.imms) e in
    let imms = path_exact.exact x.imms y.imms paths.1 in
    λ i. record { paths = paths.0 i; imms = imms i }

pub group_exact : IsExactOrder group_cmp
group_exact = record {
  total = then_total (on_total (λ (r : Rec). r.paths) (lists_exact path_exact).total)
      (on_total (λ (r : Rec). r.imms) path_exact.total);
  exact = group_tied;
}

-- the orders of this crate, for a proof that needs any of them
pub ruleset exact_orders = (
  text_exact,
  kind_exact,
  props_exact,
  value_exact,
  attribute_exact,
  entry_exact,
  path_exact,
  group_exact,
)

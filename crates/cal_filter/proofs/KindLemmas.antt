-- What is kept for each kind.
use Rattle.std.proofs.Common.{◌≡◌, ◌∙◌, ℕ, List, map, Option, false, refl, ap}
use Rattle.std.specs.Option.{option_map_or}
use Rattle.cal_value.specs.Kinds.{every_kind}
use Rattle.cal_value.specs.Order.{value_cmp}
use Rattle.cal_value.specs.Reading.{value_of}
use Rattle.cal_value.specs.declared.attribute.Entry.{Entry}
use Rattle.cal_value.specs.declared.kind.Kind as kinds
use Rattle.cal_value.specs.declared.kind.Kind.TheVariants as kind
use Rattle.cal_value.specs.declared.variant.Variant.{Variant}
use Rattle.cal_filter.specs.Conditions.{compares}
use Rattle.cal_filter.specs.Sought.{passes, stands, value_for}
use Rattle.cal_filter.specs.declared.wanted.Compared.{Compared}
use Rattle.cal_filter.specs.declared.wanted.Wanted.TheVariants as wanted

-- what is kept for every kind is kept for each
pub value_for_each : (f : kinds.Kind → Option Variant) (k : kinds.Kind)
    → value_for (map f every_kind) k ≡ f k
value_for_each f kind.Usr = refl
value_for_each f kind.Int = refl
value_for_each f kind.Uint = refl
value_for_each f kind.Str = refl
value_for_each f kind.Addr = refl
value_for_each f kind.Double = refl
value_for_each f kind.Bool = refl
value_for_each f kind.TypeName = refl
value_for_each f kind.Ptr = refl

-- so comparing to what is kept is comparing to what the text writes
pub compared_holds : (c : Compared) (text : List ℕ) (e : Entry)
    → c.values.items ≡ map (λ k. value_of k text) every_kind
    → passes (wanted.Compared c) e.attr.kind e.value ≡ compares (stands c.relation) text e
compared_holds c text e kept =
    ap (λ values. option_map_or (λ w. stands c.relation (value_cmp e.value w))
    (value_for values e.attr.kind) false) kept
    ∙ ap (λ v. option_map_or (λ w. stands c.relation (value_cmp e.value w)) v false)
    (value_for_each (λ k. value_of k text) e.attr.kind)

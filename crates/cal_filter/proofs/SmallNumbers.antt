-- LET keeps numbers small.
use Rattle.std.proofs.Common.{◌≡◌, ℕ, ◌^◌, ◌≤◌, Bool, true, false, List, [], ◌∷◌, map, refl, subst}
use Rattle.std.proofs.Common.{Option, None, Some, option_map, option_and_then, arith}
use Rattle.std.specs.List.{All}
use Rattle.std.specs.Option.{ForSome}
use Rattle.std.specs.Prelude.{nat_le, unsigned_abs, if◌then◌else◌}
use Rattle.std.proofs.lemmas.Bool.Decides.{nat_tests}
use Rattle.std.proofs.lemmas.List.{append_assoc}
use Rattle.std.proofs.lemmas.List.Elements.{All-push}
use Rattle.cal_agg.specs.Numbers.{number}
use Rattle.cal_agg.specs.declared.num.Num.{Num}
use Rattle.cal_agg.specs.declared.num.Num.TheVariants.{Whole, Fixed}
use Rattle.cal_ql.specs.declared.names.Op as ops
use Rattle.cal_ql.specs.declared.names.Op.TheVariants as op
use Rattle.cal_ql.specs.declared.query.Let.{Let}
use Rattle.cal_value.specs.Flat.{flat, joined}
use Rattle.cal_value.specs.Reading.{IsSmall}
use Rattle.cal_value.specs.declared.attribute.Entry.{Entry}
use Rattle.cal_value.specs.declared.record.Rec.{Rec}
use Rattle.cal_value.specs.declared.variant.Variant.{Variant}
use Rattle.cal_filter.specs.Kept.{result_entry, with_let, with_lets, with_result}
use Rattle.cal_filter.specs.Lets.{first_value, let_value, limited, operation, value_by}
use Rattle.cal_filter.specs.Named.{last_entry, last_number, HasSmallNumbers}
use Rattle.cal_filter.specs.Numbers.{value_of_number}
use Rattle.cal_filter.proofs.OperandLemmas.{last_entry_small}

number_small : (m : Num) (b : Bool) → nat_le (unsigned_abs (number m)) (2 ^ 86) ≡ b
    → ForSome (option_map value_of_number (if b then Some m else None)) IsSmall
number_small m false is = λ v e. cc
number_small (Whole n) true is = λ v e.
    let small : unsigned_abs n ≤ 2 ^ 86 = grind (arith, nat_tests) in
    let same : value_of_number (Whole n) ≡ v = cc in subst IsSmall same small
number_small (Fixed n) true is = λ v e.
    let small : unsigned_abs n ≤ 2 ^ 86 = grind (arith, nat_tests) in
    let same : value_of_number (Fixed n) ≡ v = cc in subst IsSmall same small

limited_small : (o : Option Num)
    → ForSome (option_map value_of_number (option_and_then limited o)) IsSmall
limited_small None = λ v e. cc
limited_small (Some m) = number_small m (nat_le (unsigned_abs (number m)) (2 ^ 86)) refl

first_next : (name : List ℕ) (names : List (List ℕ)) (r : Rec) → HasSmallNumbers r
    → ForSome (first_value names r) IsSmall → (o : Option Entry) → last_entry name r ≡ o
    → ForSome (first_value (name ∷ names) r) IsSmall
first_next name names r small rest None is = rw is rest
first_next name names r small rest (Some x) is = rw is (λ v e.
    let same : x.value ≡ v = cc in subst IsSmall same (last_entry_small name r small x is))

first_small : (names : List (List ℕ)) (r : Rec) → HasSmallNumbers r
    → ForSome (first_value names r) IsSmall
first_small [] r small = λ v e. cc
first_small (name ∷ names) r small =
    first_next name names r small (first_small names r small) (last_entry name r) refl

let_small : (l : Let) (o : ops.Op) (r : Rec) → HasSmallNumbers r
    → ForSome (value_by o l.n l.args r) IsSmall
let_small l op.First r small = first_small l.args r small
let_small l op.Truncate r small = limited_small (operation op.Truncate l.n (map (λ name. last_number name r) l.args))
let_small l op.Scale r small = limited_small (operation op.Scale l.n (map (λ name. last_number name r) l.args))
let_small l op.Ratio r small = limited_small (operation op.Ratio l.n (map (λ name. last_number name r) l.args))
let_small l op.Sum r small = limited_small (operation op.Sum l.n (map (λ name. last_number name r) l.args))

result_small : (r : Rec) (name : List ℕ) (v : Option Variant) → HasSmallNumbers r
    → ForSome v IsSmall → HasSmallNumbers (with_result r name v)
result_small r name None small value = small
result_small r name (Some v) small value =
    subst (All (λ e. IsSmall e.value)) (append_assoc (joined r.paths) r.imms (result_entry name v ∷ []))
    (All-push (λ e. IsSmall e.value) (flat r) (result_entry name v) small (value v refl))

pub with_let_small : (r : Rec) (l : Let) → HasSmallNumbers r → HasSmallNumbers (with_let r l)
with_let_small r l small = result_small r l.name (let_value l r) small (let_small l l.op r small)

pub with_lets_small : (lets : List Let) (r : Rec) → HasSmallNumbers r
    → HasSmallNumbers (with_lets lets r)
with_lets_small [] r small = small
with_lets_small (l ∷ lets) r small = with_lets_small lets (with_let r l) (with_let_small r l small)

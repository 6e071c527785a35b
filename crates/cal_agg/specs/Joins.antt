-- The laws of merging, whether numbers are added or an end of them is taken.
use Rattle.std.specs.Prelude.{◌≡◌, ℤ, ◌+ℤ◌, ◌++◌, List, [], ◌∷◌, refl}
use Rattle.std.specs.Prelude.{Option, None, Some, option_map}
use Rattle.std.specs.Int.{int_min, int_max}
use Rattle.std.proofs.Common.{sym, ◌∙◌, ap, arith}
use Rattle.std.proofs.Math.IntN.{+ℤ_idl, +ℤ_comm, +ℤ_assoc}
use Rattle.std.proofs.lemmas.Int.{ints, clamps}
use Rattle.cal_agg.specs.declared.num.Num.{Num}
use Rattle.cal_agg.specs.Numbers.{nano_units, number}
use Rattle.cal_agg.specs.Results.{both, count_of}
use Rattle.cal_agg.specs.Parts.{Parts, no_parts, part_of, merged_by, parts_by}

-- numbers may be taken together in any order, and before or after they are measured
pub record IsJoin (join : ℤ → ℤ → ℤ) : Type 0 where
  pub commutative : (x y : ℤ) → join x y ≡ join y x
  pub associative : (x y z : ℤ) → join (join x y) z ≡ join x (join y z)
  pub measured : (x y : ℤ) → nano_units (join x y) ≡ join (nano_units x) (nano_units y)

pub sum_joins : IsJoin ◌+ℤ◌
sum_joins = record {
  commutative = +ℤ_comm;
  associative = +ℤ_assoc;
  measured = λ x y. omega (arith, ints);
}

pub least_joins : IsJoin int_min
least_joins = record {
  commutative = λ x y. omega (arith, ints, clamps);
  associative = λ x y z. omega (arith, ints, clamps);
  measured = λ x y. omega (arith, ints, clamps);
}

pub greatest_joins : IsJoin int_max
greatest_joins = record {
  commutative = λ x y. omega (arith, ints, clamps);
  associative = λ x y z. omega (arith, ints, clamps);
  measured = λ x y. omega (arith, ints, clamps);
}

-- nothing added is the unit
pub no_parts_unit : (join : ℤ → ℤ → ℤ) (k : Parts) → merged_by join no_parts k ≡ k
no_parts_unit join k = refl

module _ {join : ℤ → ℤ → ℤ} (joins : IsJoin join) where
  both_comm : (x y : Option ℤ) → both join x y ≡ both join y x
  both_comm None None = refl
  both_comm None (Some y) = refl
  both_comm (Some x) None = refl
  both_comm (Some x) (Some y) = ap Some (joins.commutative x y)

  pub both_assoc : (x y z : Option ℤ)
      → both join (both join x y) z ≡ both join x (both join y z)
  both_assoc None y z = refl
  both_assoc (Some x) None z = refl
  both_assoc (Some x) (Some y) None = refl
  both_assoc (Some x) (Some y) (Some z) = ap Some (joins.associative x y z)

  -- two numbers taken into a third in either order
  pub both_swap : (x y z : Option ℤ)
      → both join x (both join y z) ≡ both join y (both join x z)
  both_swap x y z =
      sym (both_assoc x y z) ∙ ap (λ w. both join w z) (both_comm x y) ∙ both_assoc y x z

  -- numbers measured after they were taken together
  pub both-measured : (x y : Option ℤ)
      → option_map nano_units (both join x y)
      ≡ both join (option_map nano_units x) (option_map nano_units y)
  both-measured None y = refl
  both-measured (Some x) None = refl
  both-measured (Some x) (Some y) = ap Some (joins.measured x y)

  pub merged_comm : (k l : Parts) → merged_by join k l ≡ merged_by join l k
  merged_comm k l = λ i. record {
    whole = both_comm k.whole l.whole i;
    fixed = both_comm k.fixed l.fixed i;
  }

  pub merged_assoc : (k l m : Parts)
      → merged_by join (merged_by join k l) m ≡ merged_by join k (merged_by join l m)
  merged_assoc k l m = λ i. record {
    whole = both_assoc k.whole l.whole m.whole i;
    fixed = both_assoc k.fixed l.fixed m.fixed i;
  }

  -- adding a concatenation is merging
  pub parts_by-append : (ns ms : List Num)
      → parts_by join (ns ++ ms) ≡ merged_by join (parts_by join ns) (parts_by join ms)
  parts_by-append [] ms = refl
  parts_by-append (n ∷ ns) ms =
      ap (merged_by join (part_of n)) (parts_by-append ns ms)
      ∙ sym (merged_assoc (part_of n) (parts_by join ns) (parts_by join ms))

-- so it is for a count
pub count_of-append : (ns ms : List Num) → count_of (ns ++ ms) ≡ count_of ns +ℤ count_of ms
count_of-append [] ms = sym (+ℤ_idl (count_of ms))
count_of-append (n ∷ ns) ms =
    ap (λ z. number n +ℤ z) (count_of-append ns ms)
    ∙ sym (+ℤ_assoc (number n) (count_of ns) (count_of ms))

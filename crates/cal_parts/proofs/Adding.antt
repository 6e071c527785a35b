-- What is kept of numbers that are added where they go.
use Rattle.std.proofs.Common.{◌≡◌, ◌+◌, ◌+ℤ◌, List, [], ◌∷◌, ◌++◌, Option, None, Some, length, map, refl, sym, ap, ◌∙◌, arith, add_assoc, ◌<◌, get_or, subst, suc, zero, ℤ, ℕ}
use Rattle.std.specs.Int.{int_min, int_max}
use Rattle.std.specs.List.{AllZip}
use Rattle.std.proofs.lemmas.List.{length-append}
use Rattle.cal_agg.specs.declared.num.Num.{Num}
use Rattle.cal_agg.specs.Joins.{IsJoin, sum_joins, least_joins, greatest_joins, merged_assoc, parts_by-append}
use Rattle.cal_agg.specs.Parts.{Parts, merged_by, no_parts, parts_by}
use Rattle.cal_agg.specs.Results.{both}
use Rattle.cal_filter.proofs.Zips.{zip_length}
use Rattle.cal_filter.specs.Sought.{Sought}
use Rattle.cal_ql.specs.declared.names.KernelName as kernels
use Rattle.cal_ql.specs.declared.names.KernelName.TheVariants as kernel
use Rattle.cal_value.specs.declared.record.Rec.{Rec}
use Rattle.cal_parts.specs.declared.part.Held as holds
use Rattle.cal_parts.specs.declared.part.Held.TheVariants as held
use Rattle.cal_parts.specs.declared.part.Way as ways
use Rattle.cal_parts.specs.declared.part.Way.TheVariants as way
use Rattle.cal_parts.specs.Counters.{CountsFor}
use Rattle.cal_parts.specs.Kernels.{contributions_by}
use Rattle.cal_parts.specs.Parts.{Gathered, held_by, held_over, joined_by, merged_held, merged_part, merged_parts, part_over, way_of}
use Rattle.cal_parts.specs.Readings.{part_of, parts_of}
use Rattle.cal_parts.specs.declared.counter.Counter.{Counter}
use Rattle.cal_parts.specs.declared.reading.Reading.{Reading}
use Rattle.cal_parts.proofs.Merging.{part_over-append}

joins_of : (w : ways.Way) → IsJoin (joined_by w)
joins_of way.Sum = sum_joins
joins_of way.Least = least_joins
joins_of way.Greatest = greatest_joins

held_over_is : (k : kernels.KernelName) (ns : List Num) → held_over k ns ≡ held_by (way_of k) (parts_by (joined_by (way_of k)) ns)
held_over_is kernel.Min ns = refl
held_over_is kernel.Max ns = refl
held_over_is kernel.Count ns = refl
held_over_is kernel.Sum ns = refl
held_over_is kernel.Avg ns = refl
held_over_is kernel.Inclusive ns = refl
held_over_is kernel.Percent ns = refl

-- what is held takes in one thing after another, or both at once
held_twice : (w : ways.Way) (h : holds.Held) (p q : Parts)
    → merged_held (merged_held h (held_by w p)) (held_by w q) ≡ merged_held h (held_by w (merged_by (joined_by w) p q))
held_twice way.Sum (held.Sum o) p q = ap held.Sum (merged_assoc sum_joins o p q)
held_twice way.Sum (held.Least o) p q = refl
held_twice way.Sum (held.Greatest o) p q = refl
held_twice way.Least (held.Sum o) p q = refl
held_twice way.Least (held.Least o) p q = ap held.Least (merged_assoc least_joins o p q)
held_twice way.Least (held.Greatest o) p q = refl
held_twice way.Greatest (held.Sum o) p q = refl
held_twice way.Greatest (held.Least o) p q = refl
held_twice way.Greatest (held.Greatest o) p q = ap held.Greatest (merged_assoc greatest_joins o p q)

held_more : (k : kernels.KernelName) (h : holds.Held) (ns ms : List Num)
    → merged_held (merged_held h (held_over k ns)) (held_over k ms) ≡ merged_held h (held_over k (ns ++ ms))
held_more k h ns ms =
    (λ i. merged_held (merged_held h (held_over_is k ns i)) (held_over_is k ms i))
    ∙ held_twice (way_of k) h (parts_by (joined_by (way_of k)) ns) (parts_by (joined_by (way_of k)) ms)
    ∙ ap (λ p. merged_held h (held_by (way_of k) p)) (sym (parts_by-append (joins_of (way_of k)) ns ms))
    ∙ ap (merged_held h) (sym (held_over_is k (ns ++ ms)))

-- A part takes in numbers one after another, or all at once.
pub merged_more : (k : kernels.KernelName) (p : Gathered) (ns ms : List Num)
    → merged_part (merged_part p (part_over k ns)) (part_over k ms) ≡ merged_part p (part_over k (ns ++ ms))
merged_more k p ns ms = λ i. record {
  many = (add_assoc p.many (length ns) (length ms) ∙ ap (λ n. p.many + n) (sym (length-append ns ms))) i;
  held = held_more k p.held ns ms i;
}

both_none : (join : ℤ → ℤ → ℤ) (x : Option ℤ) → both join x None ≡ x
both_none join None = refl
both_none join (Some x) = refl

held_none : (w : ways.Way) (h : holds.Held) → merged_held h (held_by w no_parts) ≡ h
held_none way.Sum (held.Sum o) = λ i. held.Sum (record { whole = both_none ◌+ℤ◌ o.whole i; fixed = both_none ◌+ℤ◌ o.fixed i })
held_none way.Sum (held.Least o) = refl
held_none way.Sum (held.Greatest o) = refl
held_none way.Least (held.Sum o) = refl
held_none way.Least (held.Least o) = λ i. held.Least (record { whole = both_none int_min o.whole i; fixed = both_none int_min o.fixed i })
held_none way.Least (held.Greatest o) = refl
held_none way.Greatest (held.Sum o) = refl
held_none way.Greatest (held.Least o) = refl
held_none way.Greatest (held.Greatest o) = λ i. held.Greatest (record { whole = both_none int_max o.whole i; fixed = both_none int_max o.fixed i })

-- no number changes nothing
pub merged_none : (k : kernels.KernelName) (p : Gathered) → merged_part p (part_over k []) ≡ p
merged_none k p = let zero_more : p.many + 0 ≡ p.many = omega arith in λ i. record {
  many = zero_more i;
  held = (ap (merged_held p.held) (held_over_is k []) ∙ held_none (way_of k) p.held) i;
}

pub parts_long : (rs : List Reading) (r : Rec) → length (parts_of rs r) ≡ length rs
parts_long [] r = refl
parts_long (x ∷ rs) r = ap suc (parts_long rs r)

-- what is kept of a record for a counter
pub record PartnerPart (all : List Sought) (r : Rec) (rs : List Reading) (cs : List Counter) (n : ℕ) (c : Counter) : Type 0 where
  pub reading : Reading
  pub counts : CountsFor all reading c
  pub read : part_of reading r ≡ get_or (parts_of rs r) n (part_of reading r)
  pub long : length (parts_of rs r) ≡ length cs

pub partner_part : (all : List Sought) (r : Rec) (rs : List Reading) (cs : List Counter) (n : ℕ) (c : Counter) → AllZip (CountsFor all) rs cs
    → n < length cs → c ≡ get_or cs n c → PartnerPart all r rs cs n c
partner_part all r [] [] n c h short read = absurd (omega arith)
partner_part all r [] (d ∷ cs) n c h short read = elim h [ ]
partner_part all r (x ∷ rs) [] n c h short read = elim h [ ]
partner_part all r (x ∷ rs) (d ∷ cs) zero c h short read = record {
  reading = x;
  counts = subst (CountsFor all x) (sym read) h.0;
  read = refl;
  long = ap suc (parts_long rs r ∙ zip_length (CountsFor all) rs cs h.1);
}
partner_part all r (x ∷ rs) (d ∷ cs) (suc n) c h short read =
    let rest = partner_part all r rs cs n c h.1 (omega arith) read in
    record { reading = rest.reading; counts = rest.counts; read = rest.read; long = ap suc rest.long }

-- the first record of a group
pub first_merged : (all : List Sought) (r : Rec) (rs : List Reading) (cs : List Counter) → AllZip (CountsFor all) rs cs
    → merged_parts (map (λ c. part_over c.kernel []) cs) (parts_of rs r) ≡ parts_of rs r
first_merged all r [] [] h = refl
first_merged all r [] (c ∷ cs) h = elim h [ ]
first_merged all r (x ∷ rs) [] h = elim h [ ]
first_merged all r (x ∷ rs) (c ∷ cs) h = λ i. first i ∷ first_merged all r rs cs h.1 i
  where
    first : merged_part (part_over c.kernel []) (part_of x r) ≡ part_of x r
    first =
        ap (λ k. merged_part (part_over k []) (part_of x r)) h.0.kernel
        ∙ sym (part_over-append x.kernel [] (contributions_by x.kernel x.names r))

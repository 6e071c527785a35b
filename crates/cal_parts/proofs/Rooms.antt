-- How large a sum of so many numbers gets.
use Rattle.std.proofs.Common.{◌≡◌, ℕ, ◌+◌, ◌*◌, ◌^◌, ◌≤◌, ◌<◌, ℤ, ◌+ℤ◌, unsigned_abs, Option, None, Some, refl, sym, subst, ◌∙◌, arith}
use Rattle.std.specs.Int.{int_min, int_max}
use Rattle.std.specs.Option.{ForSome}
use Rattle.std.proofs.lemmas.Int.{ints, clamps}
use Rattle.cal_agg.specs.Numbers.{IsWithin}
use Rattle.cal_agg.specs.Results.{both}
use Rattle.cal_agg.specs.Parts.{Parts, AreWithin, merged_by}
use Rattle.cal_parts.specs.declared.part.Held as holds
use Rattle.cal_parts.specs.declared.part.Held.TheVariants as held
use Rattle.cal_parts.specs.declared.part.Way as ways
use Rattle.cal_parts.specs.declared.part.Way.TheVariants as way
use Rattle.cal_parts.specs.Parts.{Gathered, merged_part}
use Rattle.cal_parts.specs.Parts.{AreBelow, HasRoom, IsWithinWay, held_by, joined_by, merged_held, parts_in, way_in}

-- two sums taken together are at most as large as both
below_both : (a b : ℕ) (x y : Option ℤ)
    → ForSome x (λ z. unsigned_abs z ≤ a * 2 ^ 86) → ForSome y (λ z. unsigned_abs z ≤ b * 2 ^ 86)
    → ForSome (both ◌+ℤ◌ x y) (λ z. unsigned_abs z ≤ (a + b) * 2 ^ 86)
below_both a b None y h k z e = let g = k z e in omega arith
below_both a b (Some x) None h k z e = let g = h z e in omega arith
below_both a b (Some x) (Some y) h k z e =
    let s : x +ℤ y ≡ z = cc in
    let g = h x refl in
    let f = k y refl in
    let sum : unsigned_abs (x +ℤ y) ≤ unsigned_abs x + unsigned_abs y = omega (arith, ints) in
    let bound : unsigned_abs (x +ℤ y) ≤ (a + b) * 2 ^ 86 = omega arith in
    rw s at bound

AreBelow-merged : (a b : ℕ) (p q : Parts) → AreBelow a p → AreBelow b q → AreBelow (a + b) (merged_by ◌+ℤ◌ p q)
AreBelow-merged a b p q h k = record {
  whole = below_both a b p.whole q.whole h.whole k.whole;
  fixed = below_both a b p.fixed q.fixed h.fixed k.fixed;
}

-- an end of small numbers is small
least_both : (x y : Option ℤ) → ForSome x (IsWithin 86) → ForSome y (IsWithin 86) → ForSome (both int_min x y) (IsWithin 86)
least_both None y h k z e = k z e
least_both (Some x) None h k z e = h z e
least_both (Some x) (Some y) h k z e =
    let f = h x refl in
    let g = k y refl in
    let s : int_min x y ≡ z = cc in
    let m : IsWithin 86 (int_min x y) = omega (arith, ints, clamps) in
    rw s at m

greatest_both : (x y : Option ℤ) → ForSome x (IsWithin 86) → ForSome y (IsWithin 86) → ForSome (both int_max x y) (IsWithin 86)
greatest_both None y h k z e = k z e
greatest_both (Some x) None h k z e = h z e
greatest_both (Some x) (Some y) h k z e =
    let f = h x refl in
    let g = k y refl in
    let s : int_max x y ≡ z = cc in
    let m : IsWithin 86 (int_max x y) = omega (arith, ints, clamps) in
    rw s at m

-- fewer than 2^32 numbers stay within the limits of a percentage
pub are_within_below : (many : ℕ) (sum : Parts) → many < 2 ^ 32 → AreBelow many sum → AreWithin 118 sum
are_within_below many sum few h = record {
  whole = λ z e. let g = h.whole z e in omega arith;
  fixed = λ z e. let g = h.fixed z e in omega arith;
}

-- and so within those of the kernel
pub are_within : (many : ℕ) (sum : Parts) → many < 2 ^ 32 → AreBelow many sum → AreWithin 126 sum
are_within many sum few h = record {
  whole = λ z e. let g = h.whole z e in omega arith;
  fixed = λ z e. let g = h.fixed z e in omega arith;
}

pub held_within : (many : ℕ) (h : holds.Held) → many < 2 ^ 32 → HasRoom many h → way_in h ≡ way.Sum → AreWithin 126 (parts_in h)
held_within many (held.Sum p) few h e = are_within many p few h
held_within many (held.Least p) few h e = cc
held_within many (held.Greatest p) few h e = cc

-- two parts of one kernel, merged
pub record Joined (many : ℕ) (one other : holds.Held) : Type 0 where
  pub whole : IsWithinWay (way_in one) (both (joined_by (way_in one)) (parts_in one).whole (parts_in other).whole)
  pub fixed : IsWithinWay (way_in one) (both (joined_by (way_in one)) (parts_in one).fixed (parts_in other).fixed)
  pub room : HasRoom many (held_by (way_in one) (merged_by (joined_by (way_in one)) (parts_in one) (parts_in other)))
  pub is : merged_held one other ≡ held_by (way_in one) (merged_by (joined_by (way_in one)) (parts_in one) (parts_in other))

pub joins : (a b : ℕ) (one other : holds.Held) → way_in one ≡ way_in other → a + b < 2 ^ 32 → HasRoom a one → HasRoom b other
    → Joined (a + b) one other
joins a b (held.Sum p) (held.Sum q) e few h k =
    let room = AreBelow-merged a b p q h k in
    let within = are_within (a + b) (merged_by ◌+ℤ◌ p q) few room in
    record { whole = within.whole; fixed = within.fixed; room = room; is = refl }
joins a b (held.Least p) (held.Least q) e few h k = record { whole = tt; fixed = tt; room = least_both p.whole q.whole h k; is = refl }
joins a b (held.Greatest p) (held.Greatest q) e few h k = record { whole = tt; fixed = tt; room = greatest_both p.whole q.whole h k; is = refl }
joins a b (held.Sum p) (held.Least q) e few h k = cc
joins a b (held.Sum p) (held.Greatest q) e few h k = cc
joins a b (held.Least p) (held.Sum q) e few h k = cc
joins a b (held.Least p) (held.Greatest q) e few h k = cc
joins a b (held.Greatest p) (held.Sum q) e few h k = cc
joins a b (held.Greatest p) (held.Least q) e few h k = cc

abbrev made_of : ℕ → ways.Way → Option ℤ → Option ℤ → Gathered
made_of many w whole fixed = record { many = many; held = held_by w (record { whole = whole; fixed = fixed }) }

abbrev joined_of : Gathered → Gathered → Gathered
joined_of one other = record {
  many = one.many + other.many;
  held = held_by (way_in one.held) (merged_by (joined_by (way_in one.held)) (parts_in one.held) (parts_in other.held));
}

-- what two parts of one kernel come to
pub record IsMerged (one other made : Gathered) : Type 0 where
  pub room : HasRoom made.many made.held
  pub is : made ≡ merged_part one other

pub merged_made : (one other : Gathered) (many : ℕ) (w : ways.Way) (whole fixed : Option ℤ)
    → w ≡ way_in one.held → w ≡ way_in other.held → many ≡ one.many + other.many → many < 2 ^ 32
    → HasRoom one.many one.held → HasRoom other.many other.held
    → whole ≡ both (joined_by w) (parts_in one.held).whole (parts_in other.held).whole
    → fixed ≡ both (joined_by w) (parts_in one.held).fixed (parts_in other.held).fixed
    → IsMerged one other (record { many = many; held = held_by w (record { whole = whole; fixed = fixed }) })
merged_made one other many w whole fixed e f counted few h k is_whole is_fixed = record {
  room = subst (λ (g : Gathered). HasRoom g.many g.held) (sym same) j.room;
  is = same ∙ λ i. record { many = one.many + other.many; held = sym j.is i };
}
  where
    j : Joined (one.many + other.many) one.held other.held
    j = joins one.many other.many one.held other.held (sym e ∙ f) (omega (arith, counted, few)) h k

    same : made_of many w whole fixed ≡ joined_of one other
    same = λ i. record {
      many = counted i;
      held = held_by (e i) (record {
        whole = (is_whole ∙ (λ x. both (joined_by (e x)) (parts_in one.held).whole (parts_in other.held).whole)) i;
        fixed = (is_fixed ∙ (λ x. both (joined_by (e x)) (parts_in one.held).fixed (parts_in other.held).fixed)) i;
      });
    }

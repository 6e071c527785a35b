-- The results of a list of numbers: that the ends are ends, and when a result is absent.
use Rattle.std.specs.Prelude.{◌≡◌, ◌↔◌, ◌<◌, ◌^◌, ℤ, ◌+ℤ◌, ◌≤ℤ◌, unsigned_abs, Bool, true, false}
use Rattle.std.specs.Prelude.{List, [], ◌∷◌, map, Contains, Option, None, Some, is_some, refl}
use Rattle.std.specs.Prelude.{if◌then◌else◌, option_map, option_and_then}
use Rattle.std.specs.Int.{int_min, int_max}
use Rattle.std.specs.Int.RustNames.{int_lt}
use Rattle.std.specs.Prelude.{cond, ◌⊎◌}
use Rattle.std.specs.List.{AllByRecursion}
use Rattle.std.proofs.Common.{sym, ◌∙◌, ap, subst, inl, inr, arith}
use Rattle.std.proofs.lemmas.Bool.Decides.{nat_tests}
use Rattle.std.proofs.lemmas.Int.{ints, clamps}
use Rattle.std.proofs.lemmas.List.Elements.{All-from_recursion, Contains-append_right}
use Rattle.cal_agg.specs.declared.num.Num.{Num}
use Rattle.cal_agg.specs.declared.num.Num.TheVariants.{Whole, Fixed}
use Rattle.cal_agg.specs.Numbers.{nano_units, measure, is_fixed, number, some_fixed}
use Rattle.cal_agg.specs.Results.{both, together, found, is_kept, kept}
use Rattle.cal_agg.specs.Results.{sum_of, least_of, greatest_of}
use Rattle.cal_agg.specs.Parts.{parts_by}
use Rattle.cal_agg.specs.Joins.{IsJoin, sum_joins, least_joins, greatest_joins}
use Rattle.cal_agg.specs.Shown.{value_at, found-together, together-measures, some_fixed_is}
use Rattle.cal_agg.specs.Ends.{IsLeast, IsGreatest, IsAbsentSum}

-- ---- where there is a result

some_both : (join : ℤ → ℤ → ℤ) (x : ℤ) (y : Option ℤ) → is_some (both join (Some x) y) ≡ true
some_both join x None = refl
some_both join x (Some y) = refl

some_found : (fixed : Bool) (p q : Option ℤ) → is_some p ≡ true → is_some q ≡ true
    → is_some (if fixed then option_map Fixed p else option_map Whole q) ≡ true
some_found fixed None q hp hq = cc
some_found fixed (Some p) None hp hq = cc
some_found true (Some p) (Some q) hp hq = refl
some_found false (Some p) (Some q) hp hq = refl

some_contributes : (join : ℤ → ℤ → ℤ) (n : Num) (ns : List Num)
    → is_some (found (together join) (n ∷ ns)) ≡ true
some_contributes join n ns =
    some_found (some_fixed (n ∷ ns)) _ _
    (some_both join (measure n) (together join (map measure ns)))
    (some_both join (number n) (together join (map number ns)))

not_there : (r : Option Num) → is_some r ≡ true → r ≡ None → ⊥
not_there None h e = cc
not_there (Some r) h e = cc

absent : (join : ℤ → ℤ → ℤ) (ns : List Num) → (found (together join) ns ≡ None) ↔ (ns ≡ [])
absent join [] = (λ e. refl, λ e. refl)
absent join (n ∷ ns) = (λ e. absurd (not_there _ (some_contributes join n ns) e), λ e. cc)

pub least_absent : (ns : List Num) → (least_of ns ≡ None) ↔ (ns ≡ [])
least_absent ns = absent int_min ns

pub greatest_absent : (ns : List Num) → (greatest_of ns ≡ None) ↔ (ns ≡ [])
greatest_absent ns = absent int_max ns

-- ---- ends

-- a result has the measures' result, and is fixed where some number is
record IsFound (join : ℤ → ℤ → ℤ) (ns : List Num) (end : Num) : Type 0 where
  result : together join (map measure ns) ≡ Some (measure end)
  kind : is_fixed end ≡ some_fixed ns

shown_measure : (join : ℤ → ℤ → ℤ) (w f : Option ℤ) (end : Num) → value_at join w f ≡ Some end
    → both join (option_map nano_units w) f ≡ Some (measure end)
shown_measure join None None end e = cc
shown_measure join (Some w) None end e =
    let is : Whole w ≡ end = cc in ap (λ n. Some (measure n)) is
shown_measure join None (Some f) end e =
    let is : Fixed f ≡ end = cc in ap (λ n. Some (measure n)) is
shown_measure join (Some w) (Some f) end e =
    let is : Fixed (join (nano_units w) f) ≡ end = cc in ap (λ n. Some (measure n)) is

shown_kind : (join : ℤ → ℤ → ℤ) (w f : Option ℤ) (end : Num) → value_at join w f ≡ Some end
    → is_fixed end ≡ is_some f
shown_kind join None None end e = cc
shown_kind join (Some w) None end e =
    let is : end ≡ Whole w = cc in ap is_fixed is
shown_kind join None (Some f) end e =
    let is : end ≡ Fixed f = cc in ap is_fixed is
shown_kind join (Some w) (Some f) end e =
    let is : end ≡ Fixed (join (nano_units w) f) = cc in ap is_fixed is

is_found : {join : ℤ → ℤ → ℤ} → IsJoin join → (ns : List Num) (end : Num)
    → found (together join) ns ≡ Some end → IsFound join ns end
is_found {join} joins ns end e =
    let parts = parts_by join ns in
    let shown = sym (found-together joins ns) ∙ e in
    record {
      result = together-measures joins ns ∙ shown_measure join parts.whole parts.fixed end shown;
      kind = shown_kind join parts.whole parts.fixed end shown ∙ sym (some_fixed_is join ns);
    }

-- taking an end of two numbers gives one of them, which is beside or past both
record TakesEnd (Past : ℤ → ℤ → Type 0) (join : ℤ → ℤ → ℤ) : Type 0 where
  one : (x y : ℤ) → (join x y ≡ x) ⊎ (join x y ≡ y)
  left : (x y : ℤ) → Past (join x y) x
  right : (x y : ℤ) → Past (join x y) y
  beside : (x : ℤ) → Past x x
  on : (x y z : ℤ) → Past x y → Past y z → Past x z

one_of : (b : Bool) (x y : ℤ) → (cond b x y ≡ y) ⊎ (cond b x y ≡ x)
one_of true x y = inr refl
one_of false x y = inl refl

other_of : (b : Bool) (x y : ℤ) → (cond b x y ≡ x) ⊎ (cond b x y ≡ y)
other_of true x y = inl refl
other_of false x y = inr refl

takes_least : TakesEnd ◌≤ℤ◌ int_min
takes_least = record {
  one = λ x y. one_of (int_lt y x) y x;
  left = λ x y. omega (arith, ints, clamps);
  right = λ x y. omega (arith, ints, clamps);
  beside = λ x. omega (arith, ints);
  on = λ x y z p q. omega (arith, ints);
}

takes_greatest : TakesEnd (λ x y. y ≤ℤ x) int_max
takes_greatest = record {
  one = λ x y. other_of (int_lt y x) x y;
  left = λ x y. omega (arith, ints, clamps);
  right = λ x y. omega (arith, ints, clamps);
  beside = λ x. omega (arith, ints);
  on = λ x y z p q. omega (arith, ints);
}

-- the end of a list: one of it, beside or past all
record IsEnd (Past : ℤ → ℤ → Type 0) (xs : List ℤ) (z : ℤ) : Type 0 where
  reached : Contains xs z
  bound : AllByRecursion (Past z) xs

module _ {Past : ℤ → ℤ → Type 0} {join : ℤ → ℤ → ℤ} (takes : TakesEnd Past join) where
  past_all : (x y : ℤ) (zs : List ℤ) → Past x y → AllByRecursion (Past y) zs
      → AllByRecursion (Past x) zs
  past_all x y [] p h = tt
  past_all x y (z ∷ zs) p h = (takes.on x y z p h.0, past_all x y zs p h.1)

  reached_of : (x z : ℤ) (xs : List ℤ) → Contains xs z → (join x z ≡ x) ⊎ (join x z ≡ z)
      → Contains (x ∷ xs) (join x z)
  reached_of x z xs h (inl e) = (0, omega arith, sym e)
  reached_of x z xs h (inr e) =
      subst (Contains (x ∷ xs)) (sym e) (Contains-append_right (x ∷ []) xs z h)

  -- with one number in front
  end_more : (x : ℤ) (xs : List ℤ) (z : ℤ) → IsEnd Past xs z → IsEnd Past (x ∷ xs) (join x z)
  end_more x xs z h = record {
    reached = reached_of x z xs h.reached (takes.one x z);
    bound = (takes.left x z, past_all (join x z) z xs (takes.right x z) h.bound);
  }

  ends_from : (x : ℤ) (xs : List ℤ)
      → (z : ℤ) × (together join (x ∷ xs) ≡ Some z) × IsEnd Past (x ∷ xs) z
  ends_from x [] =
      (x, refl, record { reached = (0, omega arith, refl); bound = (takes.beside x, tt) })
  ends_from x (y ∷ ys) =
      let r = ends_from y ys in
      (join x r.0, ap (both join (Some x)) r.1, end_more x (y ∷ ys) r.0 r.2)

  ends : (xs : List ℤ) (z : ℤ) → together join xs ≡ Some z → IsEnd Past xs z
  ends [] z e = cc
  ends (x ∷ xs) z e =
      let r = ends_from x xs in
      let same : r.0 ≡ z = cc (r.1, e) in
      subst (IsEnd Past (x ∷ xs)) same r.2

pub least_is : (ns : List Num) (end : Num) → least_of ns ≡ Some end → IsLeast ns end
least_is ns end e =
    let f = is_found least_joins ns end e in
    let h = ends takes_least (map measure ns) (measure end) f.result in
    record {
      reached = h.reached;
      bound = All-from_recursion (λ z. measure end ≤ℤ z) (map measure ns) h.bound;
      kind = f.kind;
    }

pub greatest_is : (ns : List Num) (end : Num) → greatest_of ns ≡ Some end → IsGreatest ns end
greatest_is ns end e =
    let f = is_found greatest_joins ns end e in
    let h = ends takes_greatest (map measure ns) (measure end) f.result in
    record {
      reached = h.reached;
      bound = All-from_recursion (λ z. z ≤ℤ measure end) (map measure ns) h.bound;
      kind = f.kind;
    }

-- ---- sums that are absent

kept_above : (z : ℤ) → 2 ^ 118 < unsigned_abs z → kept (Fixed z) ≡ None
kept_above z h = grind (arith, nat_tests)

above_at : (z : ℤ) (b : Bool) → is_kept z ≡ b → (if b then Some (Fixed z) else None) ≡ None
    → 2 ^ 118 < unsigned_abs z
above_at z true e h = cc
above_at z false e h = grind (arith, nat_tests)

above_kept : (z : ℤ) → kept (Fixed z) ≡ None → 2 ^ 118 < unsigned_abs z
above_kept z h = above_at z (is_kept z) refl h

absent_sum : (ns : List Num) (r : Option Num) → found (together ◌+ℤ◌) ns ≡ r
    → option_and_then kept r ≡ None → IsAbsentSum ns
absent_sum ns None e h = inl ((absent ◌+ℤ◌ ns).0 e)
absent_sum ns (Some (Whole n)) e h = cc
absent_sum ns (Some (Fixed n)) e h =
    let f = is_found sum_joins ns (Fixed n) e in
    inr (record { fixed = sym f.kind; total = n; sum = f.result; above = above_kept n h })

sum_of-absent : (ns : List Num) → IsAbsentSum ns → sum_of ns ≡ None
sum_of-absent ns (inl e) = ap sum_of e
sum_of-absent ns (inr h) = rw (h.fixed, h.sum) (kept_above h.total h.above)

pub sum_absent : (ns : List Num) → (sum_of ns ≡ None) ↔ IsAbsentSum ns
sum_absent ns = (absent_sum ns (found (together ◌+ℤ◌) ns) refl, sum_of-absent ns)

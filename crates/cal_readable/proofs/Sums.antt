-- What numbers of 64 bits come to isn't too large to be read again.
use Rattle.std.proofs.Common.{◌≡◌, ◌+◌, ◌*◌, ◌≤◌, ◌^◌, ◌∙◌, ℤ, ◌+ℤ◌, Bool, true, false, List, []}
use Rattle.std.proofs.Common.{◌∷◌, length, map, refl, sym, ap, subst, arith, true≢false}
use Rattle.std.specs.Prelude.{Option, None, Some, IfSome, if◌then◌else◌, option_and_then}
use Rattle.std.specs.Prelude.{option_map, unsigned_abs, cond}
use Rattle.std.specs.Int.{int_max, int_min}
use Rattle.std.specs.Int.RustNames.{int_lt}
use Rattle.std.specs.List.{AllByRecursion}
use Rattle.std.proofs.lemmas.Int.{ints}
use Rattle.cal_agg.specs.Limits.{magnitude, magnitude-both}
use Rattle.cal_agg.specs.Numbers.{is_fixed, measure, number, some_fixed}
use Rattle.cal_agg.specs.Results.{both, count_of, found, is_kept, kept, together}
use Rattle.cal_agg.specs.declared.num.Num.{Num}
use Rattle.cal_agg.specs.declared.num.Num.TheVariants.{Whole, Fixed}

-- a number of 64 bits
abbrev pub IsShort : Num → Type 0
IsShort n = unsigned_abs (number n) ≤ 2 ^ 64

-- a result that can be read again, if there is one
abbrev pub IsSmallResult : Option Num → Type 0
IsSmallResult r = IfSome r (λ n. unsigned_abs (number n) ≤ 2 ^ 86)

-- ---- numbers, without regard to their sort

pub sum-bound : (ns : List Num) → AllByRecursion IsShort ns
    → magnitude (together ◌+ℤ◌ (map number ns)) ≤ length ns * 2 ^ 64
sum-bound [] all = omega arith
sum-bound (n ∷ ns) all =
    let rest = sum-bound ns all.1 in
    let add = magnitude-both (Some (number n)) (together ◌+ℤ◌ (map number ns)) in
    let small = all.0 in
    omega (arith, rest, add, small)

-- one of two numbers is no larger than both
abbrev Picks : (ℤ → ℤ → ℤ) → Type 0
Picks join = (x y : ℤ) → unsigned_abs x ≤ 2 ^ 64 → unsigned_abs y ≤ 2 ^ 64
    → unsigned_abs (join x y) ≤ 2 ^ 64

least-picks : Picks int_min
least-picks x y one other = by (int_lt y x)
  where
    by : (b : Bool) → unsigned_abs (cond b y x) ≤ 2 ^ 64
    by true = other
    by false = one

greatest-picks : Picks int_max
greatest-picks x y one other = by (int_lt y x)
  where
    by : (b : Bool) → unsigned_abs (cond b x y) ≤ 2 ^ 64
    by true = one
    by false = other

pick-bound : (join : ℤ → ℤ → ℤ) → Picks join → (ns : List Num) → AllByRecursion IsShort ns
    → magnitude (together join (map number ns)) ≤ 2 ^ 64
pick-bound join picks [] all = omega arith
pick-bound join picks (n ∷ ns) all =
    by (together join (map number ns)) (pick-bound join picks ns all.1)
  where
    by : (o : Option ℤ) → magnitude o ≤ 2 ^ 64 → magnitude (both join (Some (number n)) o) ≤ 2 ^ 64
    by None rest = all.0
    by (Some y) rest = picks (number n) y all.0 rest

pub least-bound : (ns : List Num) → AllByRecursion IsShort ns
    → magnitude (together int_min (map number ns)) ≤ 2 ^ 64
least-bound = pick-bound int_min least-picks

pub greatest-bound : (ns : List Num) → AllByRecursion IsShort ns
    → magnitude (together int_max (map number ns)) ≤ 2 ^ 64
greatest-bound = pick-bound int_max greatest-picks

pub count-bound : (ns : List Num) → AllByRecursion IsShort ns
    → unsigned_abs (count_of ns) ≤ length ns * 2 ^ 64
count-bound [] all = omega arith
count-bound (n ∷ ns) all =
    let rest = count-bound ns all.1 in
    let add = added (number n) (count_of ns) in
    let small = all.0 in
    omega (arith, rest, add, small)
  where
    added : (x y : ℤ) → unsigned_abs (x +ℤ y) ≤ unsigned_abs x + unsigned_abs y
    added x y = omega (arith, ints)

-- ---- numbers of one sort are found as they stand

-- where one is fixed all are
abbrev pub AreAlike : List Num → Type 0
AreAlike ns = some_fixed ns ≡ true → AllByRecursion (λ n. is_fixed n ≡ true) ns

measures-are : (ns : List Num) → AllByRecursion (λ n. is_fixed n ≡ true) ns
    → map measure ns ≡ map number ns
measures-are [] all = refl
measures-are (Whole n ∷ ns) all = absurd (true≢false (sym all.0))
measures-are (Fixed n ∷ ns) all = ap (λ zs. n ∷ zs) (measures-are ns all.1)

found-number : (find : List ℤ → Option ℤ) (ns : List Num) → AreAlike ns
    → option_map number (found find ns) ≡ find (map number ns)
found-number find ns alike = by (some_fixed ns) refl
  where
    wholes : (o : Option ℤ) → option_map number (option_map Whole o) ≡ o
    wholes None = refl
    wholes (Some z) = refl

    decimals : (o : Option ℤ) → option_map number (option_map Fixed o) ≡ o
    decimals None = refl
    decimals (Some z) = refl

    by : (b : Bool) → some_fixed ns ≡ b
        → option_map number (if b then option_map Fixed (find (map measure ns))
        else option_map Whole (find (map number ns))) ≡ find (map number ns)
    by true fixed = decimals (find (map measure ns)) ∙ ap find (measures-are ns (alike fixed))
    by false fixed = wholes (find (map number ns))

-- ---- results

small-result : (r : Option Num) → magnitude (option_map number r) ≤ 2 ^ 86 → IsSmallResult r
small-result None small = tt
small-result (Some n) small = small

pub found-small : (find : List ℤ → Option ℤ) (ns : List Num) → AreAlike ns
    → magnitude (find (map number ns)) ≤ 2 ^ 86 → IsSmallResult (found find ns)
found-small find ns alike small = small-result (found find ns)
    (subst (λ (o : Option ℤ). magnitude o ≤ 2 ^ 86) (sym (found-number find ns alike)) small)

-- a sum that is absent where it is too large
pub kept-small : (r : Option Num) → IsSmallResult r → IsSmallResult (option_and_then kept r)
kept-small None small = tt
kept-small (Some (Whole n)) small = small
kept-small (Some (Fixed n)) small = by (is_kept n)
  where
    by : (b : Bool) → IsSmallResult (if b then Some (Fixed n) else None)
    by true = small
    by false = tt

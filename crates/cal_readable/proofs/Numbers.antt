-- The numbers that the snapshots of a run bring to the kernels of a channel.
use Rattle.std.proofs.Common.{◌≡◌, ℕ, ◌+◌, ◌≤◌, ◌∙◌, pos, negsuc, Bool, true, false}
use Rattle.std.proofs.Common.{List, [], ◌∷◌, ◌++◌, filter, length, refl, sym, ap, subst, arith}
use Rattle.std.proofs.Common.{inl, inr, true≢false}
use Rattle.std.specs.Prelude.{Option, None, Some, codes, flat_map, if◌then◌else◌, ◌&&◌}
use Rattle.std.specs.Prelude.{option_and_then, unwrap_or}
use Rattle.std.specs.List.{AllByRecursion, cons_option, filter_map, last_or}
use Rattle.std.proofs.lemmas.Bool.{leb-true}
use Rattle.std.proofs.lemmas.List.{length-append}
use Rattle.std.proofs.lemmas.List.Elements.{recursion_from_All}
use Rattle.cal_agg.specs.Numbers.{is_fixed, number, some_fixed}
use Rattle.cal_agg.specs.declared.num.Num.{Num}
use Rattle.cal_agg.specs.declared.num.Num.TheVariants.{Whole, Fixed}
use Rattle.cal_parts.specs.Kernels.{contributions, last_whole, number_sought, weight}
use Rattle.cal_filter.specs.Named.{is_named, last_number}
use Rattle.cal_filter.specs.Numbers.{number_in}
use Rattle.cal_profile.proofs.Lists.{all_weaker}
use Rattle.cal_profile.proofs.RowNumbers.{named_text}
use Rattle.cal_ql.specs.declared.names.KernelName.TheVariants as kernel
use Rattle.cal_run.specs.Entries.{IsImmediate, IsPathEntry, IsShown, IsSlotPath, IsSnapshot}
use Rattle.cal_readable.proofs.KindLemmas.{same-kind, shown-no-result}
use Rattle.cal_readable.proofs.Lists.{all-append, all-filter_map, all-flat_map, all-kept}
use Rattle.cal_readable.proofs.Sums.{AreAlike, IsShort}
use Rattle.cal_script.specs.Parts.{is_allowed}
use Rattle.cal_script.specs.Valid.{IsRunnable}
use Rattle.cal_script.specs.declared.script.Script.{Script}
use Rattle.cal_value.specs.Flat.{flat, joined}
use Rattle.cal_value.specs.Reading.{IsInRange}
use Rattle.cal_value.specs.Values.{kind_of}
use Rattle.cal_value.specs.declared.attribute.Attribute.{Attribute}
use Rattle.cal_value.specs.declared.attribute.Entry.{Entry}
use Rattle.cal_value.specs.declared.kind.Kind as kinds
use Rattle.cal_value.specs.declared.kind.Kind.TheVariants as kind
use Rattle.cal_value.specs.declared.record.Rec.{Rec}
use Rattle.cal_value.specs.declared.variant.Variant as variants
use Rattle.cal_value.specs.declared.variant.Variant.TheVariants as variant

-- whether the numbers of a kind are fixed
abbrev is_double : kinds.Kind → Bool
is_double kind.Double = true
is_double _ = false

-- a number of a value of this kind
record IsNumberIn (k : kinds.Kind) (n : Num) : Type 0 where
  short : IsShort n
  fixed : is_fixed n ≡ is_double k

value-number : (v : variants.Variant) → is_allowed v ≡ true → IsInRange v → (n : Num)
    → number_in v ≡ Some n → IsNumberIn (kind_of v) n
value-number (variant.Int (pos z)) allowed range n is =
    let small = leb-true z 9223372036854775807 allowed in
    let same : Whole (pos z) ≡ n = cc in
    subst (IsNumberIn kind.Int) same (record { short = omega (arith, small); fixed = refl })
value-number (variant.Int (negsuc z)) allowed range n is =
    let small = leb-true z 9223372036854775807 allowed in
    let same : Whole (negsuc z) ≡ n = cc in
    subst (IsNumberIn kind.Int) same (record { short = omega (arith, small); fixed = refl })
value-number (variant.Fixed (pos z)) allowed range n is =
    let small = leb-true z 9223372036854775807 allowed in
    let same : Fixed (pos z) ≡ n = cc in
    subst (IsNumberIn kind.Double) same (record { short = omega (arith, small); fixed = refl })
value-number (variant.Fixed (negsuc z)) allowed range n is =
    let small = leb-true z 9223372036854775807 allowed in
    let same : Fixed (negsuc z) ≡ n = cc in
    subst (IsNumberIn kind.Double) same (record { short = omega (arith, small); fixed = refl })
value-number (variant.Uint z) allowed range n is =
    let same : Whole (pos z) ≡ n = cc in
    subst (IsNumberIn kind.Uint) same (record { short = omega (arith, range); fixed = refl })
value-number (variant.Text t) allowed range n is = absurd cc
value-number (variant.Bool b) allowed range n is = absurd cc
value-number (variant.Addr a) allowed range n is = absurd cc
value-number (variant.Kind k) allowed range n is = absurd cc
value-number (variant.Real t) allowed range n is = absurd cc
value-number (variant.Usr t) allowed range n is = absurd cc
value-number (variant.Ptr t) allowed range n is = absurd cc

-- what holds of each number holds of the last
last-holds : (P : Num → Type 0) (o : Option Num) (ns : List Num)
    → ((n : Num) → o ≡ Some n → P n) → AllByRecursion P ns
    → (n : Num) → last_or o ns ≡ Some n → P n
last-holds P o [] first all n is = first n is
last-holds P o (m ∷ ns) first all n is = last-holds P (Some m) ns
    (λ n same. let equal : m ≡ n = cc in subst P equal all.0) all.1 n is

-- a whole number that is sought is a number
sought-number : (o : Option Num) (n : Num)
    → option_and_then (λ m. if true && is_fixed m then None else Some m) o ≡ Some n → o ≡ Some n
sought-number None n is = absurd cc
sought-number (Some (Whole z)) n is = is
sought-number (Some (Fixed z)) n is = absurd cc

none-fixed : (ns : List Num) → AllByRecursion (λ n. is_fixed n ≡ false) ns → some_fixed ns ≡ false
none-fixed [] all = refl
none-fixed (Whole z ∷ ns) all = none-fixed ns all.1
none-fixed (Fixed z ∷ ns) all = absurd (true≢false all.0)

-- numbers of which something holds, and which are so many at most
pub record Brought (P : Num → Type 0) (most : ℕ) (ns : List Num) : Type 0 where
  pub all : AllByRecursion P ns
  pub few : length ns ≤ most

pub brought-all : (P : Num → Type 0) (S : Rec → Type 0) (bring : Rec → List Num)
    → ((r : Rec) → S r → Brought P 1 (bring r)) → (rs : List Rec) → AllByRecursion S rs
    → Brought P (length rs) (flat_map bring rs)
brought-all P S bring so [] all = record { all = tt; few = omega arith }
brought-all P S bring so (r ∷ rs) all =
    let one = so r all.0 in
    let rest = brought-all P S bring so rs all.1 in
    record {
      all = all-append P (bring r) (flat_map bring rs) one.all rest.all;
      few = omega (arith, one.few, rest.few, length-append (bring r) (flat_map bring rs));
    }

module _ (script : Script) (runnable : IsRunnable script) where
  -- a record whose entries may stand in snapshots
  abbrev pub IsSeen : Rec → Type 0
  IsSeen r = AllByRecursion (IsImmediate script) (flat r)

  path-seen : (path : List Entry) → IsSlotPath script path → AllByRecursion (IsImmediate script) path
  path-seen path is = all_weaker (IsPathEntry script) (IsImmediate script)
      (λ e entry. record { shown = inl entry.declared; said = entry.said }) path
      (recursion_from_All (IsPathEntry script) path is.entries)

  pub snapshot-seen : (r : Rec) → IsSnapshot script r → IsSeen r
  snapshot-seen r is = all-append (IsImmediate script) (joined r.paths) r.imms
      (all-flat_map (IsSlotPath script) (IsImmediate script) (λ path. path) path-seen r.paths
      (recursion_from_All (IsSlotPath script) r.paths is.paths))
      (recursion_from_All (IsImmediate script) r.imms is.imms)

  -- a number that an entry of this name has
  pub record IsNumberOf (name : List ℕ) (n : Num) : Type 0 where
    pub entry : Entry
    pub shown : IsImmediate script entry
    pub named : entry.attr.name ≡ name
    pub is : number_in entry.value ≡ Some n

  number-in : (name : List ℕ) (n : Num) → (is : IsNumberOf name n) → IsNumberIn is.entry.attr.kind n
  number-in name n is = subst (λ (k : kinds.Kind). IsNumberIn k n) is.shown.said.kind
      (value-number is.entry.value is.shown.said.allowed is.shown.said.range n is.is)

  pub number-short : (name : List ℕ) (n : Num) → IsNumberOf name n → IsShort n
  number-short name n is = (number-in name n is).short

  same-sort : (name : List ℕ) (n m : Num) → IsNumberOf name n → IsNumberOf name m
      → is_fixed n ≡ is_fixed m
  same-sort name n m one other = (number-in name n one).fixed
      ∙ ap is_double (same-kind script runnable one.entry.attr other.entry.attr one.shown.shown
      other.shown.shown (one.named ∙ sym other.named))
      ∙ sym (number-in name m other).fixed

  -- numbers of one name are of one sort
  pub numbers-alike : (name : List ℕ) (ns : List Num) → AllByRecursion (IsNumberOf name) ns
      → AreAlike ns
  numbers-alike name [] all fixed = tt
  numbers-alike name (n ∷ ns) all fixed = by (is_fixed n) refl
    where
      each : (b : Bool) → is_fixed n ≡ b → AllByRecursion (λ m. is_fixed m ≡ b) (n ∷ ns)
      each b is = (
        is,
        all_weaker (IsNumberOf name) (λ m. is_fixed m ≡ b)
            (λ m other. same-sort name m n other all.0 ∙ is) ns all.1,
      )

      by : (b : Bool) → is_fixed n ≡ b → AllByRecursion (λ m. is_fixed m ≡ true) (n ∷ ns)
      by true is = each true is
      by false is = absurd (true≢false (sym fixed ∙ none-fixed (n ∷ ns) (each false is)))

  -- ---- what a record has

  entry-number : (name : List ℕ) (e : Entry) → IsImmediate script e × (is_named name e ≡ true)
      → (n : Num) → number_in e.value ≡ Some n → IsNumberOf name n
  entry-number name e is n found =
      record { entry = e; shown = is.0; named = named_text name e is.1; is = found }

  last-number : (r : Rec) → IsSeen r → (name : List ℕ) (n : Num) → last_number name r ≡ Some n
      → IsNumberOf name n
  last-number r seen name = last-holds (IsNumberOf name) None
      (filter_map (λ (e : Entry). number_in e.value) (filter (is_named name) (flat r)))
      (λ n e. absurd cc)
      (all-filter_map (λ (e : Entry). IsImmediate script e × (is_named name e ≡ true))
      (IsNumberOf name) (λ (e : Entry). number_in e.value) (entry-number name)
      (filter (is_named name) (flat r))
      (all-kept (IsImmediate script) (is_named name) (flat r) seen))

  -- its weight is 1, or its last whole number named `count`
  pub weight-short : (r : Rec) → IsSeen r → IsShort (weight r)
  weight-short r seen = by (last_whole (codes "count") r) (last-holds IsShort None
      (filter_map (λ (e : Entry). number_sought true e.value)
      (filter (is_named (codes "count")) (flat r)))
      (λ n e. absurd cc)
      (all-filter_map (λ (e : Entry). IsImmediate script e × (is_named (codes "count") e ≡ true))
      IsShort (λ (e : Entry). number_sought true e.value)
      (λ e is n found. number-short (codes "count") n
      (entry-number (codes "count") e is n (sought-number (number_in e.value) n found)))
      (filter (is_named (codes "count")) (flat r))
      (all-kept (IsImmediate script) (is_named (codes "count")) (flat r) seen)))
    where
      by : (o : Option Num) → ((n : Num) → o ≡ Some n → IsShort n)
          → IsShort (unwrap_or o (Whole (pos 1)))
      by None short = omega arith
      by (Some n) short = short n refl

  -- ---- what it brings to a kernel

  -- the last number of a name, where there is none of the other
  brings : (name other : List ℕ) → ((a : Attribute) → IsShown script a → a.name ≡ other → ⊥)
      → (r : Rec) → IsSeen r
      → Brought (IsNumberOf name) 1 (filter_map (λ n. last_number n r) (name ∷ other ∷ []))
  brings name other none r seen = by (last_number name r) (last_number other r)
      (last-number r seen name)
      (λ n is. let found = last-number r seen other n is in
      none found.entry.attr found.shown.shown found.named)
    where
      by : (o p : Option Num) → ((n : Num) → o ≡ Some n → IsNumberOf name n)
          → ((n : Num) → p ≡ Some n → ⊥)
          → Brought (IsNumberOf name) 1 (cons_option o (cons_option p []))
      by None None one nothing = record { all = tt; few = omega arith }
      by (Some n) None one nothing = record { all = (one n refl, tt); few = omega arith }
      by o (Some n) one nothing = absurd (nothing n refl)

  pub sum-brings : (attr : List ℕ) (r : Rec) → IsSeen r
      → Brought (IsNumberOf attr) 1 (contributions kernel.Sum attr r)
  sum-brings attr = brings attr (codes "sum#" ++ attr)
      (λ a shown. shown-no-result script runnable a shown (codes "sum#" ++ attr) refl (inl refl))

  pub least-brings : (attr : List ℕ) (r : Rec) → IsSeen r
      → Brought (IsNumberOf attr) 1 (contributions kernel.Min attr r)
  least-brings attr = brings attr (codes "min#" ++ attr)
      (λ a shown. shown-no-result script runnable a shown (codes "min#" ++ attr) refl (inr refl))

  pub greatest-brings : (attr : List ℕ) (r : Rec) → IsSeen r
      → Brought (IsNumberOf attr) 1 (contributions kernel.Max attr r)
  greatest-brings attr = brings attr (codes "max#" ++ attr)
      (λ a shown. shown-no-result script runnable a shown (codes "max#" ++ attr) refl (inr refl))

  pub weight-brings : (attr : List ℕ) (r : Rec) → IsSeen r
      → Brought IsShort 1 (contributions kernel.Count attr r)
  weight-brings attr r seen = record { all = (weight-short r seen, tt); few = omega arith }

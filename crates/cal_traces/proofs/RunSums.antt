-- Sums over the snapshots of a run are never too large.
use Rattle.std.proofs.Common.{◌≡◌, ℕ, ◌+◌, ◌*◌, ◌<◌, ◌≤◌, ◌^◌, ℤ, pos, ◌+ℤ◌, Bool, true, false}
use Rattle.std.proofs.Common.{List, [], ◌∷◌, ◌++◌, filter, length, map, refl, sym, ap, subst, ◌∙◌}
use Rattle.std.proofs.Common.{arith, inl, inr, true≢false, Option, None, Some, Contains}
use Rattle.std.specs.Prelude.{codes, if◌then◌else◌, option_map, unsigned_abs}
use Rattle.std.specs.List.{AllByRecursion, cons_option, filter_map, find, last_or}
use Rattle.std.proofs.lemmas.Int.{ints}
use Rattle.std.proofs.lemmas.List.{length-append}
use Rattle.std.proofs.lemmas.List.Elements.{filter-append}
use Rattle.cal_agg.specs.Ends.{IsAbsentSum, IsTooLarge}
use Rattle.cal_agg.specs.Numbers.{measure, some_fixed}
use Rattle.cal_agg.specs.Results.{both, sum_of, together}
use Rattle.cal_agg.specs.declared.num.Num.{Num}
use Rattle.cal_agg.specs.declared.num.Num.TheVariants.{Whole, Fixed}
use Rattle.cal_agg.proofs.Ends.{sum_absent}
use Rattle.cal_parts.specs.Kernels.{contributed, contributions}
use Rattle.cal_filter.specs.Named.{is_named, last_number}
use Rattle.cal_filter.specs.Numbers.{number_in}
use Rattle.cal_profile.specs.Declared.{HasSums, IsImmediate, IsInPath, IsNamed, IsSnapshot}
use Rattle.cal_profile.specs.Declared.{props_of}
use Rattle.cal_profile.specs.Groups.{agg_of}
use Rattle.cal_profile.proofs.Kernels.{sum_kept}
use Rattle.cal_profile.proofs.Lists.{all-filter, all_weaker}
use Rattle.cal_profile.proofs.RowAgrees.{imms_without, paths_without}
use Rattle.cal_profile.proofs.RowNumbers.{named_text}
use Rattle.cal_ql.specs.declared.names.KernelName.TheVariants as kernel
use Rattle.cal_rowset.specs.Texts.{is_same}
use Rattle.cal_script.specs.declared.script.ChannelQuery.{ChannelQuery}
use Rattle.cal_script.specs.declared.script.Script.{Script}
use Rattle.cal_run.specs.RunAttributes.{run_attributes}
use Rattle.cal_traces.proofs.Boards.{all-append}
use Rattle.cal_traces.proofs.Names.{AreApart, found_itself}
use Rattle.cal_traces.proofs.Shots.{InPath, Immediate, IsOf, IsShort, IsShot}
use Rattle.cal_value.specs.Flat.{flat, joined}
use Rattle.cal_value.specs.Values.{kind_of}
use Rattle.cal_value.specs.declared.attribute.Attribute.{Attribute}
use Rattle.cal_value.specs.declared.attribute.Entry.{Entry}
use Rattle.cal_value.specs.declared.kind.Kind as kinds
use Rattle.cal_value.specs.declared.kind.Kind.TheVariants as kind
use Rattle.cal_value.specs.declared.record.Rec.{Rec}
use Rattle.cal_value.specs.declared.variant.Variant as variants
use Rattle.cal_value.specs.declared.variant.Variant.TheVariants as variant

-- ---- numbers of one sort

abbrev IsWhole : Num → Type 0
IsWhole (Whole n) = Unit {0}
IsWhole (Fixed n) = ⊥

-- decimals of 64 bits, in nano-units
abbrev IsShortFixed : Num → Type 0
IsShortFixed (Whole n) = ⊥
IsShortFixed (Fixed n) = unsigned_abs n ≤ 2 ^ 63

none_fixed : (ns : List Num) → AllByRecursion IsWhole ns → some_fixed ns ≡ false
none_fixed [] all = refl
none_fixed (Whole n ∷ ns) all = none_fixed ns all.1
none_fixed (Fixed n ∷ ns) all = absurd all.0

abbrev magnitude : Option ℤ → ℕ
magnitude None = 0
magnitude (Some z) = unsigned_abs z

magnitude-both : (x : ℤ) (y : Option ℤ)
    → magnitude (both ◌+ℤ◌ (Some x) y) ≤ unsigned_abs x + magnitude y
magnitude-both x None = omega arith
magnitude-both x (Some y) = omega (arith, ints)

fixed_bound : (ns : List Num) → AllByRecursion IsShortFixed ns
    → magnitude (together ◌+ℤ◌ (map measure ns)) ≤ length ns * 2 ^ 63
fixed_bound [] all = omega arith
fixed_bound (Whole n ∷ ns) all = absurd all.0
fixed_bound (Fixed n ∷ ns) all =
    let rest = fixed_bound ns all.1 in
    let add = magnitude-both n (together ◌+ℤ◌ (map measure ns)) in
    let small = all.0 in
    omega arith

-- numbers of one sort, of which there are few
data AreSummed (ns : List Num) : Type 0 where
  wholes : AllByRecursion IsWhole ns → AreSummed ns
  decimals : AllByRecursion IsShortFixed ns → AreSummed ns

-- so their sum is absent where there is none
sum_there : (ns : List Num) → AreSummed ns → length ns ≤ 2 ^ 21 → sum_of ns ≡ None → ns ≡ []
sum_there ns summed few absent =
    elim ((sum_absent ns).0 absent) [ inl none ↦ none | inr large ↦ absurd (by summed large) ]
  where
    by : AreSummed ns → IsTooLarge ns → ⊥
    by (wholes all) large = true≢false (sym large.fixed ∙ none_fixed ns all)
    by (decimals all) large =
        let bound = fixed_bound ns all in
        let same : magnitude (together ◌+ℤ◌ (map measure ns)) ≡ unsigned_abs large.total =
        ap magnitude large.sum in
        let above = large.above in
        omega arith

-- ---- the numbers of a name

-- by the kind of its attribute
abbrev IsNumber : kinds.Kind → Num → Type 0
IsNumber kind.Double n = IsShortFixed n
IsNumber _ n = IsWhole n

number_of_kind : (v : variants.Variant) → IsShort v → (n : Num) → number_in v ≡ Some n
    → IsNumber (kind_of v) n
number_of_kind (variant.Int z) short n is = let same : Whole z ≡ n = cc in subst IsWhole same tt
number_of_kind (variant.Uint z) short n is =
    let same : Whole (pos z) ≡ n = cc in subst IsWhole same tt
number_of_kind (variant.Fixed z) short n is =
    let same : Fixed z ≡ n = cc in subst IsShortFixed same short
number_of_kind (variant.Text t) short n is = absurd cc
number_of_kind (variant.Bool b) short n is = absurd cc
number_of_kind (variant.Addr a) short n is = absurd cc
number_of_kind (variant.Kind k) short n is = absurd cc
number_of_kind (variant.Real t) short n is = absurd cc
number_of_kind (variant.Usr t) short n is = absurd cc
number_of_kind (variant.Ptr t) short n is = absurd cc

last_holds : (P : Num → Type 0) (o : Option Num) (ns : List Num)
    → ((n : Num) → o ≡ Some n → P n) → AllByRecursion P ns
    → (n : Num) → last_or o ns ≡ Some n → P n
last_holds P o [] first all n is = first n is
last_holds P o (m ∷ ns) first all n is = last_holds P (Some m) ns
    (λ n same. let equal : m ≡ n = cc in subst P equal all.0) all.1 n is

module _ (script : Script) (apart : AreApart (run_attributes script)) (attr : List ℕ) where
  -- the attribute of the name, if there is one
  abbrev found : Option Attribute
  found = find (λ a. is_same a.name attr) (run_attributes script)

  abbrev IsOne : Option Attribute → Num → Type 0
  IsOne None n = ⊥
  IsOne (Some a) n = IsNumber a.kind n

  entry_number : (e : Entry) → IsOf script e → is_named attr e ≡ true → (n : Num)
      → number_in e.value ≡ Some n → IsOne found n
  entry_number e of named n is = subst (λ (o : Option Attribute). IsOne o n)
      (sym (ap (λ (name : List ℕ). find (λ a. is_same a.name name) (run_attributes script))
      (sym (named_text attr e named))
      ∙ found_itself (run_attributes script) apart e.attr of.there))
      (subst (λ (k : kinds.Kind). IsNumber k n) of.kind (number_of_kind e.value of.short n is))

  abbrev numbers_in : List Entry → List Num
  numbers_in es = filter_map (λ (e : Entry). number_in e.value) (filter (is_named attr) es)

  entries_numbers : (es : List Entry) → AllByRecursion (IsOf script) es
      → AllByRecursion (IsOne found) (numbers_in es)
  entries_numbers [] all = tt
  entries_numbers (e ∷ es) all = by (is_named attr e) refl (entries_numbers es all.1)
    where
      at : (o : Option Num) → ((n : Num) → o ≡ Some n → IsOne found n)
          → AllByRecursion (IsOne found) (numbers_in es)
          → AllByRecursion (IsOne found) (cons_option o (numbers_in es))
      at None one rest = rest
      at (Some n) one rest = (one n refl, rest)

      by : (b : Bool) → is_named attr e ≡ b → AllByRecursion (IsOne found) (numbers_in es)
          → AllByRecursion (IsOne found) (numbers_in (e ∷ es))
      by true named rest = rw named (at (number_in e.value) (entry_number e all.0 named) rest)
      by false named rest = rw named rest

  -- the last number of the name in a snapshot
  last_one : (r : Rec) → IsShot script r → (n : Num) → last_number attr r ≡ Some n → IsOne found n
  last_one r shot = last_holds (IsOne found) None (numbers_in (flat r)) (λ n e. absurd cc)
      (entries_numbers (flat r) (all-append (IsOf script) (joined r.paths) r.imms
      (all_weaker (InPath script) (IsOf script) (λ e is. is.of) (joined r.paths) shot.paths)
      (all_weaker (Immediate script) (IsOf script) (λ e is. is.of) r.imms shot.imms)))

  -- numbers of one name are of one sort
  summed : (ns : List Num) → AllByRecursion (IsOne found) ns → AreSummed ns
  summed ns all = by found all
    where
      of_kind : (k : kinds.Kind) → AllByRecursion (IsNumber k) ns → AreSummed ns
      of_kind kind.Double all = decimals all
      of_kind _ all = wholes all

      none : (n : Num) → ⊥ → IsWhole n
      none n e = absurd e

      by : (o : Option Attribute) → AllByRecursion (IsOne o) ns → AreSummed ns
      by None all = wholes (all_weaker (λ n. ⊥) IsWhole none ns all)
      by (Some a) all = of_kind a.kind all

-- ---- snapshots of a run are snapshots of its attributes

declared_one : (script : Script) → AreApart (run_attributes script) → (e : Entry) → IsOf script e
    → props_of (run_attributes script) e.attr.name ≡ Some e.attr.props
declared_one script apart e of = ap (option_map (λ (a : Attribute). a.props))
    (found_itself (run_attributes script) apart e.attr of.there)

pub shot_snapshot : (script : Script) → AreApart (run_attributes script) → (r : Rec)
    → IsShot script r → IsSnapshot (run_attributes script) r
shot_snapshot script apart r shot = record {
  paths = all_weaker (InPath script) (IsInPath (run_attributes script))
      (λ e is. record { declared = declared_one script apart e is.of; reference = is.reference })
      (joined r.paths) shot.paths;
  imms = all_weaker (Immediate script) (IsImmediate (run_attributes script))
      (λ e is. record { declared = declared_one script apart e is.of; value = is.value })
      r.imms shot.imms;
}

-- ---- sums

module _ (script : Script) (apart : AreApart (run_attributes script)) (channel : ChannelQuery)
    (named : IsNamed (run_attributes script) channel) (attr : List ℕ)
    (value : Contains channel.values attr) where
  -- what a snapshot contributes: its last number, if it has one
  pub record Contributes (ns : List Num) : Type 0 where
    pub one : AllByRecursion (IsOne script apart attr (found script apart attr)) ns
    pub few : length ns ≤ 1

  contributes : (r : Rec) → IsShot script r → Contributes (contributions kernel.Sum attr r)
  contributes r shot = by (last_number attr r) refl (last_number (codes "sum#" ++ attr) r) earlier
    where
      earlier : last_number (codes "sum#" ++ attr) r ≡ None
      earlier =
          let snap = shot_snapshot script apart r shot in
          let none = named.results (agg_of kernel.Sum attr)
          (sum_kept channel named.once attr value) in
          ap (λ es. last_or None (filter_map (λ (e : Entry). number_in e.value) es))
          (filter-append (is_named (codes "sum#" ++ attr)) (joined r.paths) r.imms
          ∙ (λ i. paths_without (run_attributes script) (codes "sum#" ++ attr) none r snap i
          ++ imms_without (run_attributes script) (codes "sum#" ++ attr) none r snap i))

      by : (o : Option Num) → last_number attr r ≡ o → (p : Option Num) → p ≡ None
          → Contributes (cons_option (last_number attr r) (cons_option p []))
      by None is p none = rw (is, none) (record { one = tt; few = omega arith })
      by (Some n) is p none = rw (is, none) (record {
        one = (last_one script apart attr r shot n is, tt);
        few = omega arith;
      })

  all_contribute : (rs : List Rec) → AllByRecursion (IsShot script) rs
      → AllByRecursion (IsOne script apart attr (found script apart attr))
      (contributed (agg_of kernel.Sum attr) rs)
      × (length (contributed (agg_of kernel.Sum attr) rs) ≤ length rs)
  all_contribute [] all = (tt, omega arith)
  all_contribute (r ∷ rs) all =
      let first = contributes r all.0 in
      let rest = all_contribute rs all.1 in (
        all-append (IsOne script apart attr (found script apart attr))
            (contributions kernel.Sum attr r) (contributed (agg_of kernel.Sum attr) rs)
            first.one rest.0,
        omega (
          arith,
          length-append (contributions kernel.Sum attr r)
              (contributed (agg_of kernel.Sum attr) rs),
          first.few,
          rest.1,
        ),
      )

filter_short : (test : Rec → Bool) (rs : List Rec) → length (filter test rs) ≤ length rs
filter_short test [] = omega arith
filter_short test (r ∷ rs) = by (test r) (filter_short test rs)
  where
    by : (b : Bool) → length (filter test rs) ≤ length rs
        → length (if b then r ∷ filter test rs else filter test rs) ≤ length (r ∷ rs)
    by true short = omega arith
    by false short = omega arith

-- So the sums of each channel are there.
pub run_sums : (script : Script) → AreApart (run_attributes script) → (channel : ChannelQuery)
    → IsNamed (run_attributes script) channel → (trace : List Rec)
    → AllByRecursion (IsShot script) trace → length trace ≤ 1048576 → HasSums channel trace
run_sums script apart channel named trace shots few attr value test absent =
    let rs = filter test trace in
    let all = all_contribute script apart channel named attr value rs
    (all-filter (IsShot script) test trace shots) in
    sum_there (contributed (agg_of kernel.Sum attr) rs)
    (summed script apart attr (contributed (agg_of kernel.Sum attr) rs) all.0)
    (omega (arith, all.1, filter_short test trace)) absent

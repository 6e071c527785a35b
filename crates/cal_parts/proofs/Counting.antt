-- What is read of records by number, as the same is read of records.
use Rattle.std.proofs.Common.{◌≡◌, ℕ, pos, Bool, true, false, List, [], ◌∷◌, map, length, refl, sym, ◌∙◌, ap}
use Rattle.std.proofs.Common.{Option, None, Some, option_map, option_and_then, slice_get}
use Rattle.std.specs.Prelude.{codes, unwrap_or, if◌then◌else◌}
use Rattle.std.specs.List.{All, cons_option, filter, filter_map, last_or}
use Rattle.std.proofs.lemmas.List.Elements.{All-weaker}
use Rattle.cal_agg.specs.Numbers.{is_fixed}
use Rattle.cal_agg.specs.declared.num.Num.{Num}
use Rattle.cal_agg.specs.declared.num.Num.TheVariants.{Whole, Fixed}
use Rattle.cal_context.specs.Tree.{Tree}
use Rattle.cal_filter.specs.Known.{Covers, Knows, KnowsAll, KnowsSoMany}
use Rattle.cal_filter.specs.Named.{is_named, last_number}
use Rattle.cal_filter.specs.Numbers.{number_in, whole_in}
use Rattle.cal_filter.specs.Sought as seeking
use Rattle.cal_filter.specs.Sought.{Sought, last_sought, number_of, seeks, whole_of}
use Rattle.cal_filter.specs.declared.counts.Counts.{Counts}
use Rattle.cal_filter.proofs.OperandLemmas.{number_sought_is}
use Rattle.cal_filter.proofs.ReadyLemmas.{knows_counted, knows_covered}
use Rattle.cal_ql.specs.declared.names.KernelName as kernels
use Rattle.cal_ql.specs.declared.names.KernelName.TheVariants as kernel
use Rattle.cal_value.specs.Flat.{flat}
use Rattle.cal_value.specs.declared.attribute.Entry.{Entry}
use Rattle.cal_value.specs.declared.record.Rec.{Rec}
use Rattle.cal_parts.specs.Counters.{AreCounters, AreReadyCounters, CountsFor, number_at, sought_for}
use Rattle.cal_parts.specs.Kernels.{contributions_by, last_whole, weight}
use Rattle.cal_parts.specs.Parts.{part_over}
use Rattle.cal_parts.specs.Readings.{part_of}
use Rattle.cal_parts.specs.declared.counter.Counter.{Counter}
use Rattle.cal_parts.specs.declared.counters.Counters.{Counters}
use Rattle.cal_parts.specs.declared.reading.Reading.{Reading}

-- ---- the last whole number of a name

-- a whole number is a number
whole_number : (o : Option Num) (n : Num) → option_and_then (λ m. if is_fixed m then None else Some m) o ≡ Some n → o ≡ Some n
whole_number None n h = h
whole_number (Some (Whole z)) n h = h
whole_number (Some (Fixed z)) n h = cc

abbrev IsLastWhole : List ℕ → List Entry → Option Entry → Type 0
IsLastWhole name es o =
    option_and_then (λ e. number_in e.value) (last_or o (filter (seeks (whole_of name)) es))
    ≡ last_or (option_and_then (λ e. number_in e.value) o) (filter_map (λ e. whole_in e.value) (filter (is_named name) es))

whole_next : (name : List ℕ) (e : Entry) (es : List Entry) → ((o : Option Entry) → IsLastWhole name es o) → (o : Option Entry)
    → (b : Bool) → is_named name e ≡ b → (n : Option Num) → whole_in e.value ≡ n → IsLastWhole name (e ∷ es) o
whole_next name e es rest o false is n num = rw is (rest o)
whole_next name e es rest o true is None num = rw (is, num) (rest o)
whole_next name e es rest o true is (Some n) num =
    rw (is, num) (rest (Some e)
    ∙ ap (λ m. last_or m (filter_map (λ e. whole_in e.value) (filter (is_named name) es))) (whole_number (number_in e.value) n num))

last_whole_is : (name : List ℕ) (es : List Entry) (o : Option Entry) → IsLastWhole name es o
last_whole_is name [] o = refl
last_whole_is name (e ∷ es) o = whole_next name e es (last_whole_is name es) o (is_named name e) refl (whole_in e.value) refl

value_number : (o : Option Entry) → option_and_then number_in (option_map (λ e. e.value) o) ≡ option_and_then (λ e. number_in e.value) o
value_number None = refl
value_number (Some e) = refl

whole_sought_is : (name : List ℕ) (r : Rec) → seeking.number_sought (whole_of name) (flat r) ≡ last_whole name r
whole_sought_is name r = value_number (last_sought (whole_of name) (flat r)) ∙ last_whole_is name (flat r) None

-- ---- and numbers

filter_map_numbers : (names : List (List ℕ)) (r : Rec)
    → filter_map (λ s. seeking.number_sought s (flat r)) (map number_of names) ≡ filter_map (λ name. last_number name r) names
filter_map_numbers [] r = refl
filter_map_numbers (name ∷ names) r = λ i. cons_option (number_sought_is name r i) (filter_map_numbers names r i)

-- what a kernel other than `count` seeks
seeks_names : (k : kernels.KernelName) → (k ≡ kernel.Count → ⊥) → (names : List (List ℕ)) (r : Rec)
    → (sought_for k names ≡ map number_of names) × (contributions_by k names r ≡ filter_map (λ name. last_number name r) names)
seeks_names kernel.Count h names r = absurd (h refl)
seeks_names kernel.Sum h names r = (refl, refl)
seeks_names kernel.Min h names r = (refl, refl)
seeks_names kernel.Max h names r = (refl, refl)
seeks_names kernel.Avg h names r = (refl, refl)
seeks_names kernel.Inclusive h names r = (refl, refl)
seeks_names kernel.Percent h names r = (refl, refl)

-- what is found at the places of what is sought
found_at_places : (all : List Sought) (es : List Entry) (places : List ℕ) (seeks : List Sought) → map (slice_get all) places ≡ map Some seeks
    → filter_map (number_at all es) places ≡ filter_map (λ s. seeking.number_sought s es) seeks
found_at_places all es [] [] h = refl
found_at_places all es [] (s ∷ seeks) h = cc
found_at_places all es (p ∷ places) [] h = cc
found_at_places all es (p ∷ places) (s ∷ seeks) h =
    let first : slice_get all p ≡ Some s = cc in
    let rest : map (slice_get all) places ≡ map Some seeks = cc in
    λ i. cons_option (option_and_then (λ s. seeking.number_sought s es) (first i)) (found_at_places all es places seeks rest i)

-- the part of a record
pub part_numbers : (all : List Sought) (r : Reading) (c : Counter) (rec : Rec) → CountsFor all r c → (c.kernel ≡ kernel.Count → ⊥)
    → part_over c.kernel (filter_map (number_at all (flat rec)) c.places.items) ≡ part_of r rec
part_numbers all r c rec counts other =
    let names = seeks_names r.kernel (λ e. other (counts.kernel ∙ e)) r.names rec in
    λ i. part_over (counts.kernel i) ((found_at_places all (flat rec) c.places.items (sought_for r.kernel r.names) counts.places
    ∙ ap (filter_map (λ w. seeking.number_sought w (flat rec))) names.0
    ∙ filter_map_numbers r.names rec ∙ sym names.1) i)

pub part_weight : (all : List Sought) (r : Reading) (c : Counter) (rec : Rec) (n : Num) → CountsFor all r c → c.kernel ≡ kernel.Count
    → (map (slice_get all) c.places.items ≡ Some (whole_of (codes "count")) ∷ [] → n ≡ weight rec) → part_over c.kernel (n ∷ []) ≡ part_of r rec
part_weight all r c rec n counts count weighs =
    let k : r.kernel ≡ kernel.Count = sym counts.kernel ∙ count in
    let seeks : map (slice_get all) c.places.items ≡ Some (whole_of (codes "count")) ∷ [] = counts.places ∙ ap (λ k. map Some (sought_for k r.names)) k in
    (λ i. part_over (counts.kernel i) (weighs seeks i ∷ []))
    ∙ sym (ap (λ k. part_over r.kernel (contributions_by k r.names rec)) k)

-- the weight that is found at the first place
pub weighed : (all : List Sought) (places : List ℕ) (first : ℕ) (r : Rec) → slice_get places 0 ≡ Some first
    → map (slice_get all) places ≡ Some (whole_of (codes "count")) ∷ []
    → unwrap_or (number_at all (flat r) first) (Whole (pos 1)) ≡ weight r
weighed all [] first r at seeks = cc
weighed all (p ∷ rest) first r at seeks =
    let same : p ≡ first = cc in
    let is : slice_get all p ≡ Some (whole_of (codes "count")) = cc in
    ap (λ o. unwrap_or o (Whole (pos 1)))
    (ap (option_and_then (λ s. seeking.number_sought s (flat r))) (ap (slice_get all) (sym same) ∙ is)
    ∙ whole_sought_is (codes "count") r)

pub unweighed : (all : List Sought) (places : List ℕ) → slice_get places 0 ≡ None → map (slice_get all) places ≡ Some (whole_of (codes "count")) ∷ [] → ⊥
unweighed all [] at seeks = cc
unweighed all (p ∷ rest) at seeks = cc

-- ---- counters that stay right

pub ready_counters : (t : Tree) (rs : List Reading) (cs : Counters) → AreReadyCounters t rs cs → AreCounters t rs cs
ready_counters t rs cs h = record {
  counts = h.counts;
  knows = All-weaker (KnowsAll t) (Knows t) (λ s x. x.knows) cs.seekers.items h.knows;
}

-- counters that know as much as a context has, and the other way
pub counters_covered : (t : Tree) (n : Counts) → Covers t n → (rs : List Reading) (cs : Counters)
    → All (KnowsSoMany n) cs.seekers.items → AreCounters t rs cs → AreReadyCounters t rs cs
counters_covered t n covers rs cs many h = record {
  counts = h.counts;
  knows = λ i x short. knows_covered t n covers _ (many i x short) (h.knows i x short);
}

pub counters_counted : (t : Tree) (n : Counts) → n.attributes ≡ length t.attributes → n.nodes ≡ length t.paths → (rs : List Reading)
    (cs : Counters) → AreReadyCounters t rs cs → All (KnowsSoMany n) cs.seekers.items
counters_counted t n attributes nodes rs cs h = λ i x short. knows_counted t n attributes nodes _ (h.knows i x short)

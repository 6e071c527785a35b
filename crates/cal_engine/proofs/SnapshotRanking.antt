-- The places of rows by number, sorted by the values that stand beside them, give the rows sorted.
use Rattle.std.proofs.Common.{◌≡◌, ℕ, Bool, true, false, ◌+◌, ◌<◌, ◌≤◌, ◌&&◌, if◌then◌else◌, List, [], ◌∷◌, ◌++◌, Bor, drop, filter, get_or, length, map, take, refl, sym, ap, ◌∙◌, arith}
use Rattle.std.specs.Prelude.{None, option_map}
use Rattle.std.specs.Cmp.{IsStrictWeakOrder, IsTotalOrder}
use Rattle.std.specs.Cmp.Lexicographic.{options_total}
use Rattle.std.specs.Fn.{Called, Mut}
use Rattle.std.specs.List.{last_or}
use Rattle.std.specs.List.Sorted.{IsSortedByClosure, IsStableByClosure}
use Rattle.std.specs.Option.{option_cmp}
use Rattle.std.specs.Ordering.{is_lt, ordering_then}
use Rattle.std.specs.declared.cmp.Ordering.{Ordering}
use Rattle.std.specs.declared.cmp.Ordering.TheVariants.{Less, Equal, Greater}
use Rattle.std.proofs.lemmas.Cmp.{on_total, then_total}
use Rattle.std.proofs.lemmas.Fn.{always_returns_same}
use Rattle.std.proofs.lemmas.Grind.{common_steps}
use Rattle.std.proofs.lemmas.List.{drop-append-le, map-append, map_more, take-append-drop}
use Rattle.std.proofs.lemmas.List.Sorted.{ranks_by}
use Rattle.cal_context.specs.Tree.{Tree}
use Rattle.cal_filter.specs.Known.{sought}
use Rattle.cal_filter.specs.Named.{is_named}
use Rattle.cal_filter.specs.Sought.{any_of, seeks, value_sought}
use Rattle.cal_filter.specs.declared.seeker.Seeker.{Seeker}
use Rattle.cal_ql.specs.declared.query.OrderKey.{OrderKey}
use Rattle.cal_rowset.specs.NumberedRows.{NumberedRow, in_order, meant, nth_numbered}
use Rattle.cal_value.specs.Flat.{flat}
use Rattle.cal_value.specs.Order.{value_cmp}
use Rattle.cal_value.specs.OrderLaws.{value_exact}
use Rattle.cal_value.specs.declared.attribute.Entry.{Entry}
use Rattle.cal_value.specs.declared.record.Rec.{Rec}
use Rattle.cal_engine.specs.Ranks.{rank, ranked_cmp, values_cmp}
use Rattle.cal_engine.specs.SnapshotRanks.{AreRanked, as_rank, rank_by, ranked_values}
use Rattle.cal_engine.specs.Sorting.{directed, row_cmp, sorted, sorted_rows, value_named}
use Rattle.cal_engine.specs.declared.snapshot_order.RankedPlace.{RankedPlace}
use Rattle.cal_engine.specs.declared.sorting.Ranked.{Ranked}
use Rattle.cal_engine.proofs.Ranking.{directed_total, equal_total, rank_cmp, rows_again, sorted-map, sorted_without_keys, values_total}
use Rattle.cal_engine.proofs.Sorts.{sorted-unique, sorted_twice}

-- ---- the values that seekers find are those of the keys' names

any_filter : (name : List ℕ) (es : List Entry) → filter (seeks (any_of name)) es ≡ filter (is_named name) es
any_filter name [] = refl
any_filter name (e ∷ es) = by (is_named name e) (any_filter name es)
  where
    by : (b : Bool) → filter (seeks (any_of name)) es ≡ filter (is_named name) es
        → (if b && true then e ∷ filter (seeks (any_of name)) es else filter (seeks (any_of name)) es)
        ≡ (if b then e ∷ filter (is_named name) es else filter (is_named name) es)
    by true rest = ap (λ fs. e ∷ fs) rest
    by false rest = rest

any_value : (name : List ℕ) (r : Rec) → value_sought (any_of name) (flat r) ≡ value_named name r
any_value name r = ap (λ es. option_map (λ (e : Entry). e.value) (last_or None es)) (any_filter name (flat r))

values_by_sought : (es : List Entry) (seekers : List Seeker) → map (λ s. value_sought (sought s) es) seekers ≡ map (λ k. value_sought k es) (map sought seekers)
values_by_sought es [] = refl
values_by_sought es (s ∷ ss) = ap (λ vs. value_sought (sought s) es ∷ vs) (values_by_sought es ss)

values_by_keys : (r : Rec) (keys : List OrderKey) → map (λ k. value_sought k (flat r)) (map (λ key. any_of key.name) keys) ≡ map (λ key. value_named key.name r) keys
values_by_keys r [] = refl
values_by_keys r (key ∷ keys) = λ i. any_value key.name r i ∷ values_by_keys r keys i

-- ---- ranks of rows by number

module _ (keys : List OrderKey) (first : Seeker) (others : List Seeker) (seek : map sought (first ∷ others) ≡ map (λ key. any_of key.name) keys) where
  ranks_same : (rows : List Rec) → map (rank_by first others) rows ≡ map (rank keys) rows
  ranks_same [] = refl
  ranks_same (row ∷ rows) = λ i. record { values = values i; row = row } ∷ ranks_same rows i
    where
      values : map (λ s. value_sought (sought s) (flat row)) (first ∷ others) ≡ map (λ key. value_named key.name row) keys
      values =
          values_by_sought (flat row) (first ∷ others)
          ∙ ap (map (λ k. value_sought k (flat row))) seek
          ∙ values_by_keys row keys

-- one row more
pub ranked_next : (t : Tree) (first : Seeker) (others : List Seeker) (rows : List NumberedRow) (places : List ℕ) (n : ℕ)
    (one : RankedPlace) (before after : List RankedPlace) → n < length places → get_or places n one.place ≡ one.place
    → AreRanked t first others rows (in_order rows (take n places)) before
    → ranked_values one ≡ (rank_by first others (meant t (nth_numbered rows one.place))).values
    → after ≡ before ++ one ∷ []
    → AreRanked t first others rows (in_order rows (take (n + 1) places)) after
ranked_next t first others rows places n one before after within is ranked values more =
    let rank_of = rank_by first others in
    let row = λ (p : ℕ). meant t (nth_numbered rows p) in
    let seen = in_order rows (take n places) in
    ap (map (as_rank t rows)) more
    ∙ map-append (as_rank t rows) before (one ∷ [])
    ∙ (λ i. ranked i ++ record { values = values i; row = row one.place } ∷ [])
    ∙ sym (
    ap (λ more. map rank_of (map (meant t) more)) (map_more (nth_numbered rows) places n one.place within)
    ∙ ap (map rank_of) (map-append (meant t) seen (nth_numbered rows (get_or places n one.place) ∷ []))
    ∙ map-append rank_of (map (meant t) seen) (row (get_or places n one.place) ∷ [])
    ∙ ap (λ p. map rank_of (map (meant t) seen) ++ rank_of (row p) ∷ []) is)

-- ---- what the sort leaves

-- the order of rows by number
abbrev pub by_values : List OrderKey → RankedPlace → RankedPlace → Ordering
by_values keys one other = values_cmp keys (ranked_values one) (ranked_values other)

by_values_weak : (keys : List OrderKey) → IsStrictWeakOrder (λ x y. is_lt (by_values keys x y))
by_values_weak keys = ranks_by (values_total keys) ranked_values

pub sorted_by_values : {F : Type 0} {g : Mut F (Bor RankedPlace × (Bor RankedPlace × Unit {0})) Ordering} {f : F}
    (keys : List OrderKey) (before after : List RankedPlace)
    → IsSortedByClosure g f after → IsStableByClosure g f before after
    → ((a : Bor RankedPlace × (Bor RankedPlace × Unit {0})) (r : Ordering) (f' : F) → Called g f a r f'
    → (r ≡ values_cmp keys (ranked_values a.0.now) (ranked_values a.1.0.now)) × (f' ≡ f))
    → after ≡ sorted (by_values keys) before
sorted_by_values {g = g} {f = f} keys before after up stable answers =
    let compares = always_returns_same g (λ a r. is_lt r ≡ is_lt (by_values keys a.0.now a.1.0.now)) f
    (λ a r f' k. (ap is_lt (answers a r f' k).0, (answers a r f' k).1)) in
    let lt = λ (x y : RankedPlace). is_lt (by_values keys x y) in
    sorted-unique (by_values keys) (by_values_weak keys) before after (up lt (by_values_weak keys) compares) (stable lt (by_values_weak keys) compares)

rows_of_ranks : (t : Tree) (rows : List NumberedRow) (rs : List RankedPlace)
    → map (λ (r : Ranked). r.row) (map (as_rank t rows) rs) ≡ map (meant t) (in_order rows (map (λ (r : RankedPlace). r.place) rs))
rows_of_ranks t rows [] = refl
rows_of_ranks t rows (r ∷ rs) = ap (λ more. (as_rank t rows r).row ∷ more) (rows_of_ranks t rows rs)

pub sorted_means : (t : Tree) (keys : List OrderKey) (first : Seeker) (others : List Seeker) (rows seen : List NumberedRow) (before after : List RankedPlace)
    → map sought (first ∷ others) ≡ map (λ key. any_of key.name) keys → AreRanked t first others rows seen before → after ≡ sorted (by_values keys) before
    → map (meant t) (in_order rows (map (λ (r : RankedPlace). r.place) after)) ≡ sorted_rows keys (map (meant t) seen)
sorted_means t keys first others rows seen before after seek is left =
    sym (rows_of_ranks t rows after)
    ∙ ap (map (λ (r : Ranked). r.row))
    (ap (map (as_rank t rows)) left
    ∙ sym (sorted-map (as_rank t rows) (by_values keys) (ranked_cmp keys) (λ x y. refl) before)
    ∙ ap (sorted (ranked_cmp keys)) (is ∙ ranks_same keys first others seek (map (meant t) seen))
    ∙ sorted-map (rank keys) (row_cmp keys) (ranked_cmp keys) (rank_cmp keys) (map (meant t) seen))
    ∙ rows_again keys (sorted (row_cmp keys) (map (meant t) seen))

-- without keys rows stay as they are
pub unsorted : (keys : List OrderKey) (seekers : List Seeker) (rows : List Rec)
    → map sought seekers ≡ map (λ key. any_of key.name) keys → length seekers ≡ 0
    → rows ≡ sorted_rows keys rows
unsorted [] seekers rows seek none = sorted_without_keys rows
unsorted (key ∷ keys) [] rows seek none = cc
unsorted (key ∷ keys) (s ∷ ss) rows seek none = absurd (omega (arith, none))

-- ---- sorted by some keys, and then by those before them

row_total : (keys : List OrderKey) → IsTotalOrder (row_cmp keys)
row_total [] = equal_total
row_total (key ∷ keys) =
    then_total
    (on_total (value_named key.name) (directed_total (options_total value_exact.total) key.down))
    (row_total keys)

then_then : (a b c : Ordering) → ordering_then a (ordering_then b c) ≡ ordering_then (ordering_then a b) c
then_then Less b c = refl
then_then Equal b c = refl
then_then Greater b c = refl

row_cmp-append : (keys more : List OrderKey) (row other : Rec)
    → row_cmp (keys ++ more) row other ≡ ordering_then (row_cmp keys row other) (row_cmp more row other)
row_cmp-append [] more row other = refl
row_cmp-append (key ∷ keys) more row other =
    let answer = directed key.down (option_cmp value_cmp (value_named key.name row) (value_named key.name other)) in
    ap (ordering_then answer) (row_cmp-append keys more row other)
    ∙ then_then answer (row_cmp keys row other) (row_cmp more row other)

pub sorted_by_more : (keys more : List OrderKey) (rows : List Rec)
    → sorted_rows keys (sorted_rows more rows) ≡ sorted_rows (keys ++ more) rows
sorted_by_more keys more rows =
    sorted_twice (row_total keys) (row_total more) rows
    ∙ ap (λ cmp. sorted cmp rows) (λ i row other. sym (row_cmp-append keys more row other) i)

-- the keys from one on are those up to another one and those from there on
pub keys_between : (keys : List OrderKey) (from left : ℕ) → from ≤ left → left ≤ length keys
    → drop from (take left keys) ++ drop left keys ≡ drop from keys
keys_between keys from left below within =
    sym (drop-append-le from (take left keys) (drop left keys) (grind (arith, common_steps, below, within)))
    ∙ ap (drop from) (take-append-drop left keys)

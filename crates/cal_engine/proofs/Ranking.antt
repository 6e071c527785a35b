-- Rows sorted by the values that stand beside them are the rows sorted.
use Rattle.std.proofs.Common.{◌≡◌, ◌≢◌, ℕ, ◌+◌, ◌<◌, Bool, true, false, List, [], ◌∷◌, Option, map, drop, length, get_or, refl, sym, ap, ◌∙◌}
use Rattle.std.specs.Cmp.{IsStrictWeakOrder, IsTotalOrder}
use Rattle.std.specs.Cmp.Lexicographic.{options_total}
use Rattle.std.specs.List.Sorted.{IsSortedByClosure, IsStableByClosure}
use Rattle.std.specs.Option.{option_cmp}
use Rattle.std.specs.Ordering.{is_lt, ordering_reverse, ordering_then}
use Rattle.std.specs.declared.cmp.Ordering.{Ordering}
use Rattle.std.specs.declared.cmp.Ordering.TheVariants.{Less, Equal, Greater}
use Rattle.std.proofs.lemmas.Cmp.{on_total, then_total}
use Rattle.std.proofs.lemmas.List.Sorted.{ranks_by}
use Rattle.cal_ql.specs.declared.query.OrderKey.{OrderKey}
use Rattle.cal_value.specs.Order.{value_cmp}
use Rattle.cal_value.specs.OrderLaws.{value_exact}
use Rattle.cal_value.specs.declared.record.Rec.{Rec}
use Rattle.cal_value.specs.declared.variant.Variant.{Variant}
use Rattle.cal_engine.specs.Ranks.{rank, ranked_cmp, value_in, values_cmp}
use Rattle.cal_engine.specs.Sorting.{directed, put_in, row_cmp, sorted, sorted_rows, value_named}
use Rattle.cal_engine.specs.declared.sorting.Ranked.{Ranked}
use Rattle.std.specs.Fn.{Called, Mut}
use Rattle.std.specs.Prelude.{option_and_then}
use Rattle.std.proofs.Common.{Bor}
use Rattle.std.proofs.lemmas.Fn.{always_returns_same}
use Rattle.cal_parts.proofs.Drops.{drop_one, first_of_drop, rest_at}
use Rattle.cal_engine.proofs.Sorts.{sorted-unique}

-- ---- the order of values is total

reverse_twice : (a : Ordering) → ordering_reverse (ordering_reverse a) ≡ a
reverse_twice Less = refl
reverse_twice Equal = refl
reverse_twice Greater = refl

turned_total : {K : Type 0} {R : K → K → Ordering} → IsTotalOrder R → IsTotalOrder (λ x y. R y x)
turned_total o = record {
  antisymm = λ x y. o.antisymm y x;
  trans = λ x y z a b. o.trans z y x b a;
  congr = λ x y z e.
      let back = o.antisymm x y ∙ ap ordering_reverse e in
      o.antisymm z x ∙ ap ordering_reverse (o.congr x y z back) ∙ sym (o.antisymm z y);
}

directed_is : {K : Type 0} {R : K → K → Ordering} → IsTotalOrder R → (x y : K) → directed true (R x y) ≡ R y x
directed_is {K} {R} o x y = ap ordering_reverse (o.antisymm x y) ∙ reverse_twice (R y x)

pub directed_total : {K : Type 0} {R : K → K → Ordering} → IsTotalOrder R → (down : Bool) → IsTotalOrder (λ x y. directed down (R x y))
directed_total o false = o
directed_total {K} {R} o true =
    let turned = turned_total o in
    record {
      antisymm = λ x y. directed_is o x y ∙ turned.antisymm x y ∙ ap ordering_reverse (sym (directed_is o y x));
      trans = λ x y z a b. directed_is o x z ∙ turned.trans x y z (sym (directed_is o x y) ∙ a) (sym (directed_is o y z) ∙ b);
      congr = λ x y z e. directed_is o x z ∙ turned.congr x y z (sym (directed_is o x y) ∙ e) ∙ sym (directed_is o y z);
    }

pub equal_total : {K : Type 0} → IsTotalOrder {K = K} (λ x y. Equal)
equal_total = record {
  antisymm = λ x y. refl;
  trans = λ x y z a b. a;
  congr = λ x y z e. refl;
}

pub values_total : (keys : List OrderKey) → IsTotalOrder (values_cmp keys)
values_total [] = equal_total
values_total (key ∷ keys) =
    then_total
    (on_total (λ vs. value_in vs 0) (directed_total (options_total value_exact.total) key.down))
    (on_total (λ vs. drop 1 vs) (values_total keys))

ranked_weak : (keys : List OrderKey) → IsStrictWeakOrder (λ x y. is_lt (ranked_cmp keys x y))
ranked_weak keys = ranks_by (values_total keys) (λ (r : Ranked). r.values)

-- ---- it is that of the rows

pub rank_cmp : (keys : List OrderKey) (row other : Rec) → ranked_cmp keys (rank keys row) (rank keys other) ≡ row_cmp keys row other
rank_cmp [] row other = refl
rank_cmp (key ∷ keys) row other =
    ap (ordering_then (directed key.down (option_cmp value_cmp (value_named key.name row) (value_named key.name other))))
    (rank_cmp keys row other)

module _ {A B : Type 0} (f : A → B) (R : A → A → Ordering) (S : B → B → Ordering) (same : (x y : A) → S (f x) (f y) ≡ R x y) where
  put_in-map : (x : A) (ys : List A) → put_in S (f x) (map f ys) ≡ map f (put_in R x ys)
  put_in-map x [] = refl
  put_in-map x (y ∷ ys) = by (is_lt (R y x)) refl (put_in-map x ys)
    where
      by : (b : Bool) → is_lt (R y x) ≡ b → put_in S (f x) (map f ys) ≡ map f (put_in R x ys)
          → put_in S (f x) (map f (y ∷ ys)) ≡ map f (put_in R x (y ∷ ys))
      by true e rest = let other = ap is_lt (same y x) ∙ e in rw (e, other) (ap (λ zs. f y ∷ zs) rest)
      by false e rest = let other = ap is_lt (same y x) ∙ e in rw (e, other) refl

  pub sorted-map : (xs : List A) → sorted S (map f xs) ≡ map f (sorted R xs)
  sorted-map [] = refl
  sorted-map (x ∷ xs) = ap (put_in S (f x)) (sorted-map xs) ∙ put_in-map x (sorted R xs)

pub rows_again : (keys : List OrderKey) (rows : List Rec) → map (λ (r : Ranked). r.row) (map (rank keys) rows) ≡ rows
rows_again keys [] = refl
rows_again keys (row ∷ rows) = ap (λ rs. row ∷ rs) (rows_again keys rows)

-- ---- comparing by one key more

pub values_next : (keys : List OrderKey) (vs ws : List (Option Variant)) (n : ℕ) (key : OrderKey) → n < length keys → key ≡ get_or keys n key
    → values_cmp (drop n keys) (drop n vs) (drop n ws)
    ≡ ordering_then (directed key.down (option_cmp value_cmp (value_in vs n) (value_in ws n)))
    (values_cmp (drop (n + 1) keys) (drop (n + 1) vs) (drop (n + 1) ws))
values_next keys vs ws n key l e =
    ap (λ ks. values_cmp ks (drop n vs) (drop n ws)) (rest_at keys n key l e)
    ∙ (λ i. ordering_then
    (directed key.down (option_cmp value_cmp (option_and_then (λ v. v) (first_of_drop n vs i)) (option_and_then (λ v. v) (first_of_drop n ws i))))
    (values_cmp (drop (n + 1) keys) (drop_one n vs i) (drop_one n ws i)))

pub then_other : (down : Bool) (answer rest : Ordering) → answer ≢ Equal → ordering_then (directed down answer) rest ≡ directed down answer
then_other true Less rest ne = refl
then_other true Equal rest ne = absurd (ne refl)
then_other true Greater rest ne = refl
then_other false Less rest ne = refl
then_other false Equal rest ne = absurd (ne refl)
then_other false Greater rest ne = refl

pub then_equal : (down : Bool) (answer rest : Ordering) → answer ≡ Equal → ordering_then (directed down answer) rest ≡ rest
then_equal true answer rest e = ap (λ a. ordering_then (directed true a) rest) e
then_equal false answer rest e = ap (λ a. ordering_then (directed false a) rest) e

-- ---- what the sort leaves

pub sorted_by_ranks : {F : Type 0} {g : Mut F (Bor Ranked × (Bor Ranked × Unit {0})) Ordering} {f : F}
    (keys : List OrderKey) (rows : List Rec) (before after : List Ranked)
    → before ≡ map (rank keys) rows
    → IsSortedByClosure g f after → IsStableByClosure g f before after
    → ((a : Bor Ranked × (Bor Ranked × Unit {0})) (r : Ordering) (f' : F) → Called g f a r f'
    → (r ≡ ranked_cmp keys a.0.now a.1.0.now) × (f' ≡ f))
    → map (λ r. r.row) after ≡ sorted_rows keys rows
sorted_by_ranks {g = g} {f = f} keys rows before after is up stable answers =
    let compares = always_returns_same g (λ a r. is_lt r ≡ is_lt (ranked_cmp keys a.0.now a.1.0.now)) f
    (λ a r f' k. (ap is_lt (answers a r f' k).0, (answers a r f' k).1)) in
    let lt = λ (x y : Ranked). is_lt (ranked_cmp keys x y) in
    ap (map (λ r. r.row))
    (sorted-unique (ranked_cmp keys) (ranked_weak keys) before after (up lt (ranked_weak keys) compares) (stable lt (ranked_weak keys) compares)
    ∙ ap (sorted (ranked_cmp keys)) is
    ∙ sorted-map (rank keys) (row_cmp keys) (ranked_cmp keys) (rank_cmp keys) rows)
    ∙ rows_again keys (sorted (row_cmp keys) rows)

-- without keys all rows tie
pub sorted_without_keys : (rows : List Rec) → rows ≡ sorted_rows [] rows
sorted_without_keys [] = refl
sorted_without_keys (row ∷ rows) = ap (λ rs. row ∷ rs) (sorted_without_keys rows) ∙ first row (sorted_rows [] rows)
  where
    first : (row : Rec) (rows : List Rec) → row ∷ rows ≡ put_in (row_cmp []) row rows
    first row [] = refl
    first row (other ∷ rows) = refl

-- Numbers sorted by what stands beside them are those of the rows in the order of their groups.
use Rattle.std.proofs.Common.{◌≡◌, Bool, true, false, ◌||◌, List, [], ◌∷◌, ◌++◌, map, refl, sym, ap, ◌∙◌}
use Rattle.std.proofs.Common.{Bor, ℕ, ◌<◌, Option, None, Some, append-nil, append_assoc, arith, filter}
use Rattle.std.proofs.Common.{length, not, reverse}
use Rattle.std.specs.Prelude.{option_map}
use Rattle.std.specs.Cmp.{IsStrictWeakOrder}
use Rattle.std.specs.Fn.{Called, Mut}
use Rattle.std.specs.List.{All, AllAdjacentBelow, AllByRecursion, cons_option, list_any}
use Rattle.std.specs.List.{range_with_len}
use Rattle.std.specs.List.Sorted.{IsSortedByClosure, IsStableBy, IsStableByClosure}
use Rattle.std.specs.Ordering.{is_lt}
use Rattle.std.specs.declared.cmp.Ordering.{Ordering}
use Rattle.std.proofs.lemmas.Fn.{always_returns_same}
use Rattle.std.proofs.lemmas.Cmp.{on_total}
use Rattle.std.proofs.lemmas.List.{ext_get_or, map-append, reverse-append}
use Rattle.std.proofs.lemmas.List.Elements.{filter-append, recursion_from_All}
use Rattle.std.proofs.lemmas.List.Folds.{list_any-append}
use Rattle.std.proofs.lemmas.List.FromFn.{get_or-map-range_with_len, get_or-range_with_len}
use Rattle.std.proofs.lemmas.List.FromFn.{length-map-range_with_len, length-range_with_len}
use Rattle.std.proofs.lemmas.List.Sorted.{ranks_by}
use Rattle.cal_agg.specs.declared.num.Num.{Num}
use Rattle.cal_context.specs.Tree.{Tree, path_at}
use Rattle.cal_engine.proofs.Making.{made-counted, made-row}
use Rattle.cal_engine.proofs.Sorts.{sorted-unique}
use Rattle.cal_engine.specs.Finishing.{Lists, entries_of_results, lists_at}
use Rattle.cal_parts.specs.Kernels.{contributed, result_of}
use Rattle.cal_keys.specs.Keys.{key_in}
use Rattle.cal_engine.specs.Making.{MakesRows, group_count, key_at, room_in}
use Rattle.cal_engine.specs.Sorting.{put_in, sorted}
use Rattle.cal_engine.specs.declared.grouped_rows.GroupedRows.{GroupedRows}
use Rattle.cal_filter.specs.Kept.{result_entry}
use Rattle.cal_filter.specs.Numbers.{value_of_number}
use Rattle.cal_profile.specs.Groups.{group_in, is_result, rows_cmp}
use Rattle.cal_ql.specs.declared.query.Agg.{Agg}
use Rattle.cal_records.proofs.RisingLemmas.{rising-sorted}
use Rattle.cal_records.specs.Ranks.{entries_at, group_at, key_entries, numbers_cmp, order_of}
use Rattle.cal_records.specs.declared.group_keys.AllKeys.{AllKeys}
use Rattle.cal_rowset.proofs.Seen.{is_same-refl}
use Rattle.cal_rowset.specs.Answers.{nth_row}
use Rattle.cal_rowset.specs.Texts.{is_same}
use Rattle.cal_value.specs.Order.{group_cmp}
use Rattle.cal_value.specs.OrderLaws.{group_exact}
use Rattle.cal_value.specs.declared.attribute.Entry.{Entry}
use Rattle.cal_value.specs.declared.record.Rec.{Rec}
use Rattle.cal_value.specs.declared.variant.Variant.{Variant}

or-true : (b : Bool) → (b || true) ≡ true
or-true true = refl
or-true false = refl

-- ---- a sort of items is one of what they stand for, where the orders agree

module _ {A B : Type 0} (f : A → B) (R : A → A → Ordering) (S : B → B → Ordering) (P : A → Type 0)
    (agree : (x y : A) → P x → P y → R x y ≡ S (f x) (f y)) where
  put_in-all : (x : A) (ys : List A) → P x → AllByRecursion P ys
      → AllByRecursion P (put_in R x ys)
  put_in-all x [] is all = (is, tt)
  put_in-all x (y ∷ ys) is all = by (is_lt (R y x)) refl (put_in-all x ys is all.1)
    where
      by : (b : Bool) → is_lt (R y x) ≡ b → AllByRecursion P (put_in R x ys)
          → AllByRecursion P (put_in R x (y ∷ ys))
      by true e rest = rw e (all.0, rest)
      by false e rest = rw e (is, (all.0, all.1))

  sorted-all : (xs : List A) → AllByRecursion P xs → AllByRecursion P (sorted R xs)
  sorted-all [] all = tt
  sorted-all (x ∷ xs) all = put_in-all x (sorted R xs) all.0 (sorted-all xs all.1)

  put_in-map : (x : A) (ys : List A) → P x → AllByRecursion P ys
      → map f (put_in R x ys) ≡ put_in S (f x) (map f ys)
  put_in-map x [] is all = refl
  put_in-map x (y ∷ ys) is all =
      by (is_lt (R y x)) refl (sym (ap is_lt (agree y x all.0 is))) (put_in-map x ys is all.1)
    where
      by : (b : Bool) → is_lt (R y x) ≡ b → is_lt (S (f y) (f x)) ≡ is_lt (R y x)
          → map f (put_in R x ys) ≡ put_in S (f x) (map f ys)
          → map f (put_in R x (y ∷ ys)) ≡ put_in S (f x) (map f (y ∷ ys))
      by true e same rest = rw (same, e) (ap (λ zs. f y ∷ zs) rest)
      by false e same rest = rw (same, e) refl

  pub sorted-map : (xs : List A) → AllByRecursion P xs
      → map f (sorted R xs) ≡ sorted S (map f xs)
  sorted-map [] all = refl
  sorted-map (x ∷ xs) all =
      put_in-map x (sorted R xs) all.0 (sorted-all xs all.1)
      ∙ ap (put_in S (f x)) (sorted-map xs all.1)

-- ---- the immediates of a group

-- the entries of results are results
no-results : (all front more : List Agg) (lists : Lists) → all ≡ front ++ more
    → filter (λ e. not (is_result all e)) (entries_of_results more lists) ≡ []
no-results all front [] lists is = refl
no-results all front (agg ∷ more) lists is =
    by (result_of agg.kernel (contributed agg lists.own) (contributed agg lists.all)
    (contributed agg lists.below)) refl
    (no-results all (front ++ agg ∷ []) more lists (is ∙ sym (append_assoc front (agg ∷ []) more)))
  where
    named : (v : Variant) → is_result all (result_entry agg.name v) ≡ true
    named v =
        ap (list_any (λ (a : Agg). is_same a.name agg.name)) is
        ∙ list_any-append (λ (a : Agg). is_same a.name agg.name) front (agg ∷ more)
        ∙ ap (λ b. list_any (λ (a : Agg). is_same a.name agg.name) front
        || (b || list_any (λ (a : Agg). is_same a.name agg.name) more)) (is_same-refl agg.name)
        ∙ or-true (list_any (λ (a : Agg). is_same a.name agg.name) front)

    by : (r : Option Num) → r ≡ result_of agg.kernel (contributed agg lists.own)
        (contributed agg lists.all) (contributed agg lists.below)
        → filter (λ e. not (is_result all e)) (entries_of_results more lists) ≡ []
        → filter (λ e. not (is_result all e)) (cons_option
        (option_map (λ n. result_entry agg.name (value_of_number n)) r)
        (entries_of_results more lists)) ≡ []
    by None e rest = rest
    by (Some n) e rest = rw (named (value_of_number n)) rest

-- so a group's own immediates are left of a row's
without-results : (aggs : List Agg) (lists : Lists) (es : List Entry)
    → filter (λ e. not (is_result aggs e)) (es ++ entries_of_results aggs lists)
    ≡ filter (λ e. not (is_result aggs e)) es
without-results aggs lists es =
    filter-append (λ e. not (is_result aggs e)) es (entries_of_results aggs lists)
    ∙ ap (λ ys. filter (λ e. not (is_result aggs e)) es ++ ys)
    (no-results aggs [] aggs lists refl)
    ∙ append-nil (filter (λ e. not (is_result aggs e)) es)

-- what a test keeps of a path, by what it keeps up to the parent and of the last entry
pub filtered-up : (p : Entry → Bool) (whole path parent : List Entry) (e : Entry)
    (old new : List Entry) → path ≡ parent ++ e ∷ [] → whole ≡ filter p path ++ reverse old
    → new ≡ old ++ filter p (e ∷ []) → whole ≡ filter p parent ++ reverse new
filtered-up p whole path parent e old new is before more =
    before
    ∙ ap (λ es. filter p es ++ reverse old) is
    ∙ ap (λ es. es ++ reverse old) (filter-append p parent (e ∷ []))
    ∙ append_assoc (filter p parent) (filter p (e ∷ [])) (reverse old)
    ∙ ap (λ es. filter p parent ++ es) (sym (ap reverse more ∙ turned (p e) refl))
  where
    turned : (b : Bool) → p e ≡ b
        → reverse (old ++ filter p (e ∷ [])) ≡ filter p (e ∷ []) ++ reverse old
    turned true kept = rw kept (reverse-append old (e ∷ []))
    turned false kept = rw kept (ap reverse (append-nil old))

-- items are turned round before or after they are read
pub map-reversed : {A B : Type 0} (f : A → B) (xs : List A)
    → map f (reverse xs) ≡ reverse (map f xs)
map-reversed f [] = refl
map-reversed f (x ∷ xs) =
    ap (map f) (reverse-append (x ∷ []) xs)
    ∙ map-append f (reverse xs) (x ∷ [])
    ∙ ap (λ ys. ys ++ f x ∷ []) (map-reversed f xs)
    ∙ sym (reverse-append (f x ∷ []) (map f xs))

-- ---- the numbers of rows

module _ (t room : Tree) (aggs : List Agg) (g : GroupedRows) (keys : AllKeys)
    (rs : List Rec) (is : room ≡ room_in t g) (made : MakesRows t aggs g rs)
    (are : (n : ℕ) → n < group_count g → entries_at keys n ≡ key_entries room aggs (key_at g n))
  where
    -- the group of a number is that of its row
    group-is : (n : ℕ) → n < length rs → group_at room g keys n ≡ group_in aggs (nth_row rs n)
    group-is n within =
        let key = key_at g n in
        let counted = made-counted t aggs g rs made in
        (λ i. record {
          paths = map (path_at (is i)) key.paths;
          imms = (are n (omega (arith, within, counted)) ∙ ap (λ r. key_entries r aggs key) is
              ∙ sym (without-results aggs (lists_at made.lists (key_in (room_in t g) key))
              (path_at (room_in t g) key.imms))) i;
        })
        ∙ ap (group_in aggs) (sym (made-row t aggs g rs made n within))

    agrees : (n m : ℕ) → n < length rs → m < length rs
        → numbers_cmp room g keys n m ≡ rows_cmp aggs (nth_row rs n) (nth_row rs m)
    agrees n m one other = λ i. group_cmp (group-is n one i) (group-is m other i)

    -- the numbers below their count are those of the rows
    all_rows : map (nth_row rs) (range_with_len 0 (group_count g)) ≡ rs
    all_rows =
        let counted = made-counted t aggs g rs made in
        ext_get_or (record { paths = []; imms = [] })
        (map (nth_row rs) (range_with_len 0 (group_count g))) rs
        (length-map-range_with_len (nth_row rs) 0 (group_count g) ∙ counted)
        (λ i l. get_or-map-range_with_len (nth_row rs) 0 (group_count g) i i _
        (omega (arith, l, length-map-range_with_len (nth_row rs) 0 (group_count g))) (omega arith))

    all_below : All (λ n. n < length rs) (range_with_len 0 (group_count g))
    all_below k d l =
        let counted = made-counted t aggs g rs made in
        let within : k < group_count g =
        omega (arith, l, length-range_with_len 0 (group_count g)) in
        omega (arith, within, counted, get_or-range_with_len 0 (group_count g) k d within)

    -- sorted by their groups they are those of the rows in the order of groups
    pub ordered_rows : map (nth_row rs) (order_of room g keys) ≡ sorted (rows_cmp aggs) rs
    ordered_rows =
        sorted-map (nth_row rs) (numbers_cmp room g keys) (rows_cmp aggs) (λ n. n < length rs)
        agrees (range_with_len 0 (group_count g)) (recursion_from_All (λ n. n < length rs) _ all_below)
        ∙ ap (sorted (rows_cmp aggs)) all_rows

-- ---- the order of numbers

module _ (room : Tree) (g : GroupedRows) (keys : AllKeys) where
  -- numbers that rise are in that order
  pub risen_numbers : (numbers : List ℕ) → length numbers ≡ group_count g
      → All (λ n. n < group_count g) numbers
      → AllAdjacentBelow (λ n m. is_lt (numbers_cmp room g keys n m) ≡ true) numbers
      (length numbers)
      → numbers ≡ order_of room g keys
  risen_numbers numbers many below rising =
      rising-sorted (numbers_cmp room g keys) (on_total (group_at room g keys) group_exact.total)
      (group_count g) numbers many below rising

  numbers_weak : IsStrictWeakOrder (λ x y. is_lt (numbers_cmp room g keys x y))
  numbers_weak = ranks_by group_exact.total (group_at room g keys)

  -- and so are those that a sort leaves
  pub sorted_numbers :
      {F : Type 0} {h : Mut F (Bor ℕ × (Bor ℕ × Unit {0})) Ordering} {f : F}
      (before mid after : List ℕ) → before ≡ range_with_len 0 (group_count g)
      → (IsStableBy (λ x y. is_lt (numbers_cmp room g keys x y)) mid after
      → IsStableBy (λ x y. is_lt (numbers_cmp room g keys x y)) before after)
      → IsSortedByClosure h f after → IsStableByClosure h f mid after
      → ((a : Bor ℕ × (Bor ℕ × Unit {0})) (r : Ordering) (f' : F) → Called h f a r f'
      → (r ≡ numbers_cmp room g keys a.0.now a.1.0.now) × (f' ≡ f))
      → after ≡ order_of room g keys
  sorted_numbers {h = h} {f = f} before mid after all first up stable answers =
      let lt = λ (x y : ℕ). is_lt (numbers_cmp room g keys x y) in
      let compares = always_returns_same h
      (λ a r. is_lt r ≡ is_lt (numbers_cmp room g keys a.0.now a.1.0.now)) f
      (λ a r f' k. (ap is_lt (answers a r f' k).0, (answers a r f' k).1)) in
      sorted-unique (numbers_cmp room g keys) numbers_weak before after
      (up lt numbers_weak compares) (first (stable lt numbers_weak compares))
      ∙ ap (sorted (numbers_cmp room g keys)) all

-- Headers, each once, and their places.
use Rattle.std.proofs.Common.{◌≡◌, ℕ, ◌+◌, ◌<◌, ◌≤◌, Bool, true, false, cond, List, [], ◌∷◌, ◌++◌}
use Rattle.std.proofs.Common.{◌⊎◌, inl, inr, length, get_or, slice_get, Some, Result, Ok, Err}
use Rattle.std.proofs.Common.{Ordering, Less, Equal, Greater, refl, sym, ap, ◌∙◌, subst, arith}
use Rattle.std.specs.Prelude.{IsOk, IfOk}
use Rattle.std.specs.BTreeMap.{is_at}
use Rattle.std.specs.BTreeSet.{BTreeSet, Updates, contains}
use Rattle.std.specs.List.{Contains, HoldsAt}
use Rattle.std.specs.List.Sorted.{IsBinarySearchResult, IsNonDecreasingBy, IsPartitionPoint}
use Rattle.std.specs.List.Sorted.{IsSearchInRange}
use Rattle.std.specs.Ordering.{is_eq, is_lt, ordering_index, ordering_reverse}
use Rattle.std.proofs.lemmas.Bool.{cases_lt}
use Rattle.std.proofs.lemmas.List.{get_or_append_left, get_or_push, get_or_read}
use Rattle.std.proofs.lemmas.List.Sorted.{searchable_from_sorted}
use Rattle.std.proofs.lemmas.Map.Keys.{Less-from_sorted}
use Rattle.std.proofs.lemmas.Option.{slice_get-get_or}
use Rattle.cal_value.specs.ExactOrder.{exact_equiv, text_exact}
use Rattle.cal_value.specs.Texts.{text_cmp}
use Rattle.cal_rowset.specs.Showing.{nth_column}
use Rattle.cal_rowset.specs.declared.rowset.Column.{Column}
use Rattle.cal_jsonfmt.specs.Choosing.{Ascend}

-- ---- one header more

if_either : (b : Bool) → cond b true true ≡ true
if_either true = refl
if_either false = refl

-- below one more number
below_or_at : (k i : ℕ) → k < i + 1 → (k < i) ⊎ (i ≡ k)
below_or_at k i l = by (cases_lt k i)
  where
    by : ((k < i) ⊎ (i ≤ k)) → (k < i) ⊎ (i ≡ k)
    by (inl m) = inl m
    by (inr m) = inr (omega (arith, l, m))

-- the header of the column at a place
pub header-at : (columns : List Column) (i : ℕ) (column : Column) → i < length columns
    → column ≡ get_or columns i column → column.header ≡ (nth_column columns i).header
header-at columns i column within is =
    ap (λ (c : Column). c.header)
    (get_or_read columns i column within is (record { header = []; name = [] }))

module _ (columns : List Column) (names new : BTreeSet (List ℕ)) (i : ℕ) (column : Column)
    (copied : List ℕ) (within : i < length columns) (is : column ≡ get_or columns i column)
    (copy : copied ≡ column.header) (updates : Updates text_cmp names new copied true)
    (before : (k : ℕ) → k < i → contains text_cmp names (nth_column columns k).header ≡ true)
  where
    pub headers-more : (k : ℕ) → k < i + 1
        → contains text_cmp new (nth_column columns k).header ≡ true
    headers-more k l = by (below_or_at k i l)
      where
        by : ((k < i) ⊎ (i ≡ k)) → contains text_cmp new (nth_column columns k).header ≡ true
        by (inl m) =
            let header = (nth_column columns k).header in
            updates.0 header ∙ ap (λ (b : Bool). cond (is_at (text_cmp copied) header) true b)
            (before k m) ∙ if_either (is_at (text_cmp copied) header)
        by (inr e) =
            subst (λ (j : ℕ). contains text_cmp new (nth_column columns j).header ≡ true) e
            (subst (λ (name : List ℕ). contains text_cmp new name ≡ true)
            (copy ∙ header-at columns i column within is) updates.1)

-- ---- one place more

-- of a text with itself
pub compared_itself : (key : List ℕ) → text_cmp key key ≡ Equal
compared_itself key = by (text_cmp key key) ((exact_equiv text_exact).refl key)
  where
    by : (o : Ordering) → is_eq o ≡ true → o ≡ Equal
    by Less e = cc
    by Equal e = refl
    by Greater e = cc

-- what a search in texts that ascend asks
rising : (names : List (List ℕ)) (x : List ℕ) → Ascend names
    → IsNonDecreasingBy (λ y. ordering_index (text_cmp y x)) names
rising names x up = searchable_from_sorted text_exact.total (λ y. y) names x (λ k d l m.
    ap is_lt (text_exact.total.antisymm (get_or names (k + 1) d) (get_or names k d)
    ∙ ap ordering_reverse
    (Less-from_sorted text_cmp names k (k + 1) d up (omega arith) (omega (arith, m)))))

-- a text that is there is found
pub found : (names : List (List ℕ)) (x : List ℕ) (r : Result ℕ ℕ) → Ascend names
    → Contains names x → IsBinarySearchResult (λ y. text_cmp y x) names r → IsOk r
found names x (Ok i) up there told = refl
found names x (Err i) up there told = absurd (by (cases_lt there.0 i))
  where
    parted : IsPartitionPoint (λ y. text_cmp y x ≡ Less) (λ y. text_cmp y x ≡ Greater) names i
    parted = told (rising names x up)

    same : text_cmp (get_or names there.0 x) x ≡ Equal
    same = ap (λ (y : List ℕ). text_cmp y x) there.2 ∙ compared_itself x

    by : ((there.0 < i) ⊎ (i ≤ there.0)) → ⊥
    by (inl l) =
        let no : Less ≡ Equal = sym (parted.0 there.0 x (omega arith) l) ∙ same in cc
    by (inr l) =
        let no : Greater ≡ Equal = sym (parted.1 there.0 x l there.1) ∙ same in cc

module _ (columns : List Column) (names : List (List ℕ)) (places new : List ℕ) (i place : ℕ)
    (column : Column) (r : Result ℕ ℕ) (within : i < length columns)
    (is : column ≡ get_or columns i column) (counted : length places ≡ i)
    (added : new ≡ places ++ place ∷ []) (at : r ≡ Ok place)
    (bound : IsSearchInRange r (length names))
    (searched : IfOk r (HoldsAt (λ y. text_cmp y column.header ≡ Equal) names))
    (before : (k : ℕ) → k < i
    → slice_get names (get_or places k 0) ≡ Some (nth_column columns k).header)
  where
    header : slice_get names place ≡ Some column.header
    header =
        let place_within : place < length names =
        subst (λ s. IsSearchInRange s (length names)) at bound in
        let equal =
        subst (λ s. IfOk s (HoldsAt (λ y. text_cmp y column.header ≡ Equal) names)) at searched in
        slice_get-get_or names place column.header place_within
        ∙ ap Some (text_exact.exact (get_or names place column.header) column.header
        (equal column.header))

    pub places-more : (k : ℕ) → k < i + 1
        → slice_get names (get_or new k 0) ≡ Some (nth_column columns k).header
    places-more k l = by (below_or_at k i l)
      where
        by : ((k < i) ⊎ (i ≡ k))
            → slice_get names (get_or new k 0) ≡ Some (nth_column columns k).header
        by (inl m) =
            ap (λ ns. slice_get names (get_or ns k 0)) added
            ∙ ap (slice_get names)
            (get_or_append_left places (place ∷ []) 0 k (omega (arith, m, counted)))
            ∙ before k m
        by (inr e) =
            let last : get_or new k 0 ≡ place =
            ap (λ ns. get_or ns k 0) added ∙ get_or_push places place 0 k (counted ∙ e) in
            ap (slice_get names) last ∙ header ∙ ap Some (header-at columns i column within is)
            ∙ ap (λ (j : ℕ). Some (nth_column columns j).header) e

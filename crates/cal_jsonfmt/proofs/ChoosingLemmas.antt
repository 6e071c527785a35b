-- Members by the places of their keys.
use Rattle.std.proofs.Common.{◌≡◌, ℕ, ℤ, zero, suc, ◌+◌, ◌<◌, ◌≤◌, true, false, ◌⊎◌, inl, inr, List, [], ◌∷◌, ◌++◌, length, get_or, set, replicate, take, fold, map, Option, None, Some, slice_get, Less, Greater, nat_cmp, refl, sym, ap, ◌∙◌, arith, subst}
use Rattle.std.specs.BTreeMap.{insert_entry}
use Rattle.std.specs.Cmp.Lexicographic.{slice_cmp}
use Rattle.std.specs.Fmt.{signed_decimal}
use Rattle.std.specs.Ordering.{ordering_reverse}
use Rattle.std.proofs.lemmas.Bool.{cases_lt}
use Rattle.std.proofs.lemmas.List.{get_or-set_other, get_or-set_same, length-map, length-set, map-set, take_more}
use Rattle.std.proofs.lemmas.Map.Keys.{sorted_tail}
use Rattle.std.proofs.lemmas.Map.Views.{All-after_first}
use Rattle.std.proofs.lemmas.Option.{get_or_from_slice_get, slice_get_within}
use Rattle.cal_value.specs.ExactOrder.{text_exact}
use Rattle.cal_value.specs.declared.record.Rec.{Rec}
use Rattle.cal_value.specs.declared.variant.Variant as variants
use Rattle.cal_value.specs.declared.variant.Variant.TheVariants as variant
use Rattle.cal_rowset.specs.Cells.{content_of, joined_texts, shown_values}
use Rattle.cal_rowset.specs.Filling.{Shows, is_nothing}
use Rattle.cal_rowset.specs.Showing.{nth_column}
use Rattle.cal_rowset.specs.declared.cell.Cell.{Cell}
use Rattle.cal_rowset.specs.declared.cell.Content.TheVariants.{Whole}
use Rattle.cal_rowset.specs.declared.rowset.Column.{Column}
use Rattle.cal_rowset.proofs.Showing.{Shows-nothing}
use Rattle.cal_jsonfmt.proofs.KeyLemmas.{compared_itself}
use Rattle.cal_jsonfmt.specs.Choosing.{AreWithin, ArePlacesOf, Ascend, IsWithin, ShowsCell, members_of, value_at, with_choice}
use Rattle.cal_jsonfmt.specs.Json.{Member, json_of, members, value_json, with_member}

-- ---- a value put under its key

insert-front : (key value : List ℕ) (keys : List (List ℕ)) (values : List (Option (List ℕ))) → ((k : ℕ) → k < length keys → slice_cmp nat_cmp key (get_or keys k []) ≡ Less)
    → insert_entry (slice_cmp nat_cmp) (members_of keys values) key value ≡ (key, value) ∷ members_of keys values
insert-front key value [] values below = refl
insert-front key value (other ∷ keys) [] below = refl
insert-front key value (other ∷ keys) (None ∷ values) below = insert-front key value keys values (λ k l. below (suc k) (omega (arith, l)))
insert-front key value (other ∷ keys) (Some v ∷ values) below = rw (below 0 (omega arith)) refl

-- it stands at its place
pub insert-members_of : (keys : List (List ℕ)) (values : List (Option (List ℕ))) (place : ℕ) (value : List ℕ) → Ascend keys → length values ≡ length keys → place < length keys
    → insert_entry (slice_cmp nat_cmp) (members_of keys values) (get_or keys place []) value ≡ members_of keys (set values place (Some value))
insert-members_of [] values place value up counted within = absurd (omega (arith, within))
insert-members_of (key ∷ keys) [] place value up counted within = absurd (omega (arith, counted))
insert-members_of (key ∷ keys) (None ∷ values) zero value up counted within =
    let above = All-after_first (slice_cmp nat_cmp) key keys up in
    insert-front key value keys values (λ k l. above k [] l)
insert-members_of (key ∷ keys) (Some v ∷ values) zero value up counted within = rw (compared_itself key) refl
insert-members_of (key ∷ keys) (None ∷ values) (suc place) value up counted within =
    insert-members_of keys values place value (sorted_tail (slice_cmp nat_cmp) key keys up) (omega (arith, counted)) (omega (arith, within))
insert-members_of (key ∷ keys) (Some v ∷ values) (suc place) value up counted within =
    let above : slice_cmp nat_cmp key (get_or keys place []) ≡ Less = All-after_first (slice_cmp nat_cmp) key keys up place [] (omega (arith, within)) in
    let later : slice_cmp nat_cmp (get_or keys place []) key ≡ Greater = text_exact.total.antisymm (get_or keys place []) key ∙ ap ordering_reverse above in
    rw later (ap (λ (rest : List Member). (key, v) ∷ rest)
    (insert-members_of keys values place value (sorted_tail (slice_cmp nat_cmp) key keys up) (omega (arith, counted)) (omega (arith, within))))

-- ---- columns, one after another

fold_more : {A B : Type 0} (f : B → A → B) (b : B) (xs : List A) (x : A) → fold f b (xs ++ x ∷ []) ≡ f (fold f b xs) x
fold_more f b [] x = refl
fold_more f b (y ∷ ys) x = fold_more f (f b y) ys x

members-more : (columns : List Column) (row : Rec) (k : ℕ) → k < length columns
    → members (take (k + 1) columns) row ≡ with_member (members (take k columns) row) (nth_column columns k).header (value_at columns row (Some k))
members-more columns row k within =
    let more : List Member → Column → List Member = λ before c. with_member before c.header (json_of (shown_values row c.name)) in
    ap (λ (cs : List Column). members cs row) (take_more columns k (record { header = []; name = [] }) within)
    ∙ fold_more more [] (take k columns) (nth_column columns k)

pub members-none : (columns : List Column) (row : Rec) (keys : List (List ℕ)) (count : ℕ) → members_of keys (map (value_at columns row) (replicate count None)) ≡ []
members-none columns row [] count = refl
members-none columns row (key ∷ keys) zero = refl
members-none columns row (key ∷ keys) (suc count) = members-none columns row keys count

pub within-none : (columns : List Column) (count k : ℕ) → IsWithin columns (get_or (replicate count None) k None)
within-none columns zero k = tt
within-none columns (suc count) zero = tt
within-none columns (suc count) (suc k) = within-none columns count k

same_or_other : (i j : ℕ) → (i ≡ j) ⊎ ¬ (i ≡ j)
same_or_other i j = by (cases_lt i j) (cases_lt j i)
  where
    by : ((i < j) ⊎ (j ≤ i)) → ((j < i) ⊎ (i ≤ j)) → (i ≡ j) ⊎ ¬ (i ≡ j)
    by (inl l) _ = inr (λ e. omega (arith, l, e))
    by (inr l) (inl m) = inr (λ e. omega (arith, m, e))
    by (inr l) (inr m) = inl (omega (arith, l, m))

-- the columns that are chosen with one column more
pub within-more : (columns : List Column) (chosen : List (Option ℕ)) (place k : ℕ) → k < length columns → place < length chosen → AreWithin columns chosen → AreWithin columns (set chosen place (Some k))
within-more columns chosen place k within here all = λ i l. by i (omega (arith, l, length-set chosen place (Some k))) (same_or_other place i)
  where
    by : (i : ℕ) → i < length chosen → ((place ≡ i) ⊎ ¬ (place ≡ i)) → IsWithin columns (get_or (set chosen place (Some k)) i None)
    by i l (inl e) = subst (λ (j : ℕ). IsWithin columns (get_or (set chosen place (Some k)) j None)) e (subst (IsWithin columns) (sym (get_or-set_same chosen place (Some k) None here)) within)
    by i l (inr other) = subst (IsWithin columns) (sym (get_or-set_other chosen place i (Some k) None (λ e. other (sym e)))) (all i l)

module _ (columns : List Column) (row : Rec) (keys : List (List ℕ)) (chosen : List (Option ℕ)) (k : ℕ) (within : k < length columns)
    (so_far : members_of keys (map (value_at columns row) chosen) ≡ members (take k columns) row) where
  -- a cell that is absent has no member, and one that is there its own in place of another of its key
  pub members-more_chosen : (place : ℕ) (value : Option (List ℕ)) → Ascend keys → length chosen ≡ length keys → place < length keys → slice_get keys place ≡ Some (nth_column columns k).header
      → value_at columns row (Some k) ≡ value → members_of keys (map (value_at columns row) (with_choice chosen place k value)) ≡ members (take (k + 1) columns) row
  members-more_chosen place None up counted here header absent =
      so_far ∙ ap (with_member (members (take k columns) row) (nth_column columns k).header) (sym absent) ∙ sym (members-more columns row k within)
  members-more_chosen place (Some value) up counted here header there =
      ap (members_of keys) (map-set (value_at columns row) chosen place (Some k) ∙ ap (set (map (value_at columns row) chosen) place) there)
      ∙ sym (insert-members_of keys (map (value_at columns row) chosen) place value up (length-map chosen (value_at columns row) ∙ counted) here)
      ∙ (λ j. insert_entry (slice_cmp nat_cmp) (so_far j) (get_or_from_slice_get keys place (nth_column columns k).header [] header j) value)
      ∙ ap (with_member (members (take k columns) row) (nth_column columns k).header) (sym there)
      ∙ sym (members-more columns row k within)

-- ---- keys, one after another

pub members_of-push : (keys : List (List ℕ)) (values : List (Option (List ℕ))) (key : List ℕ) (value : Option (List ℕ)) → length keys ≡ length values
    → members_of (keys ++ key ∷ []) (values ++ value ∷ []) ≡ members_of keys values ++ members_of (key ∷ []) (value ∷ [])
members_of-push [] [] key value counted = refl
members_of-push [] (v ∷ values) key value counted = absurd (omega (arith, counted))
members_of-push (k ∷ keys) [] key value counted = absurd (omega (arith, counted))
members_of-push (k ∷ keys) (None ∷ values) key value counted = members_of-push keys values key value (omega (arith, counted))
members_of-push (k ∷ keys) (Some v ∷ values) key value counted = ap (λ (rest : List Member). (k, v) ∷ rest) (members_of-push keys values key value (omega (arith, counted)))

-- ---- the place of a column's key

module _ (keys : List (List ℕ)) (columns : List Column) (places : List ℕ) (k n : ℕ) (are : ArePlacesOf keys columns places) (within : k < length columns) (is : n ≡ get_or places k 0) where
  pub place-header : slice_get keys n ≡ Some (nth_column columns k).header
  place-header = ap (slice_get keys) is ∙ are.header k within

  pub place-within : n < length keys
  place-within = slice_get_within keys n (nth_column columns k).header place-header

-- ---- cells

whole-text : (vs : List variants.Variant) (n : ℤ) → content_of vs ≡ Whole n → joined_texts vs ≡ signed_decimal n
whole-text [] n is = cc
whole-text (variant.Int m ∷ []) n is = cc
whole-text (variant.Uint m ∷ []) n is = cc
whole-text (variant.Text t ∷ []) n is = cc
whole-text (variant.Bool b ∷ []) n is = cc
whole-text (variant.Addr a ∷ []) n is = cc
whole-text (variant.Kind k ∷ []) n is = cc
whole-text (variant.Real t ∷ []) n is = cc
whole-text (variant.Fixed m ∷ []) n is = cc
whole-text (variant.Usr t ∷ []) n is = cc
whole-text (variant.Ptr t ∷ []) n is = cc
whole-text (v ∷ w ∷ vs) n is = cc

pub cell-there : (c : Cell) (vs : List variants.Variant) → Shows c vs → is_nothing c.content ≡ false → ShowsCell c vs
cell-there c [] shows some =
    let told : true ≡ false = sym (ap is_nothing shows.content) ∙ some in cc
cell-there c (v ∷ vs) shows some = record {
  shows = shows;
  spelled = λ n is. shows.text ∙ whole-text (v ∷ vs) n (sym shows.content ∙ is);
  there = λ j. Some (value_json (sym shows.content j) (sym shows.text j));
}

pub cell-absent : (c : Cell) (vs : List variants.Variant) → Shows c vs → is_nothing c.content ≡ true → json_of vs ≡ None
cell-absent c vs shows nothing = ap json_of (Shows-nothing c vs shows nothing)

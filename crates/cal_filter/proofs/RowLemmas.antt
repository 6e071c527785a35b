-- Rows of attributes, one attribute more at a time.
use Rattle.std.proofs.Common.{◌≡◌, ℕ, zero, suc, ◌+◌, ◌<◌, ◌≤◌, ◌==◌, Bool, true, false, ◌⊎◌, inl, inr}
use Rattle.std.proofs.Common.{List, [], ◌∷◌, ◌++◌, length, map, get_or, Option, None, Some}
use Rattle.std.proofs.Common.{refl, sym, ◌∙◌, ap, subst, arith, ne_eqb, if◌then◌else◌}
use Rattle.std.specs.Prelude.{OnErr, Result, Ok, Err}
use Rattle.std.specs.declared.vec.Vec.{Vec}
use Rattle.std.proofs.lemmas.Bool.{cases_lt}
use Rattle.std.proofs.lemmas.List.{length_push, map-append}
use Rattle.cal_filter.specs.Memo.{ArePlaces, AreRows, AreSameAt, HaveSameRows, IsPut, IsPutAt, IsRow}
use Rattle.cal_filter.specs.Memo.{is_of, marked, row_at, row_with}
use Rattle.cal_filter.proofs.MemoLemmas.{ArePlaces-more, ArePlaces-push, marked-false, marked-true}

module _ {Z : Type 0} where
  -- what is read of a row that is there
  pub row_from : (rows : List (Vec ℕ Z)) (n : ℕ) (d : Vec ℕ Z) → n < length rows
      → row_at rows n ≡ (get_or rows n d).items
  row_from [] n d short = absurd (omega (arith, short))
  row_from (r ∷ rows) zero d short = refl
  row_from (r ∷ rows) (suc n) d short = row_from rows n d (omega (arith, short))

  -- and of one that isn't
  pub row_past : (rows : List (Vec ℕ Z)) (n : ℕ) → length rows ≤ n → row_at rows n ≡ []
  row_past [] n late = refl
  row_past (r ∷ rows) zero late = absurd (omega (arith, late))
  row_past (r ∷ rows) (suc n) late = row_past rows n (omega (arith, late))

  -- an empty row more
  pub rows_more : (rows : List (Vec ℕ Z)) (v : Vec ℕ Z) → v.items ≡ []
      → HaveSameRows rows (rows ++ v ∷ [])
  rows_more [] v none zero = none
  rows_more [] v none (suc n) = refl
  rows_more (r ∷ rows) v none zero = refl
  rows_more (r ∷ rows) v none (suc n) = rows_more rows v none n

  -- rows that are changed each by itself
  rows_each : (f : ℕ → List ℕ → List ℕ) (old new : List (Vec ℕ Z)) → length new ≡ length old
      → ((n : ℕ) (d : Vec ℕ Z) → n < length old → (get_or new n d).items ≡ f n (get_or old n d).items)
      → (n : ℕ) → n < length old → row_at new n ≡ f n (row_at old n)
  rows_each f [] new long each n short = absurd (omega (arith, short))
  rows_each f (x ∷ old) [] long each n short = absurd (omega (arith, long))
  rows_each f (x ∷ old) (y ∷ new) long each zero short = each zero x short
  rows_each f (x ∷ old) (y ∷ new) long each (suc n) short =
      rows_each (λ m. f (suc m)) old new (omega (arith, long))
      (λ m d less. each (suc m) d (omega (arith, less))) n (omega (arith, short))

  pub rows_same : (old new : List (Vec ℕ Z)) → AreSameAt old new → HaveSameRows old new
  rows_same old new h n = by (cases_lt n (length old))
    where
      by : (n < length old) ⊎ (length old ≤ n) → row_at new n ≡ row_at old n
      by (inl short) = rows_each (λ m row. row) old new h.long h.each n short
      by (inr late) =
          let long = h.long in
          row_past new n (omega (arith, late, long)) ∙ sym (row_past old n late)

  pub rows_put : (name place : ℕ) (old new : List (Vec ℕ Z)) → name < length old
      → IsPutAt name place old new → IsPut name place old new
  rows_put name place old new there h n = by (cases_lt n (length old))
    where
      by : (n < length old) ⊎ (length old ≤ n)
          → row_at new n ≡ row_with name place n (row_at old n)
      by (inl short) = rows_each (λ m row. row_with name place m row) old new h.long h.each n short
      by (inr late) =
          let long = h.long in
          let other : (name == n) ≡ false = ne_eqb name n (λ e. omega (arith, e, there, late)) in
          row_past new n (omega (arith, late, long)) ∙ sym (row_past old n late)
          ∙ ap (λ (b : Bool). if b then row_at old n ++ place ∷ [] else row_at old n) (sym other)

module _ (numbers : List (Option ℕ)) (o : Option ℕ) (n : ℕ) (row : List ℕ)
    (h : IsRow numbers n row) where
  abbrev count : ℕ
  count = length numbers

  abbrev more : List (Option ℕ)
  more = numbers ++ o ∷ []

  long : length more ≡ count + 1
  long = length_push numbers o

  -- an attribute more that has another name
  pub row_same : is_of n o ≡ false → IsRow more n row
  row_same e = record {
    places = subst (ArePlaces row) (sym long) (ArePlaces-more row count h.places);
    marked = ap (marked row) long ∙ marked-false row count h.places
        ∙ (λ i. h.marked i ++ (sym e) i ∷ []) ∙ sym (map-append (is_of n) numbers (o ∷ []));
  }

  -- and one that has this
  pub row_more : is_of n o ≡ true → IsRow more n (row ++ count ∷ [])
  row_more e = record {
    places = subst (ArePlaces (row ++ count ∷ [])) (sym long) (ArePlaces-push row count h.places);
    marked = ap (marked (row ++ count ∷ [])) long ∙ marked-true row count
        ∙ (λ i. h.marked i ++ (sym e) i ∷ []) ∙ sym (map-append (is_of n) numbers (o ∷ []));
  }

module _ {Z : Type 0} (numbers : List (Option ℕ)) (old : List (Vec ℕ Z)) (h : AreRows numbers old) where
  -- an attribute that has none of the names
  pub rows_unnamed : AreRows (numbers ++ None ∷ []) old
  rows_unnamed n = row_same numbers None n (row_at old n) (h n) refl

  -- an attribute whose place was put into the row of its name
  pub rows_named : (new : List (Vec ℕ Z)) (name place : ℕ) → place ≡ length numbers
      → IsPut name place old new → AreRows (numbers ++ Some name ∷ []) new
  rows_named new name place next put n =
      subst (IsRow (numbers ++ Some name ∷ []) n) (sym (put n)) (by (name == n) refl)
    where
      with_place : Bool → List ℕ
      with_place b = if b then row_at old n ++ place ∷ [] else row_at old n

      by : (b : Bool) → (name == n) ≡ b
          → IsRow (numbers ++ Some name ∷ []) n (row_with name place n (row_at old n))
      by true e =
          subst (IsRow (numbers ++ Some name ∷ []) n)
          (ap (λ m. row_at old n ++ m ∷ []) (sym next) ∙ ap with_place (sym e))
          (row_more numbers (Some name) n (row_at old n) (h n) e)
      by false e =
          subst (IsRow (numbers ++ Some name ∷ []) n) (ap with_place (sym e))
          (row_same numbers (Some name) n (row_at old n) (h n) e)

  -- the same rows
  pub rows_stay : (new : List (Vec ℕ Z)) → HaveSameRows old new → AreRows numbers new
  rows_stay new same n = subst (IsRow numbers n) (sym (same n)) (h n)

-- what holds at all, holds on an error
pub on_err : {T E P : Type 0} (r : Result T E) → P → OnErr r P
on_err (Ok x) p = tt
on_err (Err e) p = p

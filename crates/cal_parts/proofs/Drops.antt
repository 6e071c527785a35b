-- The rests of lists, from a place on.
use Rattle.std.proofs.Common.{◌≡◌, ℕ, zero, suc, ◌+◌, ◌<◌, List, [], ◌∷◌, ◌++◌, Option, None, Some, drop, get_or, length, take, refl, sym, ap, ◌∙◌, add-one, slice_get, drop-cons}
use Rattle.std.specs.List.{cons_option, filter_map}
use Rattle.std.specs.Option.{option_to_list}
use Rattle.std.proofs.lemmas.Grind.{take_at_read}
use Rattle.std.proofs.lemmas.List.Elements.{filter_map-append}
use Rattle.cal_parts.specs.Parts.{Gathered, behind, merged_parts}

module _ {A : Type 0} where
  pub first_of_drop : (n : ℕ) (xs : List A) → slice_get (drop n xs) 0 ≡ slice_get xs n
  first_of_drop zero xs = refl
  first_of_drop (suc n) [] = refl
  first_of_drop (suc n) (x ∷ xs) = first_of_drop n xs

  drop_suc : (n : ℕ) (xs : List A) → drop 1 (drop n xs) ≡ drop (suc n) xs
  drop_suc zero xs = refl
  drop_suc (suc n) [] = refl
  drop_suc (suc n) (x ∷ xs) = drop_suc n xs

  pub drop_one : (n : ℕ) (xs : List A) → drop 1 (drop n xs) ≡ drop (n + 1) xs
  drop_one n xs = rw (add-one n) (drop_suc n xs)

  pub rest_at : (xs : List A) (n : ℕ) (x : A) → n < length xs → x ≡ get_or xs n x → drop n xs ≡ x ∷ drop (n + 1) xs
  rest_at xs n x l e = rw (add-one n) (drop-cons xs n x l ∙ ap (λ y. y ∷ drop (suc n) xs) (sym e))

-- what is found of one more item
pub filter_map_more : {A B : Type 0} (h : A → Option B) (xs : List A) (n : ℕ) (x : A) → n < length xs → x ≡ get_or xs n x
    → filter_map h (take (n + 1) xs) ≡ filter_map h (take n xs) ++ option_to_list (h x)
filter_map_more {A} {B} h xs n x l e =
    ap (filter_map h) ((take_at_read xs n x l).1 ∙ ap (λ y. take n xs ++ y ∷ []) (sym e))
    ∙ filter_map-append h (take n xs) (x ∷ [])
    ∙ ap (λ ys. filter_map h (take n xs) ++ ys) (by (h x))
  where
    by : (o : Option B) → cons_option o [] ≡ option_to_list o
    by None = refl
    by (Some y) = refl

pub merged_next : (parts fresh : List Gathered) (n : ℕ) (part : Gathered) → n < length fresh → part ≡ get_or fresh n part
    → merged_parts (drop n parts) (drop n fresh) ≡ behind (slice_get parts n) part ∷ merged_parts (drop (n + 1) parts) (drop (n + 1) fresh)
merged_next parts fresh n part l e =
    ap (merged_parts (drop n parts)) (rest_at fresh n part l e)
    ∙ (λ i. behind (first_of_drop n parts i) part ∷ merged_parts (drop_one n parts i) (drop (n + 1) fresh))

-- A cell with one value more.
use Rattle.std.proofs.Common.{◌≡◌, ℕ, true, false, List, [], ◌∷◌, ◌++◌, refl, sym, ap, ◌∙◌, map, append_assoc}
use Rattle.std.specs.List.{join_with_byte}
use Rattle.std.proofs.lemmas.List.{map-append}
use Rattle.cal_value.specs.Values.{value_text}
use Rattle.cal_value.specs.declared.variant.Variant as variants
use Rattle.cal_value.specs.declared.variant.Variant.TheVariants as variant
use Rattle.cal_rowset.specs.Cells.{content_of, content_of_value}
use Rattle.cal_rowset.specs.Filling.{Shows, is_nothing}
use Rattle.cal_rowset.specs.declared.cell.Cell.{Cell}
use Rattle.cal_rowset.specs.declared.cell.Content.TheVariants.{Words}

-- one piece more, joined
pub join-push : (c : ℕ) (x : List ℕ) (xs : List (List ℕ)) (y : List ℕ) → join_with_byte c ((x ∷ xs) ++ y ∷ []) ≡ join_with_byte c (x ∷ xs) ++ c ∷ y
join-push c x [] y = refl
join-push c x (z ∷ xs) y = ap (λ (rest : List ℕ). x ++ c ∷ rest) (join-push c z xs y) ∙ sym (append_assoc x (c ∷ join_with_byte c (z ∷ xs)) (c ∷ y))

-- one value is something
pub value_is_something : (v : variants.Variant) → is_nothing (content_of_value v) ≡ false
value_is_something (variant.Int n) = refl
value_is_something (variant.Uint n) = refl
value_is_something (variant.Text t) = refl
value_is_something (variant.Bool b) = refl
value_is_something (variant.Addr a) = refl
value_is_something (variant.Kind k) = refl
value_is_something (variant.Real t) = refl
value_is_something (variant.Fixed n) = refl
value_is_something (variant.Usr t) = refl
value_is_something (variant.Ptr t) = refl

pub some_is_something : (v : variants.Variant) (vs : List variants.Variant) → is_nothing (content_of (v ∷ vs)) ≡ false
some_is_something v [] = value_is_something v
some_is_something v (w ∷ vs) = refl

-- a cell that holds nothing shows no value
pub Shows-nothing : (c : Cell) (vs : List variants.Variant) → Shows c vs → is_nothing c.content ≡ true → vs ≡ []
Shows-nothing c [] shows nothing = refl
Shows-nothing c (v ∷ vs) shows nothing =
    let told : true ≡ false = sym nothing ∙ ap is_nothing shows.content ∙ some_is_something v vs in cc

-- a value is added to none
pub Shows-first : (c new : Cell) (v : variants.Variant) (vs : List variants.Variant) → Shows c vs → is_nothing c.content ≡ true
    → new.text ≡ c.text ++ value_text v → new.content ≡ content_of_value v → Shows new (vs ++ v ∷ [])
Shows-first c new v [] shows nothing text content = record {
  text = text ∙ ap (λ (front : List ℕ). front ++ value_text v) shows.text;
  content = content;
}
Shows-first c new v (w ∷ vs) shows nothing text content =
    let told : true ≡ false = sym nothing ∙ ap is_nothing shows.content ∙ some_is_something w vs in cc

-- or to others
pub Shows-next : (c new : Cell) (v : variants.Variant) (vs : List variants.Variant) → Shows c vs → is_nothing c.content ≡ false
    → new.text ≡ c.text ++ 47 ∷ value_text v → new.content ≡ Words → Shows new (vs ++ v ∷ [])
Shows-next c new v [] shows something text content =
    let told : true ≡ false = sym (ap is_nothing shows.content) ∙ something in cc
Shows-next c new v (w ∷ vs) shows something text content = record {
  text = text ∙ ap (λ (front : List ℕ). front ++ 47 ∷ value_text v) shows.text
      ∙ sym (join-push 47 (value_text w) (map value_text vs) (value_text v))
      ∙ ap (join_with_byte 47) (sym (map-append value_text (w ∷ vs) (v ∷ [])));
  content = content ∙ several vs;
}
  where
    several : (us : List variants.Variant) → Words ≡ content_of (w ∷ (us ++ v ∷ []))
    several [] = refl
    several (u ∷ us) = refl

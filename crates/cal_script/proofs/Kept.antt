-- Lists of values of which one may be kept for several.
use Rattle.std.proofs.Common.{◌≡◌, ℕ, ◌<◌, List, [], ◌∷◌, ◌++◌, length, map, slice_get, Some, false, refl, ap, ◌∙◌}
use Rattle.std.specs.List.{All}
use Rattle.std.proofs.lemmas.List.{get_or_append_left, get_or_push, map-append}
use Rattle.std.proofs.lemmas.List.Elements.{All-head, All-tail}
use Rattle.std.proofs.lemmas.Option.{get_or_from_slice_get}
use Rattle.cal_value.specs.declared.variant.Variant.{Variant}
use Rattle.cal_value.specs.declared.variant.Variant.TheVariants as variant
use Rattle.cal_script.specs.Values.{value_in}

-- a value that is kept for one more place
pub kept_new : (kept : List Variant) (value : Variant) (places : List ℕ) → All (λ place. place < length kept) places
    → map (value_in (kept ++ value ∷ [])) (places ++ length kept ∷ []) ≡ map (value_in kept) places ++ value ∷ []
kept_new kept value [] all = rw (get_or_push kept value (variant.Bool false) (length kept) refl) refl
kept_new kept value (place ∷ places) all =
    let within : place < length kept = All-head (λ place. place < length kept) place places all in
    let rest = kept_new kept value places (All-tail (λ place. place < length kept) place places all) in
    let first : value_in (kept ++ value ∷ []) place ≡ value_in kept place = get_or_append_left kept (value ∷ []) (variant.Bool false) place within in
    rw (first, rest) refl

-- a value that was kept before
pub kept_again : (kept : List Variant) (places : List ℕ) (place : ℕ) (value : Variant) → slice_get kept place ≡ Some value
    → map (value_in kept) (places ++ place ∷ []) ≡ map (value_in kept) places ++ value ∷ []
kept_again kept places place value is =
    map-append (value_in kept) places (place ∷ [])
    ∙ ap (λ (v : Variant). map (value_in kept) places ++ v ∷ []) (get_or_from_slice_get kept place value (variant.Bool false) is)

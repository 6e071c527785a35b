-- The values that are kept, and those at places of them.
use Rattle.std.proofs.Common.{◌≡◌, ℕ, ◌+◌, ◌<◌, List, [], ◌∷◌, ◌++◌, length, map, refl, false, ◌∙◌, arith, below_more}
use Rattle.std.specs.List.{All}
use Rattle.std.proofs.lemmas.List.{get_or_append_left, get_or_push, length_push}
use Rattle.std.proofs.lemmas.List.Elements.{All-head, All-tail}
use Rattle.cal_value.specs.declared.variant.Variant.{Variant}
use Rattle.cal_value.specs.declared.variant.Variant.TheVariants as variant
use Rattle.cal_script.specs.Values.{value_in}
use Rattle.cal_gen.specs.Places.{AreFirst, value_at}

-- one value more
pub first_more : (count : ℕ) (kept : List Variant) (value : Variant) → value ≡ value_at count → AreFirst count kept
    → AreFirst (count + 1) (kept ++ value ∷ [])
first_more count kept value is first = record {
  number = omega (arith, length_push kept value, first.number);
  values = below_more _ _
      (λ place below. (let within : place < length kept = omega (arith, first.number) in
      get_or_append_left kept (value ∷ []) (variant.Bool false) place within ∙ first.values place below))
      (get_or_push kept value (variant.Bool false) count first.number ∙ is);
}

-- values at places among all are those at places of what is kept
pub same_values : (count : ℕ) (kept : List Variant) (places : List ℕ) → AreFirst count kept → All (λ place. place < count) places
    → map (value_in kept) places ≡ map value_at places
same_values count kept [] first all = refl
same_values count kept (place ∷ places) first all =
    let one : value_in kept place ≡ value_at place = first.values place (All-head (λ place. place < count) place places all) in
    let rest = same_values count kept places first (All-tail (λ place. place < count) place places all) in
    rw (one, rest) refl

-- Numbers of values of which one is kept for several.
use Rattle.std.proofs.Common.{◌≡◌, ℕ, ◌+◌, ◌<◌, List, [], ◌∷◌, ◌++◌, length, get_or, map, take, false}
use Rattle.std.proofs.Common.{refl, sym, ap, subst, ◌∙◌, arith}
use Rattle.std.specs.List.{All}
use Rattle.std.proofs.lemmas.List.{length-map, get_or-map, get_or_default, map-append, take_more}
use Rattle.std.proofs.lemmas.List.Elements.{All-head, All-tail}
use Rattle.cal_context.specs.Tree.{Tree, value_at}
use Rattle.cal_context.specs.declared.numbers.ValueNumber.{ValueNumber}
use Rattle.cal_run.specs.Numbers.{ValuesStand, number_in}
use Rattle.cal_script.specs.Values.{value_in}
use Rattle.cal_value.specs.declared.variant.Variant.{Variant}
use Rattle.cal_value.specs.declared.variant.Variant.TheVariants as variant

abbrev no_number : ValueNumber
no_number = record { 0 = 0 }

-- one place more
pub numbers_more : (numbers : List ValueNumber) (places : List ℕ) (i place : ℕ) (number : ValueNumber)
    → place ≡ get_or places i place → number ≡ get_or numbers place number → place < length numbers
    → i < length places
    → map (number_in numbers) (take i places) ++ number ∷ []
    ≡ map (number_in numbers) (take (i + 1) places)
numbers_more numbers places i place number at is within below =
    let same : number ≡ number_in numbers (get_or places i place) =
    is ∙ get_or_default numbers place number no_number within ∙ ap (number_in numbers) at in
    (λ j. map (number_in numbers) (take i places) ++ same j ∷ [])
    ∙ sym (map-append (number_in numbers) (take i places) (get_or places i place ∷ []))
    ∙ ap (map (number_in numbers)) (sym (take_more places i place below))

placed_values : (f : ValueNumber → Variant) (numbers : List ValueNumber) (places : List ℕ)
    → All (λ place. place < length numbers) places
    → map f (map (number_in numbers) places) ≡ map (value_in (map f numbers)) places
placed_values f numbers [] all = refl
placed_values f numbers (place ∷ places) all =
    let within : place < length numbers = All-head (λ place. place < length numbers) place places all in
    let first : value_in (map f numbers) place ≡ f (number_in numbers place) =
    get_or-map f numbers place no_number (variant.Bool false) within in
    let rest = placed_values f numbers places
    (All-tail (λ place. place < length numbers) place places all) in
    λ j. sym first j ∷ rest j

-- the numbers of the values at these places
pub ValuesStand-placed : (t : Tree) (numbers : List ValueNumber) (kept : List Variant)
    (places : List ℕ)
    → ValuesStand t numbers kept → All (λ place. place < length kept) places
    → ValuesStand t (map (number_in numbers) places) (map (value_in kept) places)
ValuesStand-placed t numbers kept places stand all =
    let long : length numbers ≡ length kept =
    sym (length-map numbers (value_at t)) ∙ ap length stand.values in
    let below : All (λ place. place < length numbers) places = λ k d l. omega (arith, all k d l, long) in
    record {
      values = placed_values (value_at t) numbers places below
          ∙ ap (λ (vs : List Variant). map (value_in vs) places) stand.values;
      within = λ k d l.
          let inside : k < length places = omega (arith, l, length-map places (number_in numbers)) in
          subst (λ (n : ValueNumber). n.0 < length t.values)
          (sym (get_or-map (number_in numbers) places k 0 d inside))
          (stand.within (get_or places k 0) no_number (below k 0 inside));
    }

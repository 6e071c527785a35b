-- What is known of a context's attributes, with one more.
use Rattle.std.proofs.Common.{◌≡◌, ℕ, ◌<◌, ◌≤◌, List, [], ◌∷◌, ◌++◌, ◌⊎◌, inl, inr, length, get_or, Some, slice_get, sym, ap, ◌∙◌, arith}
use Rattle.std.proofs.lemmas.Bool.{cases_lt}
use Rattle.std.proofs.lemmas.List.{get_or_append_left, get_or_push, length_push}
use Rattle.cal_context.specs.Lists.{Interns}
use Rattle.cal_context.specs.Tree.{Tree, attribute_at}
use Rattle.cal_context.specs.declared.numbers.AttributeNumber.{AttributeNumber}
use Rattle.cal_context.proofs.ListLemmas.{IsFront-Adds, slice_get-IsFront}
use Rattle.cal_tabfmt.specs.Snapshots.{KnowsPlaces}

pub KnowsPlaces-push : (t : Tree) (names new : List (List ℕ)) (places : List ℕ) (place : ℕ) (number : AttributeNumber) → KnowsPlaces t names places → length places ≡ number.0 → number.0 < length t.attributes
    → Interns names (attribute_at t number).name new place → KnowsPlaces t new (places ++ place ∷ [])
KnowsPlaces-push t names new places place number knows counted within learned = record {
  within = omega (arith, counted, within, length_push places place);
  known = λ n l. by n l (cases_lt n.0 (length places));
}
  where
    by : (n : AttributeNumber) → n.0 < length (places ++ place ∷ []) → ((n.0 < length places) ⊎ (length places ≤ n.0)) → slice_get new (get_or (places ++ place ∷ []) n.0 0) ≡ Some (attribute_at t n).name
    by n l (inl before) =
        rw (get_or_append_left places (place ∷ []) 0 n.0 before)
        (slice_get-IsFront names new (get_or places n.0 0) (attribute_at t n).name (IsFront-Adds names (attribute_at t number).name new learned.adds) (knows.known n before))
    by n l (inr past) =
        let is : length places ≡ n.0 = omega (arith, l, past, length_push places place) in
        let same : number ≡ n = λ i. record { 0 = (sym counted ∙ is) i } in
        rw (get_or_push places place 0 n.0 is) (learned.number ∙ ap (λ (m : AttributeNumber). Some (attribute_at t m).name) same)

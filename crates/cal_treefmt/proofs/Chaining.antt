-- Chains of one place more, from the last one on.
use Rattle.std.proofs.Common.{◌≡◌, ℕ, suc, ◌<◌, ◌≤◌, ◌≢◌, List, ◌⊎◌, inl, inr, length, get_or, set, Option, None, Some, refl, sym, ap, ◌∙◌, subst, arith}
use Rattle.std.proofs.lemmas.Bool.{cases_lt}
use Rattle.std.proofs.lemmas.List.{get_or-set_other, get_or-set_same, length-set}
use Rattle.cal_context.specs.declared.numbers.NodeNumber.{NodeNumber}
use Rattle.cal_treefmt.specs.Chains.{AreChains, IsFirst, IsNext, LacksKey, key_at}

-- a number is another one or it isn't
pub same_or_other : (i j : ℕ) → (i ≡ j) ⊎ (i ≢ j)
same_or_other i j = by (cases_lt i j) (cases_lt j i)
  where
    by : ((i < j) ⊎ (j ≤ i)) → ((j < i) ⊎ (i ≤ j)) → (i ≡ j) ⊎ (i ≢ j)
    by (inl l) _ = inr (λ e. omega (arith, l, e))
    by (inr l) (inl m) = inr (λ e. omega (arith, m, e))
    by (inr l) (inr m) = inl (omega (arith, l, m))

module _ (keys : List NodeNumber) where
  -- a key that lacks from a place on lacks from the place before it, where another key stands
  LacksKey-before : (place to key : ℕ) → ¬ (key_at keys place ≡ key) → LacksKey keys (suc place) to key → LacksKey keys place to key
  LacksKey-before place to key other lacks k from within is = by (same_or_other place k)
    where
      by : ((place ≡ k) ⊎ (place ≢ k)) → ⊥
      by (inl e) = other (ap (key_at keys) e ∙ is)
      by (inr h) = lacks k (omega (arith, from, h)) within is

  IsNext-before : (place key : ℕ) (next : Option ℕ) → ¬ (key_at keys place ≡ key) → IsNext keys (suc place) key next → IsNext keys place key next
  IsNext-before place key None other lacks = LacksKey-before place (length keys) key other lacks
  IsNext-before place key (Some p) other first = record {
    later = omega (arith, first.later);
    within = first.within;
    is = first.is;
    lacks = LacksKey-before place p key other first.lacks;
  }

  pub AreChains-none : (count : ℕ) (first next : List (Option ℕ)) → length first ≡ count → length next ≡ length keys → ((k : ℕ) → get_or first k None ≡ None)
      → AreChains keys (length keys) count first next
  AreChains-none count first next counted places none = record {
    keys_counted = counted;
    places_counted = places;
    first = λ key l. subst (IsNext keys (length keys) key) (sym (none key)) (λ k from within is. omega (arith, from, within));
    next = λ place from within. absurd (omega (arith, from, within));
  }

  module _ (place count : ℕ) (first next : List (Option ℕ)) (within : place < length keys) (small : key_at keys place < count)
      (chains : AreChains keys (suc place) count first next) where
    abbrev key : ℕ
    key = key_at keys place

    here : IsFirst keys place key place
    here = record { later = omega arith; within = within; is = refl; lacks = λ k from to is. omega (arith, from, to) }

    first_of : (k : ℕ) → k < count → ((key ≡ k) ⊎ (key ≢ k)) → IsNext keys place k (get_or (set first key (Some place)) k None)
    first_of k l (inl e) =
        subst (λ j. IsNext keys place j (get_or (set first key (Some place)) j None)) e
        (subst (IsNext keys place key) (sym (get_or-set_same first key (Some place) None (omega (arith, small, chains.keys_counted)))) here)
    first_of k l (inr h) =
        subst (IsNext keys place k) (sym (get_or-set_other first key k (Some place) None (λ e. h (sym e))))
        (IsNext-before place k (get_or first k None) h (chains.first k l))

    next_of : (k : ℕ) → place ≤ k → k < length keys → ((place ≡ k) ⊎ (place ≢ k)) → IsNext keys (suc k) (key_at keys k) (get_or (set next place (get_or first key None)) k None)
    next_of k from l (inl e) =
        subst (λ j. IsNext keys (suc j) (key_at keys j) (get_or (set next place (get_or first key None)) j None)) e
        (subst (IsNext keys (suc place) key) (sym (get_or-set_same next place (get_or first key None) None (omega (arith, within, chains.places_counted)))) (chains.first key small))
    next_of k from l (inr h) =
        subst (IsNext keys (suc k) (key_at keys k)) (sym (get_or-set_other next place k (get_or first key None) None (λ e. h (sym e))))
        (chains.next k (omega (arith, from, h)) l)

-- Where the nodes of a list stand in it.
use Rattle.std.proofs.Common.{◌≡◌, ℕ, ◌<◌, ◌≤◌, List, [], ◌∷◌, ◌++◌, ◌⊎◌, inl, inr, length, get_or, slice_get, Some, sym, ap, ◌∙◌, subst, arith, Contains}
use Rattle.std.specs.Prelude.{slice_set}
use Rattle.std.proofs.lemmas.Bool.{cases_lt}
use Rattle.std.proofs.lemmas.List.{get_or_append_left, get_or_push, get_or-set_other, get_or-set_same, length-append, length-set}
use Rattle.std.proofs.lemmas.Option.{get_or_from_slice_get, slice_get-get_or, slice_get_within}
use Rattle.cal_context.specs.Lists.{AreApart, IsFront}
use Rattle.cal_context.specs.declared.numbers.NodeNumber.{NodeNumber}
use Rattle.cal_context.proofs.ListLemmas.{slice_get-IsFront}
use Rattle.cal_keys.specs.NodePlaces.{ArePlaces}

-- nodes that have places are apart
pub places-apart : (nodes : List NodeNumber) (places : List ℕ) → ArePlaces nodes places → AreApart nodes
places-apart nodes places h i j d a b e =
    let one = h i (get_or nodes i d) (slice_get-get_or nodes i d a) in
    let other = h j (get_or nodes j d) (slice_get-get_or nodes j d b) in
    let same : Some i ≡ Some j = sym one ∙ ap (λ n. slice_get places n.0) e ∙ other in
    cc

-- a node that is there is found at its number
pub place-found : (nodes : List NodeNumber) (places : List ℕ) (n : NodeNumber) → ArePlaces nodes places → Contains nodes n
    → (k : ℕ) × (slice_get places n.0 ≡ Some k) × (slice_get nodes k ≡ Some n)
place-found nodes places n h there =
    let at : slice_get nodes there.0 ≡ Some n = slice_get-get_or nodes there.0 n there.1 ∙ ap Some there.2 in
    (there.0, h there.0 n at, at)

-- more places don't matter
pub places-front : (nodes : List NodeNumber) (places more : List ℕ) → ArePlaces nodes places → IsFront places more → ArePlaces nodes more
places-front nodes places more h front k n at = slice_get-IsFront places more n.0 k front (h k n at)

-- one node more
pub places-push : (nodes : List NodeNumber) (places : List ℕ) (n : NodeNumber) → ArePlaces nodes places → ¬ Contains nodes n → n.0 < length places
    → ArePlaces (nodes ++ n ∷ []) (slice_set places n.0 (length nodes))
places-push nodes places n h new within k m at = by (cases_lt k (length nodes))
  where
    now : List ℕ
    now = slice_set places n.0 (length nodes)

    long : length now ≡ length places
    long = length-set places n.0 (length nodes)

    is : get_or (nodes ++ n ∷ []) k m ≡ m
    is = get_or_from_slice_get (nodes ++ n ∷ []) k m m at

    short : k < length (nodes ++ n ∷ [])
    short = slice_get_within (nodes ++ n ∷ []) k m at

    by : (k < length nodes) ⊎ (length nodes ≤ k) → slice_get now m.0 ≡ Some k
    by (inl l) =
        let there : get_or nodes k m ≡ m = sym (get_or_append_left nodes (n ∷ []) m k l) ∙ is in
        let place : slice_get places m.0 ≡ Some k = h k m (slice_get-get_or nodes k m l ∙ ap Some there) in
        let below : m.0 < length now = omega (arith, long, slice_get_within places m.0 k place) in
        let other : m.0 ≡ n.0 → ⊥ = λ e. new (subst (Contains nodes) (λ i. record { 0 = e i }) (k, l, there)) in
        slice_get-get_or now m.0 k below
        ∙ ap Some (get_or-set_other places n.0 m.0 (length nodes) k other ∙ get_or_from_slice_get places m.0 k k place)
    by (inr l) =
        let last : length nodes ≡ k = omega (arith, l, short, length-append nodes (n ∷ [])) in
        let same : m ≡ n = sym is ∙ get_or_push nodes n m k last in
        let below : n.0 < length now = omega (arith, long, within) in
        ap (λ (x : NodeNumber). slice_get now x.0) same
        ∙ slice_get-get_or now n.0 k below
        ∙ ap Some (get_or-set_same places n.0 (length nodes) k within ∙ last)

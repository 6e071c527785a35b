-- The immediates that the names of GROUP BY take, in the order of the names.
use Rattle.std.proofs.Common.{◌≡◌, ℕ, zero, suc, ◌+◌, ◌<◌, ◌≤◌, Bool, true, false, List, [], ◌∷◌, ◌++◌, ◌⊎◌, inl, inr, None, Some, Bor, length, filter, map, take, get_or, refl, sym, ap, subst, ◌∙◌, arith, append-nil, if◌then◌else◌}
use Rattle.std.specs.Prelude.{◌==◌, ◌&&◌, cond, not, ⊤}
use Rattle.std.specs.declared.cmp.Ordering.TheVariants.{Equal, Greater, Less}
use Rattle.std.specs.List.{All}
use Rattle.std.specs.List.Sorted.{IsNonDecreasingBy, IsPermutation, IsSortedByKeyClosure, IsStableByKey, IsStableByKeyClosure, ties}
use Rattle.std.specs.Fn.{Called, Mut}
use Rattle.std.proofs.lemmas.Fn.{always_returns_same}
use Rattle.std.specs.Ordering.{is_lt, nat_cmp}
use Rattle.std.proofs.lemmas.Bool.{cases_lt}
use Rattle.std.proofs.lemmas.List.{map-append, take_more}
use Rattle.std.proofs.lemmas.List.Elements.{All-push, All-tail, filter-append, filter_agree}
use Rattle.std.proofs.lemmas.List.Sorted.{All-permutation, IsNonDecreasingBy-from_sort, length_permutation}
use Rattle.cal_context.specs.Snapshots.{entry_of}
use Rattle.cal_context.specs.Tree.{Tree, attribute_at}
use Rattle.cal_context.specs.declared.snapshot.Immediate.{Immediate}
use Rattle.cal_value.specs.Flat.{joined}
use Rattle.cal_value.specs.declared.attribute.Entry.{Entry}
use Rattle.cal_keys.specs.Groups.{taken, takes_attribute}
use Rattle.cal_keys.specs.TakenImms.{AreTaken, taken_entry}
use Rattle.cal_keys.specs.Shares.{Say}
use Rattle.cal_keys.specs.declared.share.Share.{Share}
use Rattle.cal_keys.specs.Takers.{KnowsTakers, is_place, taken_at, taker, taker_at}
use Rattle.cal_keys.specs.declared.key_imms.TakenImm.{TakenImm}
use Rattle.cal_keys.specs.declared.takers.Takers.{Takers}
use Rattle.cal_keys.proofs.ShareLemmas.{eqb_is, eqb_isnt, eqb_not, eqb_so, lt_not, lt_so, say_sorted}
use Rattle.cal_keys.proofs.TakerLemmas.{at_places, first_within, taken_places}

-- ---- one immediate more

imms_more : (t : Tree) (names : List (List ℕ)) (imms : List Immediate) (i : ℕ) (x : Immediate) (p : ℕ) → i < length imms → x ≡ get_or imms i x
    → taken_at false names p (map (entry_of t) (take (i + 1) imms))
    ≡ taken_at false names p (map (entry_of t) (take i imms)) ++ taken_at false names p (entry_of t x ∷ [])
imms_more t names imms i x p short read =
    ap (λ xs. taken_at false names p (map (entry_of t) xs)) (take_more imms i x short ∙ ap (λ y. take i imms ++ y ∷ []) (sym read))
    ∙ ap (taken_at false names p) (map-append (entry_of t) (take i imms) (x ∷ []))
    ∙ filter-append (λ e. is_place p (taker false names e.attr)) (map (entry_of t) (take i imms)) (entry_of t x ∷ [])

pub who_takes : (t : Tree) (names : List (List ℕ)) (x : Takers) (i : Immediate) → KnowsTakers t names x → i.attribute.0 < length t.attributes
    → (taker_at x i.attribute).beside ≡ taker false names (attribute_at t i.attribute)
who_takes t names x i knows within = (knows.are.known i.attribute (omega (arith, within, knows.all))).is.beside

pub imm_taken : (t : Tree) (names : List (List ℕ)) (x : Takers) (imms : List Immediate) (i : ℕ) (imm : Immediate) (place : ℕ) (xs now : List TakenImm)
    (one : TakenImm) → KnowsTakers t names x → imm.attribute.0 < length t.attributes → i < length imms → imm ≡ get_or imms i imm
    → (taker_at x imm.attribute).beside ≡ Some place → one.place ≡ place → one.imm.now ≡ imm → now ≡ xs ++ one ∷ []
    → AreTaken t names (take i imms) xs → AreTaken t names (take (i + 1) imms) now
imm_taken t names x imms i imm place xs now one knows within short read by_name at is more h = record {
  places = subst (All (λ (o : TakenImm). o.place < length names)) (sym more)
      (All-push (λ (o : TakenImm). o.place < length names) xs one h.places (subst (λ n. n < length names) (sym at) few));
  take = λ p. ap (λ ys. map (taken_entry t) (filter (λ (o : TakenImm). o.place == p) ys)) more
      ∙ ap (map (taken_entry t)) (filter-append (λ (o : TakenImm). o.place == p) xs (one ∷ []))
      ∙ map-append (taken_entry t) (filter (λ (o : TakenImm). o.place == p) xs) (filter (λ (o : TakenImm). o.place == p) (one ∷ []))
      ∙ (λ j. h.take p j ++ last p (one.place == p) refl j)
      ∙ sym (imms_more t names imms i imm p short read);
}
  where
    taker_is : taker false names (attribute_at t imm.attribute) ≡ Some place
    taker_is = sym (who_takes t names x imm knows within) ∙ by_name

    few : place < length names
    few = first_within (λ name. takes_attribute false name (attribute_at t imm.attribute)) names place taker_is

    last : (p : ℕ) (b : Bool) → (one.place == p) ≡ b
        → map (taken_entry t) (filter (λ (o : TakenImm). o.place == p) (one ∷ [])) ≡ taken_at false names p (entry_of t imm ∷ [])
    last p true e =
        let same : (place == p) ≡ true = ap (λ n. n == p) (sym at) ∙ e in
        rw (e, taker_is, same) (ap (λ (y : Immediate). entry_of t y ∷ []) is)
    last p false e =
        let same : (place == p) ≡ false = ap (λ n. n == p) (sym at) ∙ e in
        rw (e, taker_is, same) refl

pub imm_not_taken : (t : Tree) (names : List (List ℕ)) (x : Takers) (imms : List Immediate) (i : ℕ) (imm : Immediate) (xs now : List TakenImm)
    → KnowsTakers t names x → imm.attribute.0 < length t.attributes → i < length imms → imm ≡ get_or imms i imm
    → (taker_at x imm.attribute).beside ≡ None → now ≡ xs
    → AreTaken t names (take i imms) xs → AreTaken t names (take (i + 1) imms) now
imm_not_taken t names x imms i imm xs now knows within short read by_none same h = record {
  places = subst (All (λ (o : TakenImm). o.place < length names)) (sym same) h.places;
  take = λ p. ap (λ ys. map (taken_entry t) (filter (λ (o : TakenImm). o.place == p) ys)) same
      ∙ h.take p
      ∙ sym (append-nil (taken_at false names p (map (entry_of t) (take i imms))))
      ∙ ap (λ es. taken_at false names p (map (entry_of t) (take i imms)) ++ es) (sym (last p))
      ∙ sym (imms_more t names imms i imm p short read);
}
  where
    taker_is : taker false names (attribute_at t imm.attribute) ≡ None
    taker_is = sym (who_takes t names x imm knows within) ∙ by_none

    last : (p : ℕ) → taken_at false names p (entry_of t imm ∷ []) ≡ []
    last p = rw taker_is refl

-- ---- taken immediates in order

-- places don't fall
abbrev Climb : ℕ → ℕ → List TakenImm → Type 0
Climb from to [] = ⊤
Climb from to (x ∷ xs) = (from ≤ x.place) × (x.place < to) × Climb x.place to xs

Climb-weaker : (low from to : ℕ) (xs : List TakenImm) → low ≤ from → Climb from to xs → Climb low to xs
Climb-weaker low from to [] less h = tt
Climb-weaker low from to (x ∷ xs) less h = (omega (arith, less, h.0), h.1, h.2)

climbs : (from to : ℕ) (xs : List TakenImm) → All (λ (x : TakenImm). x.place < to) xs → ((i : ℕ) (d : TakenImm) → i < length xs → from ≤ (get_or xs i d).place)
    → IsNonDecreasingBy (λ (x : TakenImm). x.place) xs → Climb from to xs
climbs from to [] all low up = tt
climbs from to (x ∷ xs) all low up = (
  low 0 x (omega arith),
  all 0 x (omega arith),
  climbs x.place to xs (All-tail (λ (x : TakenImm). x.place < to) x xs all)
      (λ i d l. up 0 (suc i) d (omega arith) (omega (arith, l)))
      (λ i j d l m. up (suc i) (suc j) d (omega (arith, l)) (omega (arith, m))),
)

module _ (t : Tree) where
  abbrev entries_at : List TakenImm → ℕ → List Entry
  entries_at xs p = map (taken_entry t) (filter (λ (o : TakenImm). o.place == p) xs)

  none_at : (p from to : ℕ) (xs : List TakenImm) → p < from → Climb from to xs → entries_at xs p ≡ []
  none_at p from to [] low h = refl
  none_at p from to (x ∷ xs) low h =
      let isnt : (x.place == p) ≡ false = eqb_not x.place p (λ e. omega (arith, e, low, h.0)) in
      rw isnt (none_at p x.place to xs (omega (arith, low, h.0)) h.2)

  -- joined lists that are alike from a place on
  joined_agree : (f g : ℕ → List Entry) (from count : ℕ) → ((n : ℕ) → from ≤ n → f n ≡ g n) → joined (at_places f from count) ≡ joined (at_places g from count)
  joined_agree f g from zero same = refl
  joined_agree f g from (suc count) same = λ i. same from (omega arith) i ++ joined_agree f g (from + 1) count (λ n l. same n (omega (arith, l))) i

  joined_first : (x : TakenImm) (xs : List TakenImm) (from count to : ℕ) → from + count ≡ to → from ≤ x.place → x.place < to → Climb x.place to xs
      → joined (at_places (entries_at (x ∷ xs)) from count) ≡ taken_entry t x ∷ joined (at_places (entries_at xs) from count)
  joined_first x xs from zero to end low high h = absurd (omega (arith, end, low, high))
  joined_first x xs from (suc count) to end low high h =
      by (x.place == from) refl (λ more. joined_first x xs (from + 1) count to (omega (arith, end)) more high h)
    where
      here : (b : Bool) → (x.place == from) ≡ b → entries_at (x ∷ xs) from ≡ (if b then taken_entry t x ∷ entries_at xs from else entries_at xs from)
      here true e = rw e refl
      here false e = rw e refl

      by : (b : Bool) → (x.place == from) ≡ b
          → (from + 1 ≤ x.place → joined (at_places (entries_at (x ∷ xs)) (from + 1) count) ≡ taken_entry t x ∷ joined (at_places (entries_at xs) (from + 1) count))
          → joined (at_places (entries_at (x ∷ xs)) from (suc count)) ≡ taken_entry t x ∷ joined (at_places (entries_at xs) from (suc count))
      by true e rest =
          let at = eqb_is x.place from e in
          λ i. here true e i ++ joined_agree (entries_at (x ∷ xs)) (entries_at xs) (from + 1) count (λ n l. other n (eqb_not x.place n (λ same. omega (arith, same, at, l)))) i
        where
          other : (n : ℕ) → (x.place == n) ≡ false → entries_at (x ∷ xs) n ≡ entries_at xs n
          other n f = rw f refl
      by false e rest =
          let more : from + 1 ≤ x.place = above (cases_lt from x.place) in
          let none : entries_at xs from ≡ [] = none_at from x.place to xs (omega (arith, more)) h in
          (λ i. (here false e ∙ none) i ++ rest more i) ∙ (λ i. taken_entry t x ∷ (sym none i ++ joined (at_places (entries_at xs) (from + 1) count)))
        where
          above : (from < x.place) ⊎ (x.place ≤ from) → from + 1 ≤ x.place
          above (inl l) = omega (arith, l)
          above (inr l) = absurd (eqb_isnt x.place from e (omega (arith, l, low)))

  nothing_joined : (from count : ℕ) → joined (at_places (entries_at []) from count) ≡ []
  nothing_joined from zero = refl
  nothing_joined from (suc count) = nothing_joined (from + 1) count

  in_order : (from count to : ℕ) (xs : List TakenImm) → from + count ≡ to → Climb from to xs → map (taken_entry t) xs ≡ joined (at_places (entries_at xs) from count)
  in_order from count to [] end h = sym (nothing_joined from count)
  in_order from count to (x ∷ xs) end h =
      ap (λ es. taken_entry t x ∷ es) (in_order from count to xs end (Climb-weaker from x.place to xs h.0 h.2))
      ∙ sym (joined_first x xs from count to end h.0 h.1 h.2)

-- a stable sort leaves what stands at a place
less_is : (x y : ℕ) → x < y → is_lt (nat_cmp x y) ≡ true
less_is x y l = ap (λ b. is_lt (cond b Less (cond (x == y) Equal Greater))) (lt_so x y l)

less_isnt : (x y : ℕ) → y ≤ x → is_lt (nat_cmp x y) ≡ false
less_isnt x y l = ap (λ b. is_lt (cond b Less (cond (x == y) Equal Greater))) (lt_not x y l) ∙ by (x == y)
  where
    by : (b : Bool) → is_lt (cond b Equal Greater) ≡ false
    by true = refl
    by false = refl

tie_place : (x y : ℕ) → (not (is_lt (nat_cmp x y)) && not (is_lt (nat_cmp y x))) ≡ (y == x)
tie_place x y = by (cases_lt x y) (cases_lt y x)
  where
    by : (x < y) ⊎ (y ≤ x) → (y < x) ⊎ (x ≤ y) → (not (is_lt (nat_cmp x y)) && not (is_lt (nat_cmp y x))) ≡ (y == x)
    by (inl l) m = ap (λ b. not b && not (is_lt (nat_cmp y x))) (less_is x y l) ∙ sym (eqb_not y x (λ e. omega (arith, e, l)))
    by (inr l) (inl m) =
        ap (λ b. not b && not (is_lt (nat_cmp y x))) (less_isnt x y l) ∙ ap not (less_is y x m) ∙ sym (eqb_not y x (λ e. omega (arith, e, m)))
    by (inr l) (inr m) =
        ap (λ b. not b && not (is_lt (nat_cmp y x))) (less_isnt x y l) ∙ ap not (less_isnt y x m) ∙ sym (eqb_so y x (omega (arith, l, m)))

same_at : (xs ys : List TakenImm) → IsPermutation xs ys → IsStableByKey (λ (x : TakenImm). x.place) nat_cmp xs ys
    → (p : ℕ) → filter (λ (o : TakenImm). o.place == p) ys ≡ filter (λ (o : TakenImm). o.place == p) xs
same_at [] [] shuffled stable p = refl
same_at [] (y ∷ ys) shuffled stable p = let long = length_permutation [] (y ∷ ys) shuffled in absurd (omega (arith, long))
same_at (x ∷ xs) ys shuffled stable p =
    let one : TakenImm = record { place = p; imm = x.imm } in
    let test = λ (o : TakenImm). ties (λ (a b : TakenImm). is_lt (nat_cmp a.place b.place)) one o in
    sym (filter_agree test (λ (o : TakenImm). o.place == p) (λ o. tie_place p o.place) ys)
    ∙ stable one
    ∙ filter_agree test (λ (o : TakenImm). o.place == p) (λ o. tie_place p o.place) (x ∷ xs)

same_shares : (xs ys : List Share) → IsPermutation xs ys → IsStableByKey (λ (x : Share). x.place) nat_cmp xs ys
    → (p : ℕ) → filter (λ (o : Share). o.place == p) ys ≡ filter (λ (o : Share). o.place == p) xs
same_shares [] [] shuffled stable p = refl
same_shares [] (y ∷ ys) shuffled stable p = let long = length_permutation [] (y ∷ ys) shuffled in absurd (omega (arith, long))
same_shares (x ∷ xs) ys shuffled stable p =
    let one : Share = record { place = p; node = x.node } in
    let test = λ (o : Share). ties (λ (a b : Share). is_lt (nat_cmp a.place b.place)) one o in
    sym (filter_agree test (λ (o : Share). o.place == p) (λ o. tie_place p o.place) ys)
    ∙ stable one
    ∙ filter_agree test (λ (o : Share). o.place == p) (λ o. tie_place p o.place) (x ∷ xs)

-- shares sorted by the places of names
pub shares_sorted : {F : Type 0} {g : Mut F (Bor Share × Unit {0}) ℕ} {f : F} (own : Tree) (count : ℕ) (takes : ℕ → List Entry) (before after : List Share)
    → Say own count takes before → IsPermutation before after → IsSortedByKeyClosure g nat_cmp f after → IsStableByKeyClosure g nat_cmp f before after
    → ((a : Bor Share × Unit {0}) (r : ℕ) (f' : F) → Called g f a r f' → (r ≡ a.0.now.place) × (f' ≡ f))
    → Say own count takes after × IsNonDecreasingBy (λ (x : Share). x.place) after
shares_sorted {g = g} {f = f} own count takes before after h shuffled up stable answers =
    let computes = always_returns_same g (λ a r. r ≡ a.0.now.place) f answers in (
      say_sorted own count takes before after shuffled (same_shares before after shuffled (stable (λ (x : Share). x.place) computes)) h,
      IsNonDecreasingBy-from_sort (λ (x : Share). x.place) after (up (λ (x : Share). x.place) computes),
    )

pub taken_in_order : (t : Tree) (names : List (List ℕ)) (imms : List Immediate) (xs ys : List TakenImm) → AreTaken t names imms xs → IsPermutation xs ys
    → IsNonDecreasingBy (λ (x : TakenImm). x.place) ys → IsStableByKey (λ (x : TakenImm). x.place) nat_cmp xs ys
    → map (taken_entry t) ys ≡ joined (taken false names (map (entry_of t) imms))
taken_in_order t names imms xs ys h shuffled up stable =
    in_order t 0 (length names) (length names) ys (omega arith)
    (climbs 0 (length names) ys (All-permutation (λ (x : TakenImm). x.place < length names) xs ys shuffled h.places) (λ i d l. omega arith) up)
    ∙ joined_agree t (entries_at t ys) (λ p. taken_at false names p (map (entry_of t) imms)) 0 (length names)
    (λ p l. ap (map (taken_entry t)) (same_at xs ys shuffled stable p) ∙ h.take p)
    ∙ ap joined (sym (taken_places false names (map (entry_of t) imms)))

pub in_order_by : {F : Type 0} {g : Mut F (Bor TakenImm × Unit {0}) ℕ} {f : F} (t : Tree) (names : List (List ℕ)) (imms : List Immediate) (before after : List TakenImm)
    → AreTaken t names imms before → IsPermutation before after → IsSortedByKeyClosure g nat_cmp f after → IsStableByKeyClosure g nat_cmp f before after
    → ((a : Bor TakenImm × Unit {0}) (r : ℕ) (f' : F) → Called g f a r f' → (r ≡ a.0.now.place) × (f' ≡ f))
    → map (taken_entry t) after ≡ joined (taken false names (map (entry_of t) imms))
in_order_by {g = g} {f = f} t names imms before after h shuffled up stable answers =
    let computes = always_returns_same g (λ a r. r ≡ a.0.now.place) f answers in
    taken_in_order t names imms before after h shuffled
    (IsNonDecreasingBy-from_sort (λ (x : TakenImm). x.place) after (up (λ (x : TakenImm). x.place) computes))
    (stable (λ (x : TakenImm). x.place) computes)

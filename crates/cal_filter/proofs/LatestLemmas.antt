-- The last immediates of names, one immediate more at a time.
use Rattle.std.proofs.Common.{◌≡◌, ℕ, ◌+◌, ◌<◌, ◌≤◌, ◌⊎◌, inl, inr, Bool, true, false, List, [], ◌∷◌, ◌++◌}
use Rattle.std.proofs.Common.{length, map, get_or, slice_get, slice_set, slice_index_or, position, is_some, arith}
use Rattle.std.proofs.Common.{Option, None, Some, option_map, refl, sym, ◌∙◌, ap, subst, true≢false}
use Rattle.std.specs.List.{position_or_len}
use Rattle.std.specs.Ordering.{eq_by_cmp}
use Rattle.std.specs.Prelude.{◌&&◌}
use Rattle.std.proofs.Common.{◌==◌, eq-eqb, ne_eqb}
use Rattle.std.proofs.lemmas.Bool.{cases_eq, cases_lt}
use Rattle.std.proofs.lemmas.Grind.{common_steps}
use Rattle.std.proofs.lemmas.List.{get_or-set_other, get_or-set_same, get_or_append_left, get_or_push}
use Rattle.std.proofs.lemmas.List.{length-append, length-set, map-append}
use Rattle.std.proofs.lemmas.List.Sums.{fails_before_first}
use Rattle.std.proofs.lemmas.Option.{slice_get-get_or, slice_get_within, get_or_from_slice_get}
use Rattle.cal_context.proofs.ListLemmas.{number_of_position}
use Rattle.cal_context.specs.Snapshots.{entry_of}
use Rattle.cal_context.specs.Tree.{Tree, attribute_at}
use Rattle.cal_context.specs.declared.numbers.AttributeNumber.{AttributeNumber}
use Rattle.cal_context.specs.declared.snapshot.Immediate.{Immediate}
use Rattle.cal_value.specs.ExactOrder.{exact_equiv, exact_tells, text_exact}
use Rattle.cal_value.specs.Texts.{text_cmp}
use Rattle.cal_filter.specs.Latest.{IsLast, IsLatest, IsNumberedName, KnowsAllNames, KnowsNames, number_at}
use Rattle.cal_filter.specs.Numbers.{number_in}
use Rattle.cal_filter.specs.Sought.{Sought, any_of, last_sought, number_of, seeks}
use Rattle.cal_filter.specs.declared.latest.Latest.{Latest}
use Rattle.cal_filter.proofs.Last.{other_end, sought_end}

-- whether two names are the same
abbrev same_name : List ℕ → List ℕ → Bool
same_name = eq_by_cmp text_cmp

-- nothing passes where there is no first that does
position_none : {X : Type 0} (p : X → Bool) (xs : List X) (k : ℕ) (d : X) → position p xs ≡ None
    → k < length xs → p (get_or xs k d) ≡ false
position_none p xs k d none short =
    let long : length xs ≤ position_or_len p xs = grind (arith, common_steps) in
    fails_before_first p xs k d (omega (arith, long, short))

and_no : (b c : Bool) → c ≡ false → (b && c) ≡ false
and_no true c h = h
and_no false c h = refl

module _ (t : Tree) (s : Sought) (imms : List Immediate) (x : Immediate) where
  one_more : map (entry_of t) (imms ++ x ∷ []) ≡ map (entry_of t) imms ++ entry_of t x ∷ []
  one_more = map-append (entry_of t) imms (x ∷ [])

  -- the next immediate is the last, if it is sought
  last_here : (p : ℕ) → p ≡ length imms → seeks s (entry_of t x) ≡ true
      → IsLast t s (imms ++ x ∷ []) (Some p)
  last_here p at is =
      let long = length-append imms (x ∷ []) in
      let within : p < length (imms ++ x ∷ []) = omega (arith, long, at) in
      let read : slice_get (imms ++ x ∷ []) p ≡ Some x =
      slice_get-get_or (imms ++ x ∷ []) p x within ∙ ap Some (get_or_push imms x x p (sym at)) in
      record {
        within = within;
        last = ap (last_sought s) one_more ∙ sought_end s (map (entry_of t) imms) (entry_of t x) is
            ∙ sym (ap (option_map (entry_of t)) read);
      }

  -- and else the one before stays the last
  last_stays : (o : Option ℕ) → seeks s (entry_of t x) ≡ false → IsLast t s imms o
      → IsLast t s (imms ++ x ∷ []) o
  last_stays None isnt h = record {
    within = tt;
    last = ap (last_sought s) one_more ∙ other_end s (map (entry_of t) imms) (entry_of t x) isnt
        ∙ h.last;
  }
  last_stays (Some p) isnt h =
      let long = length-append imms (x ∷ []) in
      let short : p < length imms = h.within in
      let within : p < length (imms ++ x ∷ []) = omega (arith, long, short) in
      let same : slice_get imms p ≡ slice_get (imms ++ x ∷ []) p =
      slice_get-get_or imms p x short
      ∙ ap Some (sym (get_or_append_left imms (x ∷ []) x p short))
      ∙ sym (slice_get-get_or (imms ++ x ∷ []) p x within) in
      record {
        within = within;
        last = ap (last_sought s) one_more
            ∙ other_end s (map (entry_of t) imms) (entry_of t x) isnt ∙ h.last
            ∙ ap (option_map (entry_of t)) same;
      }

module _ (t : Tree) (l l' : Latest) (keys : l'.names.keys ≡ l.names.keys) where
  -- what is known of names stays where they and what is kept of attributes do
  pub all_names_stay : l'.named ≡ l.named → KnowsAllNames t l → KnowsAllNames t l'
  all_names_stay named h = record {
    knows = record {
      apart = rw keys h.knows.apart;
      attributes = λ a short.
          let is = h.knows.attributes a (subst (λ xs. a.0 < length xs) named short) in
          record {
            within = is.within;
            number = ap (λ xs. slice_index_or xs a.0 None) named ∙ is.number
                ∙ ap (position (same_name (attribute_at t a).name)) (sym keys);
          };
    };
    attributes = subst (λ xs. length t.attributes ≤ length xs) (sym named) h.attributes;
  }

  -- one attribute more is known
  pub names_more : (k : ℕ) (o : Option ℕ) → l'.named ≡ l.named ++ o ∷ []
      → length l.named ≡ k → k < length t.attributes
      → o ≡ position (same_name (attribute_at t (record { 0 = k })).name) l.names.keys
      → KnowsNames t l → KnowsNames t l'
  names_more k o more counted inside is h = record {
    apart = rw keys h.apart;
    attributes = λ a short.
        let long = length-append l.named (o ∷ []) in
        let whole = subst (λ xs. a.0 < length xs) more short in
        by a (omega (arith, long, whole, counted)) (cases_lt a.0 (length l.named));
  }
    where
      by : (a : AttributeNumber) → a.0 < k + 1
          → (a.0 < length l.named) ⊎ (length l.named ≤ a.0) → IsNumberedName t l' a
      by a below (inl less) =
          let known = h.attributes a less in
          record {
            within = known.within;
            number = ap (λ xs. slice_index_or xs a.0 None) more
                ∙ get_or_append_left l.named (o ∷ []) None a.0 less ∙ known.number
                ∙ ap (position (same_name (attribute_at t a).name)) (sym keys);
          }
      by a below (inr least) =
          let at : length l.named ≡ a.0 = omega (arith, below, least, counted) in
          let same : k ≡ a.0 = sym counted ∙ at in
          record {
            within = subst (λ n. n < length t.attributes) same inside;
            number = ap (λ xs. slice_index_or xs a.0 None) more
                ∙ get_or_push l.named o None a.0 at ∙ is
                ∙ ap (λ n. position (same_name (attribute_at t (record { 0 = n })).name) l.names.keys)
                same
                ∙ ap (position (same_name (attribute_at t a).name)) (sym keys);
          }

module _ (t : Tree) (l : Latest) (h : KnowsAllNames t l) (a : AttributeNumber)
    (inside : a.0 < length t.attributes) (n : ℕ) (key : List ℕ)
    (at : slice_get l.names.keys n ≡ Some key) where
  numbered : number_at l a ≡ position (same_name (attribute_at t a).name) l.names.keys
  numbered = (h.knows.attributes a (omega (arith, inside, h.attributes))).number

  -- an attribute whose name has no number has another name than one that has
  pub unnumbered-other : number_at l a ≡ None → same_name (attribute_at t a).name key ≡ false
  unnumbered-other none =
      sym (ap (same_name (attribute_at t a).name) (get_or_from_slice_get l.names.keys n key key at))
      ∙ position_none (same_name (attribute_at t a).name) l.names.keys n key (sym numbered ∙ none)
      (slice_get_within l.names.keys n key at)

  -- names are the same where their numbers are
  pub numbered-same : (m : ℕ) → number_at l a ≡ Some m
      → (m == n) ≡ same_name (attribute_at t a).name key
  numbered-same m is = by (cases_eq m n)
    where
      own : List ℕ
      own = (attribute_at t a).name

      there_own : slice_get l.names.keys m ≡ Some own
      there_own = number_of_position (exact_equiv text_exact) (exact_tells text_exact) l.names.keys
          m own (sym is ∙ numbered)

      apart : (m ≡ n → ⊥) → (b : Bool) → same_name own key ≡ b → same_name own key ≡ false
      apart other false e = e
      apart other true e =
          absurd (other (h.knows.apart m n key (slice_get_within l.names.keys m own there_own)
          (slice_get_within l.names.keys n key at)
          (get_or_from_slice_get l.names.keys m own key there_own ∙ exact_tells text_exact own key e
          ∙ sym (get_or_from_slice_get l.names.keys n key key at))))

      by : (m ≡ n) ⊎ (m ≡ n → ⊥) → (m == n) ≡ same_name own key
      by (inl e) =
          let one : own ≡ key = sym (get_or_from_slice_get l.names.keys m own key there_own)
          ∙ ap (λ k. get_or l.names.keys k key) e
          ∙ get_or_from_slice_get l.names.keys n key key at in
          eq-eqb m n e ∙ sym (sym (ap (same_name own) one) ∙ (exact_equiv text_exact).refl own)
      by (inr other) = ne_eqb m n other ∙ sym (apart other (same_name own key) refl)

module _ (t : Tree) (l : Latest) (imms : List Immediate) (x : Immediate) (h : IsLatest t l imms)
    (inside : x.attribute.0 < length t.attributes) where
  abbrev name : List ℕ
  name = (attribute_at t x.attribute).name

  abbrev keys : List (List ℕ)
  keys = l.names.keys

  known : number_at l x.attribute ≡ position (same_name name) keys
  known = (h.names.knows.attributes x.attribute (omega (arith, inside, h.names.attributes))).number

  -- an immediate whose name isn't one of these
  pub noted_none : number_at l x.attribute ≡ None → IsLatest t l (imms ++ x ∷ [])
  noted_none none = record {
    names = h.names;
    counted = h.counted;
    numbers_counted = h.numbers_counted;
    any = λ n key at. last_stays t (any_of key) imms x (slice_index_or l.places.items n None)
        (ap (λ b. b && true) (other n key at)) (h.any n key at);
    number = λ n key at. last_stays t (number_of key) imms x
        (slice_index_or l.number_places.items n None)
        (ap (λ b. b && is_some (number_in x.value)) (other n key at)) (h.number n key at);
  }
    where
      other : (n : ℕ) (key : List ℕ) → slice_get keys n ≡ Some key → same_name name key ≡ false
      other n key at =
          sym (ap (same_name name) (get_or_from_slice_get keys n key key at))
          ∙ position_none (same_name name) keys n key (sym known ∙ none)
          (slice_get_within keys n key at)

  module _ (m : ℕ) (is : number_at l x.attribute ≡ Some m) (p : ℕ) (next : p ≡ length imms) where
    there : slice_get keys m ≡ Some name
    there = number_of_position (exact_equiv text_exact) (exact_tells text_exact) keys m name (sym is ∙ known)

    pub number_within : m < length l.names.keys
    number_within = slice_get_within keys m name there

    same : (n : ℕ) (key : List ℕ) → slice_get keys n ≡ Some key → same_name name key ≡ true → n ≡ m
    same n key at e =
        h.names.knows.apart n m key (slice_get_within keys n key at) number_within
        (get_or_from_slice_get keys n key key at ∙ sym (exact_tells text_exact name key e)
        ∙ sym (get_or_from_slice_get keys m name key there))

    different : (n : ℕ) (key : List ℕ) → slice_get keys n ≡ Some key → same_name name key ≡ false
        → n ≡ m → ⊥
    different n key at e equal =
        let one : name ≡ key = sym (get_or_from_slice_get keys m name key there)
        ∙ sym (ap (λ k. get_or keys k key) equal) ∙ get_or_from_slice_get keys n key key at in
        true≢false (sym ((exact_equiv text_exact).refl name) ∙ ap (same_name name) one ∙ e)

    -- the place of one name is put
    put_at : (s : Sought) (places : List (Option ℕ)) (n : ℕ) (key : List ℕ)
        → length places ≡ length keys → slice_get keys n ≡ Some key → (b : Bool) → same_name name key ≡ b
        → (same_name name key ≡ true → seeks s (entry_of t x) ≡ true)
        → (same_name name key ≡ false → seeks s (entry_of t x) ≡ false)
        → IsLast t s imms (slice_index_or places n None)
        → IsLast t s (imms ++ x ∷ []) (slice_index_or (slice_set places m (Some p)) n None)
    put_at s places n key counted at true e hit miss last =
        let put : slice_index_or (slice_set places m (Some p)) n None ≡ Some p =
        ap (λ k. slice_index_or (slice_set places m (Some p)) k None) (same n key at e)
        ∙ get_or-set_same places m (Some p) None (omega (arith, number_within, counted)) in
        subst (IsLast t s (imms ++ x ∷ [])) (sym put) (last_here t s imms x p next (hit e))
    put_at s places n key counted at false e hit miss last =
        subst (IsLast t s (imms ++ x ∷ []))
        (sym (get_or-set_other places m n (Some p) None (different n key at e)))
        (last_stays t s imms x (slice_index_or places n None) (miss e) last)

    module _ (l' : Latest) (same_keys : l'.names.keys ≡ l.names.keys)
        (named : l'.named ≡ l.named)
        (places : l'.places.items ≡ slice_set l.places.items m (Some p)) where
      any_noted : (n : ℕ) (key : List ℕ) → slice_get l'.names.keys n ≡ Some key
          → IsLast t (any_of key) (imms ++ x ∷ []) (slice_index_or l'.places.items n None)
      any_noted n key at =
          let old = sym (ap (λ ks. slice_get ks n) same_keys) ∙ at in
          subst (λ xs. IsLast t (any_of key) (imms ++ x ∷ []) (slice_index_or xs n None)) (sym places)
          (put_at (any_of key) l.places.items n key h.counted old (same_name name key) refl
          (λ e. ap (λ b. b && true) e) (λ e. ap (λ b. b && true) e) (h.any n key old))

      counted : length l'.places.items ≡ length l'.names.keys
      counted = ap length places ∙ length-set l.places.items m (Some p) ∙ h.counted
          ∙ ap length (sym same_keys)

      -- an immediate whose value is no number
      pub noted_any : is_some (number_in x.value) ≡ false
          → l'.number_places.items ≡ l.number_places.items → IsLatest t l' (imms ++ x ∷ [])
      noted_any isnt numbers = record {
        names = all_names_stay t l l' same_keys named h.names;
        counted = counted;
        numbers_counted = ap length numbers ∙ h.numbers_counted ∙ ap length (sym same_keys);
        any = any_noted;
        number = λ n key at.
            let old = sym (ap (λ ks. slice_get ks n) same_keys) ∙ at in
            subst (λ xs. IsLast t (number_of key) (imms ++ x ∷ []) (slice_index_or xs n None)) (sym numbers)
            (last_stays t (number_of key) imms x (slice_index_or l.number_places.items n None)
            (and_no (same_name name key) (is_some (number_in x.value)) isnt) (h.number n key old));
      }

      -- and one whose value is
      pub noted_number : is_some (number_in x.value) ≡ true
          → l'.number_places.items ≡ slice_set l.number_places.items m (Some p)
          → IsLatest t l' (imms ++ x ∷ [])
      noted_number whole numbers = record {
        names = all_names_stay t l l' same_keys named h.names;
        counted = counted;
        numbers_counted = ap length numbers ∙ length-set l.number_places.items m (Some p)
            ∙ h.numbers_counted ∙ ap length (sym same_keys);
        any = any_noted;
        number = λ n key at.
            let old = sym (ap (λ ks. slice_get ks n) same_keys) ∙ at in
            subst (λ xs. IsLast t (number_of key) (imms ++ x ∷ []) (slice_index_or xs n None)) (sym numbers)
            (put_at (number_of key) l.number_places.items n key h.numbers_counted old
            (same_name name key) refl
            (λ e. ap (λ b. b && is_some (number_in x.value)) e ∙ whole)
            (λ e. ap (λ b. b && is_some (number_in x.value)) e) (h.number n key old));
      }

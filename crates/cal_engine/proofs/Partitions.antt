-- What is kept of the groups of a list, taken together, is what is kept of the list.
use Rattle.std.proofs.Common.{◌≡◌, Bool, true, false, not, ◌&&◌, ◌||◌, List, [], ◌∷◌, ◌++◌, filter, fold, map, refl, sym, ap, ◌∙◌, arith, true≢false, append_assoc}
use Rattle.std.specs.Cmp.{IsEquivalence}
use Rattle.std.specs.List.{flat_map, list_any}
use Rattle.std.proofs.lemmas.Grind.{common_steps}
use Rattle.cal_keys.specs.FirstSeen.{firsts}
use Rattle.cal_engine.proofs.Firsts.{without, list_any-firsts}

module _ {A : Type 0} (eq : A → A → Bool) where
  -- no item is equal to one after it
  abbrev pub AreOnce : List A → Type 0
  AreOnce [] = Unit {0}
  AreOnce (x ∷ xs) = (list_any (eq x) xs ≡ false) × AreOnce xs

  pub list_any-filter : (p : A → Bool) (x : A) (xs : List A) → list_any (eq x) xs ≡ false → list_any (eq x) (filter p xs) ≡ false
  list_any-filter p x [] h = refl
  list_any-filter p x (y ∷ ys) h = by (eq x y) (p y) refl refl (list_any-filter p x ys)
    where
      by : (a b : Bool) → eq x y ≡ a → p y ≡ b
          → (list_any (eq x) ys ≡ false → list_any (eq x) (filter p ys) ≡ false)
          → list_any (eq x) (filter p (y ∷ ys)) ≡ false
      by true b ea eb rest = absurd (true≢false (grind (arith, ea, h)))
      by false b ea eb rest =
          let none : list_any (eq x) ys ≡ false = grind (arith, ea, h) in
          let still = rest none in
          grind (arith, ea, eb, still)

  pub AreOnce-filter : (p : A → Bool) (xs : List A) → AreOnce xs → AreOnce (filter p xs)
  AreOnce-filter p [] h = tt
  AreOnce-filter p (x ∷ xs) h = by (p x) refl (AreOnce-filter p xs h.1)
    where
      by : (b : Bool) → p x ≡ b → AreOnce (filter p xs) → AreOnce (filter p (x ∷ xs))
      by true e rest = rw e (list_any-filter p x xs h.0, rest)
      by false e rest = rw e rest

module _ {A : Type 0} {eq : A → A → Bool} (laws : IsEquivalence eq) (same : (x y : A) → eq x y ≡ true → x ≡ y) where
  list_any-without_itself : (h : A) (xs : List A) → list_any (eq h) (without laws same h xs) ≡ false
  list_any-without_itself h [] = refl
  list_any-without_itself h (x ∷ xs) = by (eq x h) refl (list_any-without_itself h xs)
    where
      by : (b : Bool) → eq x h ≡ b → list_any (eq h) (without laws same h xs) ≡ false
          → list_any (eq h) (without laws same h (x ∷ xs)) ≡ false
      by true e rest = grind (arith, e, rest)
      by false e rest =
          let other : eq h x ≡ false = laws.symm h x ∙ e in
          grind (arith, e, rest, other)

  pub AreOnce-firsts : (xs : List A) → AreOnce eq (firsts eq xs)
  AreOnce-firsts [] = tt
  AreOnce-firsts (x ∷ xs) =
      (list_any-without_itself x (firsts eq xs), AreOnce-filter eq (λ other. not (eq other x)) (firsts eq xs) (AreOnce-firsts xs))

-- what is kept of a list, so that a concatenation's is merged, in either order
pub record IsKept {R M : Type 0} (v : List R → M) (merge : M → M → M) : Type 0 where
  pub merges : (rs ss : List R) → v (rs ++ ss) ≡ merge (v rs) (v ss)
  pub commutes : (rs ss : List R) → v (rs ++ ss) ≡ v (ss ++ rs)

module _ {R M : Type 0} {v : List R → M} {merge : M → M → M} (kept : IsKept v merge) where
  -- what is kept of lists, one after another
  pub fold-lists : {A : Type 0} (f : A → List R) (before : List R) (xs : List A)
      → fold merge (v before) (map (λ x. v (f x)) xs) ≡ v (before ++ flat_map f xs)
  fold-lists f before [] = ap v (grind (arith, common_steps))
  fold-lists f before (x ∷ xs) =
      ap (λ m. fold merge m (map (λ x. v (f x)) xs)) (sym (kept.merges before (f x)))
      ∙ fold-lists f (before ++ f x) xs
      ∙ ap v (append_assoc before (f x) (flat_map f xs))

  -- an item may go first
  middle : (before : List R) (r : R) (after : List R) → v (before ++ r ∷ after) ≡ v (r ∷ (before ++ after))
  middle before r after =
      ap v (sym (append_assoc before (r ∷ []) after))
      ∙ kept.merges (before ++ r ∷ []) after
      ∙ ap (λ m. merge m (v after)) (kept.commutes before (r ∷ []))
      ∙ sym (kept.merges (r ∷ before) after)

  under : (r : R) (rs ss : List R) → v rs ≡ v ss → v (r ∷ rs) ≡ v (r ∷ ss)
  under r rs ss e = kept.merges (r ∷ []) rs ∙ ap (merge (v (r ∷ []))) e ∙ sym (kept.merges (r ∷ []) ss)

  -- the records that pass one of two tests, which none passes both of
  pub filter-either : (p q : R → Bool) → ((r : R) → p r ≡ true → q r ≡ false) → (rs : List R)
      → v (filter p rs ++ filter q rs) ≡ v (filter (λ r. p r || q r) rs)
  filter-either p q apart [] = refl
  filter-either p q apart (r ∷ rs) = by (p r) (q r) refl refl (filter-either p q apart rs)
    where
      by : (a b : Bool) → p r ≡ a → q r ≡ b
          → v (filter p rs ++ filter q rs) ≡ v (filter (λ r. p r || q r) rs)
          → v (filter p (r ∷ rs) ++ filter q (r ∷ rs)) ≡ v (filter (λ r. p r || q r) (r ∷ rs))
      by true true ea eb rest = absurd (true≢false (sym eb ∙ apart r ea))
      by true false ea eb rest = rw (ea, eb) (under r (filter p rs ++ filter q rs) (filter (λ r. p r || q r) rs) rest)
      by false true ea eb rest = rw (ea, eb) (middle (filter p rs) r (filter q rs) ∙ under r (filter p rs ++ filter q rs) (filter (λ r. p r || q r) rs) rest)
      by false false ea eb rest = rw (ea, eb) rest

  module _ {A : Type 0} {eq : A → A → Bool} (laws : IsEquivalence eq) (same : (x y : A) → eq x y ≡ true → x ≡ y) (key : R → A) where
    -- the records of groups, group by group
    pub by_group : (gs : List A) → AreOnce eq gs → (rs : List R)
        → v (flat_map (λ g. filter (λ r. eq (key r) g) rs) gs) ≡ v (filter (λ r. list_any (eq (key r)) gs) rs)
    by_group [] once rs = ap v (sym (none rs))
      where
        none : (rs : List R) → filter (λ r. false) rs ≡ []
        none [] = refl
        none (r ∷ rs) = none rs
    by_group (g ∷ gs) once rs =
        kept.merges (filter (λ r. eq (key r) g) rs) (flat_map (λ g. filter (λ r. eq (key r) g) rs) gs)
        ∙ ap (merge (v (filter (λ r. eq (key r) g) rs))) (by_group gs once.1 rs)
        ∙ sym (kept.merges (filter (λ r. eq (key r) g) rs) (filter (λ r. list_any (eq (key r)) gs) rs))
        ∙ filter-either (λ r. eq (key r) g) (λ r. list_any (eq (key r)) gs)
        (λ r e. ap (λ k. list_any (eq k) gs) (same (key r) g e) ∙ once.0) rs

    -- tests that agree on a list's records
    filter-alike : (p q : R → Bool) (rs : List R) → ((r : R) → list_any (eq (key r)) (map key rs) ≡ true → p r ≡ q r) → filter p rs ≡ filter q rs
    filter-alike p q [] h = refl
    filter-alike p q (r ∷ rs) h =
        by (p r) (q r) refl refl (h r (first_there r rs)) (filter-alike p q rs (λ s e. h s (grind (arith, e))))
      where
        first_there : (r : R) (rs : List R) → list_any (eq (key r)) (map key (r ∷ rs)) ≡ true
        first_there r rs = rw (laws.refl (key r)) refl

        by : (a b : Bool) → p r ≡ a → q r ≡ b → p r ≡ q r → filter p rs ≡ filter q rs
            → filter p (r ∷ rs) ≡ filter q (r ∷ rs)
        by true b ea eb e rest = let other = sym e ∙ ea in rw (ea, other) (ap (λ xs. r ∷ xs) rest)
        by false b ea eb e rest = let other = sym e ∙ ea in rw (ea, other) rest

    list_any-where : (test : A → Bool) (k : A) (gs : List A) → list_any (eq k) (filter test gs) ≡ (test k && list_any (eq k) gs)
    list_any-where test k [] = by (test k)
      where
        by : (b : Bool) → false ≡ (b && false)
        by true = refl
        by false = refl
    list_any-where test k (g ∷ gs) = by (test g) (eq k g) refl refl (list_any-where test k gs)
      where
        by : (a b : Bool) → test g ≡ a → eq k g ≡ b
            → list_any (eq k) (filter test gs) ≡ (test k && list_any (eq k) gs)
            → list_any (eq k) (filter test (g ∷ gs)) ≡ (test k && list_any (eq k) (g ∷ gs))
        by a true ea eb rest =
            let is : test k ≡ test g = ap test (same k g eb) in
            grind (arith, ea, eb, rest, is)
        by true false ea eb rest = grind (arith, ea, eb, rest)
        by false false ea eb rest = grind (arith, ea, eb, rest)

    -- What is kept of the groups that pass a test, taken together in first-seen order, is what is
    -- kept of the records whose groups pass it.
    pub groups_where : (test : A → Bool) (rs : List R)
        → fold merge (v []) (map (λ g. v (filter (λ r. eq (key r) g) rs)) (filter test (firsts eq (map key rs))))
        ≡ v (filter (λ r. test (key r)) rs)
    groups_where test rs =
        let gs = filter test (firsts eq (map key rs)) in
        fold-lists (λ g. filter (λ r. eq (key r) g) rs) [] gs
        ∙ by_group gs (AreOnce-filter eq test (firsts eq (map key rs)) (AreOnce-firsts laws same (map key rs))) rs
        ∙ ap v (filter-alike (λ r. list_any (eq (key r)) gs) (λ r. test (key r)) rs
        (λ r there.
        let here = list_any-firsts laws same (key r) (map key rs) ∙ there in
        let where_is = list_any-where test (key r) (firsts eq (map key rs)) in
        agree (test (key r)) (list_any (eq (key r)) (firsts eq (map key rs))) (list_any (eq (key r)) gs) here where_is))
      where
        agree : (a b c : Bool) → b ≡ true → c ≡ (a && b) → c ≡ a
        agree true b c h e = grind (arith, h, e)
        agree false b c h e = grind (arith, h, e)

-- Two lists whose items go together, place by place.
use Rattle.std.proofs.Common.{◌≡◌, ℕ, suc, zero, ◌+◌, ◌<◌, ◌≤◌, List, [], ◌∷◌, ◌++◌, ◌⊎◌, inl, inr}
use Rattle.std.proofs.Common.{length, take, refl, sym, ◌∙◌, ap, subst, arith, get_or}
use Rattle.std.specs.List.{AllZip}
use Rattle.std.proofs.Common.{slice_set}
use Rattle.std.proofs.lemmas.Bool.{cases_lt}
use Rattle.std.proofs.lemmas.List.{get_or-set_same, get_or-set_other, length-set, take_more}

module _ {A B : Type 0} (R : A → B → Type 0) where
  pub zip_length : (xs : List A) (ys : List B) → AllZip R xs ys → length xs ≡ length ys
  zip_length [] [] h = refl
  zip_length [] (y ∷ ys) h = elim h [ ]
  zip_length (x ∷ xs) [] h = elim h [ ]
  zip_length (x ∷ xs) (y ∷ ys) h = ap suc (zip_length xs ys h.1)

  -- what goes together at a place
  pub zip_at : (xs : List A) (ys : List B) (i : ℕ) (d : A) (e : B) → AllZip R xs ys → i < length ys
      → R (get_or xs i d) (get_or ys i e)
  zip_at [] [] i d e h short = absurd (omega arith)
  zip_at [] (y ∷ ys) i d e h short = elim h [ ]
  zip_at (x ∷ xs) [] i d e h short = elim h [ ]
  zip_at (x ∷ xs) (y ∷ ys) zero d e h short = h.0
  zip_at (x ∷ xs) (y ∷ ys) (suc i) d e h short = zip_at xs ys i d e h.1 (omega arith)

  -- lists of one length that go together at each place
  pub zip_from : (xs : List A) (ys : List B) → length xs ≡ length ys
      → ((i : ℕ) (d : A) (e : B) → i < length ys → R (get_or xs i d) (get_or ys i e)) → AllZip R xs ys
  zip_from [] [] same h = tt
  zip_from [] (y ∷ ys) same h = absurd (omega arith)
  zip_from (x ∷ xs) [] same h = absurd (omega arith)
  zip_from (x ∷ xs) (y ∷ ys) same h =
      (h 0 x y (omega arith), zip_from xs ys (omega arith) (λ i d e short. h (suc i) d e (omega arith)))

  pub zip_push : (xs : List A) (ys : List B) (x : A) (y : B) → AllZip R xs ys → R x y
      → AllZip R (xs ++ x ∷ []) (ys ++ y ∷ [])
  zip_push [] [] x y h r = (r, tt)
  zip_push [] (z ∷ ys) x y h r = elim h [ ]
  zip_push (z ∷ xs) [] x y h r = elim h [ ]
  zip_push (z ∷ xs) (w ∷ ys) x y h r = (h.0, zip_push xs ys x y h.1 r)

  -- one place more
  pub zip_more : (xs : List A) (ys ys' : List B) (i : ℕ) (x : A) (y : B) → AllZip R (take i xs) ys
      → i < length xs → x ≡ get_or xs i x → ys' ≡ ys ++ y ∷ [] → R x y → AllZip R (take (i + 1) xs) ys'
  zip_more xs ys ys' i x y h short read more r =
      let front : take (i + 1) xs ≡ take i xs ++ x ∷ [] =
      take_more xs i x short ∙ ap (λ z. take i xs ++ z ∷ []) (sym read) in
      subst (λ zs. AllZip R zs ys') (sym front)
      (subst (AllZip R (take i xs ++ x ∷ [])) (sym more) (zip_push (take i xs) ys x y h r))

  -- what goes together with the item at a place
  pub record Partner (xs : List A) (i : ℕ) (y : B) : Type 0 where
    pub item : A
    pub together : R item y
    pub front : take (suc i) xs ≡ take i xs ++ item ∷ []

  pub partner : (xs : List A) (ys : List B) (i : ℕ) (y : B) → AllZip R xs ys → i < length ys
      → y ≡ get_or ys i y → Partner xs i y
  partner [] [] i y h short read = absurd (omega arith)
  partner [] (w ∷ ys) i y h short read = elim h [ ]
  partner (x ∷ xs) [] i y h short read = elim h [ ]
  partner (x ∷ xs) (w ∷ ys) zero y h short read =
      record { item = x; together = subst (R x) (sym read) h.0; front = refl }
  partner (x ∷ xs) (w ∷ ys) (suc i) y h short read =
      let rest = partner xs ys i y h.1 (omega arith) read in
      record { item = rest.item; together = rest.together; front = ap (λ zs. x ∷ zs) rest.front }

-- what goes together with what goes together
pub zip_then : {A B C : Type 0} (R : A → B → Type 0) (S : B → C → Type 0) (T : A → C → Type 0)
    → ((x : A) (y : B) (z : C) → R x y → S y z → T x z) → (xs : List A) (ys : List B) (zs : List C)
    → AllZip R xs ys → AllZip S ys zs → AllZip T xs zs
zip_then R S T both [] [] [] h g = tt
zip_then R S T both [] [] (z ∷ zs) h g = elim g [ ]
zip_then R S T both [] (y ∷ ys) zs h g = elim h [ ]
zip_then R S T both (x ∷ xs) [] zs h g = elim h [ ]
zip_then R S T both (x ∷ xs) (y ∷ ys) [] h g = elim g [ ]
zip_then R S T both (x ∷ xs) (y ∷ ys) (z ∷ zs) h g =
    (both x y z h.0 g.0, zip_then R S T both xs ys zs h.1 g.1)

pub zip_weaker : {A B : Type 0} (R S : A → B → Type 0) → ((x : A) (y : B) → R x y → S x y)
    → (xs : List A) (ys : List B) → AllZip R xs ys → AllZip S xs ys
zip_weaker R S weaker [] [] h = tt
zip_weaker R S weaker [] (y ∷ ys) h = elim h [ ]
zip_weaker R S weaker (x ∷ xs) [] h = elim h [ ]
zip_weaker R S weaker (x ∷ xs) (y ∷ ys) h = (weaker x y h.0, zip_weaker R S weaker xs ys h.1)

-- what a list reads inside doesn't hang on what it reads past its end
pub get_or-inside : {A : Type 0} (xs : List A) (i : ℕ) (d e : A) → i < length xs
    → get_or xs i d ≡ get_or xs i e
get_or-inside [] i d e h = absurd (omega arith)
get_or-inside (x ∷ xs) zero d e h = refl
get_or-inside (x ∷ xs) (suc i) d e h = get_or-inside xs i d e (omega arith)

-- items that are replaced from the front, each by one that goes together with it
pub record Replacing {A : Type 0} (R : A → A → Type 0) (old : List A) (i : ℕ) (now : List A)
    : Type 0 where
  pub counted : length now ≡ length old
  pub done : (j : ℕ) (d e : A) → j < i → j < length old → R (get_or old j d) (get_or now j e)
  pub rest : (j : ℕ) (e : A) → i ≤ j → get_or now j e ≡ get_or old j e

pub replace_none : {A : Type 0} (R : A → A → Type 0) (xs : List A) → Replacing R xs 0 xs
replace_none R xs = record {
  counted = refl;
  done = λ j d e h g. absurd (omega arith);
  rest = λ j e h. refl;
}

-- one item more
pub replace_next : {A : Type 0} (R : A → A → Type 0) (old now now' : List A) (i : ℕ) (x x' : A)
    → Replacing R old i now → i < length now → x ≡ get_or now i x → now' ≡ slice_set now i x'
    → R x x' → Replacing R old (i + 1) now'
replace_next {A} R old now now' i x x' h short read write r = record {
  counted = ap length write ∙ length-set now i x' ∙ h.counted;
  done = λ j d e below within. by j d e within (cases_lt j i) below;
  rest = λ j e above.
      ap (λ zs. get_or zs j e) write
      ∙ get_or-set_other now i j x' e (λ same. absurd (omega arith))
      ∙ h.rest j e (omega arith);
}
  where
    at : (d : A) → x ≡ get_or old i d
    at d = read ∙ same x d ∙ h.rest i d (omega arith)
      where
        same : (y z : A) → get_or now i y ≡ get_or now i z
        same y z = get_or-inside now i y z short

    here : (j : ℕ) (d e : A) → j ≡ i → R (get_or old j d) (get_or now' j e)
    here j d e is =
        let before : x ≡ get_or old j d = at d ∙ ap (λ k. get_or old k d) (sym is) in
        let after : x' ≡ get_or now' j e =
        sym (get_or-set_same now i x' e short) ∙ ap (λ zs. get_or zs i e) (sym write)
        ∙ ap (λ k. get_or now' k e) (sym is) in
        subst (λ y. R y (get_or now' j e)) before (subst (R x) after r)

    by : (j : ℕ) (d e : A) → j < length old → ((j < i) ⊎ (i ≤ j)) → j < i + 1
        → R (get_or old j d) (get_or now' j e)
    by j d e within (inl less) below =
        let stays : get_or now j e ≡ get_or now' j e =
        sym (get_or-set_other now i j x' e (λ same. absurd (omega arith)))
        ∙ ap (λ zs. get_or zs j e) (sym write) in
        subst (R (get_or old j d)) stays (h.done j d e less within)
    by j d e within (inr more) below = here j d e (omega arith)

-- all are replaced
pub replace_all : {A : Type 0} (R : A → A → Type 0) (old now : List A) (i : ℕ)
    → Replacing R old i now → length now ≤ i → AllZip R old now
replace_all R old now i h all =
    let counted = h.counted in
    zip_from R old now (sym h.counted) (λ j d e short. h.done j d e (omega arith) (omega arith))

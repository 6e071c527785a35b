-- What holds of each item of a list and those before it, and what is found by its name.
use Rattle.std.proofs.Common.{◌≡◌, ℕ, ◌+◌, ◌-◌, ◌<◌, Bool, cond, List, [], ◌∷◌, ◌++◌, length, map}
use Rattle.std.proofs.Common.{take, get_or, sym, ap, subst, ◌∙◌, append_assoc, append-nil, arith}
use Rattle.std.specs.Prelude.{Option, Some, None, Result, Ok, nat_lt, slice_get}
use Rattle.std.specs.List.{position, position_or_len}
use Rattle.std.specs.Option.{ok_or, option_map}
use Rattle.std.specs.Str.{bytes_eq}
use borrow.Author.Tests.{lt-ltb}
use Rattle.std.proofs.lemmas.List.{length-append, map-append, take_all, take_more}
use Rattle.std.proofs.lemmas.List.Quantifiers.{position-Some}
use Rattle.std.proofs.lemmas.List.Sums.{position_or_len_is}
use Rattle.std.proofs.lemmas.Grind.{common_steps}
use Rattle.std.proofs.lemmas.Option.{get_or_from_slice_get, slice_get_within}
use Rattle.cal_script.specs.declared.kind.ScriptKind.{ScriptKind}
use Rattle.cal_script.specs.declared.kind.ScriptKind.TheVariants.{UnknownName}
use Rattle.cal_script.specs.Parts.{at_place, place_of}
use Rattle.cal_script.proofs.Registers.{registered_named}
use Rattle.cal_valid.proofs.Counting.{slice_get-more}

-- ---- chains

-- each item is right behind those before it
abbrev pub Chain : {A : Type 0} → (List A → A → Type 0) → List A → List A → Type 0
Chain P done [] = Unit {0}
Chain P done (x ∷ xs) = P done x × Chain P (done ++ x ∷ []) xs

pub chain-push : {A : Type 0} (P : List A → A → Type 0) (done xs : List A) (x : A) → Chain P done xs
    → P (done ++ xs) x → Chain P done (xs ++ x ∷ [])
chain-push {A} P done [] x chain is = (subst (λ (d : List A). P d x) (append-nil done) is, tt)
chain-push {A} P done (y ∷ xs) x chain is = (
  chain.0,
  chain-push P (done ++ y ∷ []) xs x chain.1
      (subst (λ (d : List A). P d x) (sym (append_assoc done (y ∷ []) xs)) is),
)

pub chain-front : {A : Type 0} (P : List A → A → Type 0) (done xs : List A) (x : A)
    → Chain P done (xs ++ x ∷ []) → Chain P done xs
chain-front P done [] x chain = tt
chain-front P done (y ∷ xs) x chain = (chain.0, chain-front P (done ++ y ∷ []) xs x chain.1)

pub chain-last : {A : Type 0} (P : List A → A → Type 0) (done xs : List A) (x : A)
    → Chain P done (xs ++ x ∷ []) → P (done ++ xs) x
chain-last {A} P done [] x chain = subst (λ (d : List A). P d x) (sym (append-nil done)) chain.0
chain-last {A} P done (y ∷ xs) x chain = subst (λ (d : List A). P d x)
    (append_assoc done (y ∷ []) xs) (chain-last P (done ++ y ∷ []) xs x chain.1)

pub chain-weaker : {A : Type 0} (P Q : List A → A → Type 0)
    → ((done : List A) (x : A) → P done x → Q done x) → (done xs : List A) → Chain P done xs
    → Chain Q done xs
chain-weaker P Q each done [] chain = tt
chain-weaker P Q each done (x ∷ xs) chain = (
  each done x chain.0,
  chain-weaker P Q each
      (done ++ x ∷ []) xs chain.1,
)

-- ---- the last item

pub last_item : {A : Type 0} (xs : List A) (x : A) → slice_get xs (length xs - 1) ≡ Some x → xs
    ≡ take (length xs - 1) xs ++ x ∷ []
last_item xs x is =
    let within = slice_get_within xs (length xs - 1) x is in
    let whole : take (length xs - 1 + 1) xs ≡ xs = take_all (length xs - 1 + 1) xs
    (omega (arith, within)) in
    sym whole ∙ take_more xs (length xs - 1) x within ∙ ap (λ y. take (length xs - 1) xs ++ y ∷ [])
    (get_or_from_slice_get xs (length xs - 1) x x is)

-- ---- what is found by its name

placed : {A : Type 0} (place : ℕ) (got : Option A) (named : ℕ × A)
    → ok_or (option_map (λ item. (place, item)) got) UnknownName ≡ Ok named → (place ≡ named.0)
    × (got ≡ Some named.1)
placed place None named is = absurd cc
placed place (Some item) named is = let same : (place, item) ≡ named = cc in
    (ap (λ n. n.0) same, ap (λ n. Some n.1) same)

found_at : {A : Type 0} (items : List A) (found : Option ℕ) (named : ℕ × A) → at_place items found
    ≡ Ok named → (found ≡ Some named.0) × (slice_get items named.0 ≡ Some named.1)
found_at items None named is = absurd cc
found_at items (Some place) named is =
    let got = placed place (slice_get items place) named is in
    (ap Some got.0, sym (ap (slice_get items) got.0) ∙ got.1)

module _ {A : Type 0} (name_of : A → List ℕ) where
  abbrev pub named_among : List A → List ℕ → Result (ℕ × A) ScriptKind
  named_among items name = at_place items (place_of (map name_of items) name)

  -- what was found has the name
  pub found_name : (items : List A) (name : List ℕ) (named : ℕ × A) → named_among items name
      ≡ Ok named → name_of named.1 ≡ name
  found_name items name named is =
      let at = found_at items (place_of (map name_of items) name) named is in
      sym (ap name_of (get_or_from_slice_get items named.0 named.1 named.1 at.1))
      ∙ registered_named name_of items name named.0 named.1 at.0

  -- and is found by its own
  pub found_itself : (items : List A) (name : List ℕ) (named : ℕ × A) → named_among items name
      ≡ Ok named → named_among items (name_of named.1) ≡ Ok named
  found_itself items name named is = ap (named_among items) (found_name items name named is) ∙ is

  position_more : (p : List ℕ → Bool) (xs ys : List (List ℕ)) (i : ℕ) → position p xs ≡ Some i
      → position p (xs ++ ys) ≡ Some i
  position_more p xs ys i is =
      let at = position-Some p xs i [] is in
      let inside : i < length (xs ++ ys) = omega (arith, length-append xs ys, at.0) in
      let place : position_or_len p (xs ++ ys) ≡ i =
      position_or_len_is p (xs ++ ys) i [] (omega (arith, inside))
      (λ k below. let here : get_or (xs ++ ys) k [] ≡ get_or xs k [] =
      grind (arith, common_steps) in ap p here ∙ at.2 k below)
      (λ within. let here : get_or (xs ++ ys) i [] ≡ get_or xs i [] = grind (arith, common_steps) in
      ap p here ∙ at.1) in
      ap (λ n. cond (nat_lt n (length (xs ++ ys))) (Some n) None) place
      ∙ ap (λ b. cond b (Some i) None) (lt-ltb i (length (xs ++ ys)) inside)

  -- and among more items too
  pub found_more : (items more : List A) (name : List ℕ) (named : ℕ × A) → named_among items name
      ≡ Ok named → named_among (items ++ more) name ≡ Ok named
  found_more items more name named is =
      let at = found_at items (place_of (map name_of items) name) named is in
      let place : place_of (map name_of (items ++ more)) name ≡ Some named.0 =
      ap (λ names. place_of names name) (map-append name_of items more)
      ∙ position_more (bytes_eq name) (map name_of items) (map name_of more) named.0 at.0 in
      ap (at_place (items ++ more)) place
      ∙ ap (λ got. ok_or (option_map (λ item. (named.0, item)) got) UnknownName)
      (slice_get-more items more named.0 named.1 at.1)

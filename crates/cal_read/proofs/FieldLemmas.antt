-- Fields by their keys, as a walk over them goes on.
use Rattle.std.proofs.Common.{◌≡◌, ◌≢◌, ℕ, suc, ◌+◌, ◌<◌, min, Bool, true, false, ◌||◌, List, [], ◌∷◌, ◌++◌, length, get_or, take, drop, map, Some, None, Ok, Err, refl, sym, ap, ◌∙◌, subst, inl, inr, arith, if◌then◌else◌}
use Rattle.std.specs.Prelude.{slice_get, codes}
use Rattle.std.specs.List.{list_any, Contains}
use Rattle.std.specs.Str.{bytes_eq}
use Rattle.std.proofs.lemmas.Bool.{cases_Bool}
use Rattle.std.proofs.Math.ListN.{get_or-map}
use Rattle.std.proofs.lemmas.List.{get_or-take, length-append, length-map, length-take, map-append, take-append-drop}
use Rattle.std.proofs.lemmas.List.Folds.{list_any-append, list_any_at}
use Rattle.std.proofs.lemmas.Option.{get_or_from_slice_get, slice_get_within}
use Rattle.cal_context.specs.Lists.{Adds}
use Rattle.std.proofs.lemmas.Slice.Eq.{bytes_eq-Decides}
use Rattle.cal_line.specs.declared.field.Field.{Field}
use Rattle.cal_read.specs.Fields.{has_key, repeats_key, values_of, only, first_name}
use Rattle.cal_read.specs.NodeLines.{at_most_one}
use Rattle.cal_read.specs.declared.kind.StreamKind.{StreamKind}
use Rattle.cal_read.specs.declared.kind.StreamKind.TheVariants as kind
use Rattle.cal_read.proofs.ListLemmas.{drop_at, take_at}

-- ---- the field with a key

pub values_of_at : (key : List ℕ) (fields : List Field) (i : ℕ) (f : Field) → slice_get fields i ≡ Some f
    → values_of key (drop i fields) ≡ (if has_key key f then f.values else values_of key (drop (i + 1) fields))
values_of_at key fields i f at = rw (drop_at fields i f at) refl

-- ---- keys that come twice

has_key-comm : (f g : Field) → has_key f.key g ≡ has_key g.key f
has_key-comm f g =
    elim (cases_Bool (bytes_eq g.key f.key)) [
      | inl same ↦ same ∙ sym ((bytes_eq-Decides f.key g.key).1 (sym ((bytes_eq-Decides g.key f.key).0 same)))
      | inr apart ↦
          elim (cases_Bool (bytes_eq f.key g.key)) [
            | inl back ↦ (bytes_eq-Decides g.key f.key).1 (sym ((bytes_eq-Decides f.key g.key).0 back)) ∙ sym back
            | inr other ↦ apart ∙ sym other
          ]
    ]

or-shuffle : (a b c d : Bool) → ((a || b) || (c || d)) ≡ ((a || c) || (b || d))
or-shuffle true b c d = refl
or-shuffle false true true d = refl
or-shuffle false true false d = refl
or-shuffle false false c d = refl

or-false : (a : Bool) → (a || false) ≡ a
or-false true = refl
or-false false = refl

pub repeats_key-push : (fields : List Field) (f : Field) → repeats_key (fields ++ f ∷ []) ≡ (repeats_key fields || list_any (has_key f.key) fields)
repeats_key-push [] f = refl
repeats_key-push (g ∷ fields) f =
    rw (list_any-append (has_key g.key) fields (f ∷ []), repeats_key-push fields f, or-false (has_key g.key f), has_key-comm g f)
    (or-shuffle (list_any (has_key g.key) fields) (has_key f.key g) (repeats_key fields) (list_any (has_key f.key) fields))

or-true : (b : Bool) → (b || true) ≡ true
or-true true = refl
or-true false = refl

more_or : (a b c d : Bool) → (b ≡ true → d ≡ true) → (a || b) ≡ true → ((a || c) || d) ≡ true
more_or true b c d h e = refl
more_or false b c d h e = rw (h e) (or-true c)

pub repeats_key-more : (fields more : List Field) → repeats_key fields ≡ true → repeats_key (fields ++ more) ≡ true
repeats_key-more [] more h = cc
repeats_key-more (g ∷ fields) more h =
    rw (list_any-append (has_key g.key) fields more)
    (more_or (list_any (has_key g.key) fields) (repeats_key fields) (list_any (has_key g.key) more) (repeats_key (fields ++ more)) (λ e. repeats_key-more fields more e) h)

-- at a place of the fields
module _ (fields : List Field) (i : ℕ) (f : Field) (at : slice_get fields i ≡ Some f) where
  pub has_key_at : (key : List ℕ) → list_any (has_key key) (take (i + 1) fields) ≡ (list_any (has_key key) (take i fields) || has_key key f)
  has_key_at key = ap (list_any (has_key key)) (take_at fields i f at) ∙ list_any-append (has_key key) (take i fields) (f ∷ []) ∙ ap (λ b. list_any (has_key key) (take i fields) || b) (or-false (has_key key f))

  pub repeats_at : repeats_key (take (i + 1) fields) ≡ (repeats_key (take i fields) || list_any (has_key f.key) (take i fields))
  repeats_at = ap repeats_key (take_at fields i f at) ∙ repeats_key-push (take i fields) f

  -- a key that comes among the first fields comes twice
  pub repeats_found : list_any (has_key f.key) (take i fields) ≡ true → repeats_key fields ≡ true
  repeats_found found =
      ap repeats_key (sym (take-append-drop (i + 1) fields))
      ∙ repeats_key-more (take (i + 1) fields) (drop (i + 1) fields) (repeats_at ∙ rw found (or-true (repeats_key (take i fields))))

-- a front with the key has it within the fields
pub has_key_front : (key : List ℕ) (fields : List Field) (i : ℕ) (f : Field) (count : ℕ) → slice_get fields i ≡ Some f → i < count → has_key key f ≡ true
    → list_any (has_key key) (take count fields) ≡ true
has_key_front key fields i f count at below is =
    list_any_at (has_key key) (take count fields) i f (omega (arith, slice_get_within fields i f at, length-take count fields))
    (rw (get_or-take, get_or_from_slice_get fields i f f at) is)

-- keys so far
same_key : (key : List ℕ) (g : Field) → g.key ≡ key → has_key key g ≡ true
same_key key g e = (bytes_eq-Decides g.key key).1 e

contains_next : {A : Type 0} (y : A) (xs : List A) (x : A) → Contains xs x → Contains (y ∷ xs) x
contains_next y xs x h = (suc h.0, omega (arith, h.1), h.2)

among : (front : List Field) (f : Field) → Contains (map (λ g. g.key) front) f.key → list_any (has_key f.key) front ≡ true
among front f h =
    list_any_at (has_key f.key) front h.0 f (rw length-map at h.1)
    (same_key f.key (get_or front h.0 f) (sym (get_or-map (λ g. g.key) front h.0 f) ∙ h.2))

not_among : (front : List Field) (f : Field) → ¬ Contains (map (λ g. g.key) front) f.key → list_any (has_key f.key) front ≡ false
not_among [] f none = refl
not_among (g ∷ front) f none =
    elim (cases_Bool (has_key f.key g)) [
      | inl here ↦ absurd (none (0, omega arith, (bytes_eq-Decides g.key f.key).0 here))
      | inr other ↦ rw other (not_among front f (λ h. none (contains_next g.key (map (λ k. k.key) front) f.key h)))
    ]

module _ (fields : List Field) (i : ℕ) (f : Field) (at : slice_get fields i ≡ Some f) (old new : List (List ℕ)) (are : old ≡ map (λ g. g.key) (take i fields))
    (adds : Adds old f.key new) where
  front_length : length old ≡ i
  front_length = ap length are ∙ rw (length-map, length-take) (min_within (slice_get_within fields i f at))
    where
      min_within : i < length fields → min i (length fields) ≡ i
      min_within lt = omega arith

  pub keys_found : length new ≡ i → repeats_key fields ≡ true
  keys_found short = elim adds [
    | inl h ↦ repeats_found fields i f at (among (take i fields) f (subst (λ ks. Contains ks f.key) are h.0))
    | inr h ↦ absurd (omega (arith, short, front_length, ap length h.1, length-append old (f.key ∷ [])))
  ]

  pub keys_none : length new ≢ i → repeats_key (take i fields) ≡ false → (new ≡ map (λ g. g.key) (take (i + 1) fields)) × (repeats_key (take (i + 1) fields) ≡ false)
  keys_none long before = elim adds [
    | inl h ↦ absurd (long (ap length h.1 ∙ front_length))
    | inr h ↦ (
      h.1 ∙ ap (λ ks. ks ++ f.key ∷ []) are ∙ sym (ap (map (λ g. g.key)) (take_at fields i f at) ∙ map-append (λ g. g.key) (take i fields) (f ∷ [])),
      repeats_at fields i f at ∙ rw (before, not_among (take i fields) f (λ c. h.0 (subst (λ ks. Contains ks f.key) (sym are) c))) refl,
    )
  ]

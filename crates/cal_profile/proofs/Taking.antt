-- What keys took of entries has, of those that pass a test, all or none.
use Rattle.std.proofs.Common.{◌≡◌, ℕ, Bool, true, false, not, List, [], ◌∷◌, ◌++◌, filter}
use Rattle.std.proofs.Common.{inl, inr, refl, sym, ap, ◌∙◌, true≢false, append-nil}
use Rattle.std.specs.Prelude.{◌⊎◌}
use Rattle.std.specs.List.{AllByRecursion}
use Rattle.std.proofs.lemmas.List.Elements.{filter-append}
use Rattle.cal_keys.specs.Groups.{has_entries, taken, takes}
use Rattle.cal_profile.proofs.Lists.{all-filter, filter-swap}
use Rattle.cal_value.specs.Flat.{joined}
use Rattle.cal_value.specs.declared.attribute.Entry.{Entry}

-- paths without entries add nothing
pub joined-has_entries : (paths : List (List Entry))
    → joined (filter has_entries paths) ≡ joined paths
joined-has_entries [] = refl
joined-has_entries ([] ∷ paths) = joined-has_entries paths
joined-has_entries ((e ∷ es) ∷ paths) = ap (λ xs. (e ∷ es) ++ xs) (joined-has_entries paths)

-- D says of what kind the entries are
module _ (D : Entry → Type 0) where
  abbrev pub Implies : (Entry → Bool) → (Entry → Bool) → Type 0
  Implies p t = (e : Entry) → D e → p e ≡ true → t e ≡ true

  abbrev pub Excludes : (Entry → Bool) → (Entry → Bool) → Type 0
  Excludes p t = (e : Entry) → D e → p e ≡ true → t e ≡ false

  pub filter_nothing : (p : Entry → Bool) → ((e : Entry) → D e → p e ≡ false) → (es : List Entry)
      → AllByRecursion D es → filter p es ≡ []
  filter_nothing p fails [] all = refl
  filter_nothing p fails (e ∷ es) all =
      let one = fails e all.0 in rw one (filter_nothing p fails es all.1)

  pub filter_implied : (p t : Entry → Bool) → Implies p t → (es : List Entry)
      → AllByRecursion D es → filter p (filter t es) ≡ filter p es
  filter_implied p t so [] all = refl
  filter_implied p t so (e ∷ es) all = by (p e) (t e) refl refl (filter_implied p t so es all.1)
    where
      by : (a b : Bool) → p e ≡ a → t e ≡ b → filter p (filter t es) ≡ filter p es
          → filter p (filter t (e ∷ es)) ≡ filter p (e ∷ es)
      by true true ea eb rest = rw (eb, ea) (ap (λ xs. e ∷ xs) rest)
      by true false ea eb rest = absurd (true≢false (sym (so e all.0 ea) ∙ eb))
      by false true ea eb rest = rw (eb, ea) rest
      by false false ea eb rest = rw (eb, ea) rest

  pub filter_excluded : (p t : Entry → Bool) → Excludes p t → (es : List Entry)
      → AllByRecursion D es → filter p (filter t es) ≡ []
  filter_excluded p t so [] all = refl
  filter_excluded p t so (e ∷ es) all = by (p e) (t e) refl refl (filter_excluded p t so es all.1)
    where
      by : (a b : Bool) → p e ≡ a → t e ≡ b → filter p (filter t es) ≡ []
          → filter p (filter t (e ∷ es)) ≡ []
      by true true ea eb rest = absurd (true≢false (sym eb ∙ so e all.0 ea))
      by false true ea eb rest = rw (eb, ea) rest
      by a false ea eb rest = rw eb rest

  module _ (in_path : Bool) (p : Entry → Bool) where
    -- what a name leaves to those behind it
    abbrev left : List ℕ → List Entry → List Entry
    left key es = filter (λ e. not (takes in_path key e)) es

    step : (key : List ℕ) (keys : List (List ℕ)) (es : List Entry)
        → filter p (joined (taken in_path (key ∷ keys) es))
        ≡ filter p (filter (takes in_path key) es)
        ++ filter p (joined (taken in_path keys (left key es)))
    step key keys es = filter-append p (filter (takes in_path key) es)
        (joined (taken in_path keys (left key es)))

    -- entries that aren't there aren't taken
    pub taken_empty : (keys : List (List ℕ)) (es : List Entry) → filter p es ≡ []
        → filter p (joined (taken in_path keys es)) ≡ []
    taken_empty [] es none = refl
    taken_empty (key ∷ keys) es none =
        step key keys es ∙ (λ i. first i ++ taken_empty keys (left key es) rest i)
      where
        first : filter p (filter (takes in_path key) es) ≡ []
        first = filter-swap p (takes in_path key) es ∙ ap (filter (takes in_path key)) none

        rest : filter p (left key es) ≡ []
        rest = filter-swap p (λ e. not (takes in_path key e)) es
            ∙ ap (filter (λ e. not (takes in_path key e))) none

    -- no key takes what passes the test
    pub taken_none : (keys : List (List ℕ))
        → AllByRecursion (λ key. Excludes p (takes in_path key)) keys
        → (es : List Entry) → AllByRecursion D es → filter p (joined (taken in_path keys es)) ≡ []
    taken_none [] h es all = refl
    taken_none (key ∷ keys) h es all =
        step key keys es
        ∙ (λ i. filter_excluded p (takes in_path key) h.0 es all i
        ++ taken_none keys h.1 (left key es)
        (all-filter D (λ e. not (takes in_path key e)) es all) i)

    -- One key takes all that passes the test, and those before it none.
    abbrev pub IsWhole : List (List ℕ) → Type 0
    IsWhole [] = ⊥
    IsWhole (key ∷ keys) =
        Implies p (takes in_path key) ⊎ (Excludes p (takes in_path key) × IsWhole keys)

    pub taken_whole : (keys : List (List ℕ)) → IsWhole keys → (es : List Entry)
        → AllByRecursion D es → filter p (joined (taken in_path keys es)) ≡ filter p es
    taken_whole [] h es all = absurd h
    taken_whole (key ∷ keys) (inl so) es all =
        step key keys es
        ∙ (λ i. filter_implied p (takes in_path key) so es all i
        ++ taken_empty keys (left key es)
        (filter_excluded p (λ e. not (takes in_path key e)) (λ e d is. ap not (so e d is)) es
        all) i)
        ∙ append-nil (filter p es)
    taken_whole (key ∷ keys) (inr h) es all =
        step key keys es
        ∙ (λ i. filter_excluded p (takes in_path key) h.0 es all i
        ++ taken_whole keys h.1 (left key es)
        (all-filter D (λ e. not (takes in_path key e)) es all) i)
        ∙ filter_implied p (λ e. not (takes in_path key e)) (λ e d is. ap not (h.0 e d is)) es all

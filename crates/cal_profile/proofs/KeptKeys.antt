-- Keys take all entries of a name that they keep.
use Rattle.std.proofs.Common.{◌≡◌, ℕ, Bool, true, false, not, ◌&&◌, ◌||◌, List, [], ◌∷◌}
use Rattle.std.proofs.Common.{inl, inr}
use Rattle.std.proofs.Common.{refl, sym, ap, ◌∙◌, true≢false, Option, None, Some}
use Rattle.std.specs.Prelude.{◌⊎◌, if◌then◌else◌, codes, is_some}
use Rattle.std.specs.Cmp.Lexicographic.{bytes_decides}
use Rattle.std.specs.List.{AllByRecursion, list_any}
use Rattle.std.specs.Option.{option_map_or}
use Rattle.std.proofs.lemmas.Bool.{and_parts, or_cases, or_left, or_right}
use Rattle.cal_keys.specs.Groups.{takes}
use Rattle.cal_profile.specs.Coarser.{is_kept, is_of, keeps_path}
use Rattle.cal_profile.specs.Declared.{AreKeys, IsDeclared, IsImmediate, IsInPath, props_of}
use Rattle.cal_profile.proofs.Taking.{Excludes, Implies, IsWhole}
use Rattle.cal_rowset.specs.Cells.{is_path}
use Rattle.cal_rowset.specs.Hierarchy.{is_of_hierarchy}
use Rattle.cal_rowset.specs.Texts.{is_same}
use Rattle.cal_value.specs.Props.{is_nested, is_reference}
use Rattle.cal_value.specs.declared.attribute.Attribute.{Attribute}
use Rattle.cal_value.specs.declared.attribute.Entry.{Entry}
use Rattle.cal_value.specs.declared.props.Props.{Props}

-- ---- texts and tests

pub same_text : (x y : List ℕ) → is_same x y ≡ true → x ≡ y
same_text x y h = (bytes_decides x y).0 h

pub text_same : (x y : List ℕ) → x ≡ y → is_same x y ≡ true
text_same x y h = (bytes_decides x y).1 h

-- two texts that aren't the same, the other way round
pub apart_turned : (x y : List ℕ) → is_same x y ≡ false → is_same y x ≡ false
apart_turned x y h = by (is_same y x) refl
  where
    by : (b : Bool) → is_same y x ≡ b → is_same y x ≡ false
    by true e = absurd (true≢false (sym (text_same x y (sym (same_text y x e))) ∙ h))
    by false e = e

pub some_of : {A : Type 0} (o : Option A) → is_some o ≡ true → (x : A) × (o ≡ Some x)
some_of (Some x) h = (x, refl)
some_of None h = absurd cc

-- what a name takes, by whether it is `path`
pub takes_plain : (in_path : Bool) (name : List ℕ) (e : Entry) → is_path name ≡ false
    → takes in_path name e ≡ is_same e.attr.name name
takes_plain in_path name e plain =
    ap (λ p. if p then (in_path && is_of_hierarchy e.attr) else is_same e.attr.name name) plain

pub takes_path : (in_path : Bool) (name : List ℕ) (e : Entry) → is_path name ≡ true
    → takes in_path name e ≡ (in_path && is_of_hierarchy e.attr)
takes_path in_path name e path =
    ap (λ p. if p then (in_path && is_of_hierarchy e.attr) else is_same e.attr.name name) path

pub taken_name : (in_path : Bool) (name : List ℕ) (e : Entry) → is_path name ≡ false
    → takes in_path name e ≡ true → e.attr.name ≡ name
taken_name in_path name e plain t =
    same_text e.attr.name name (sym (takes_plain in_path name e plain) ∙ t)

-- ---- whether keys keep a name, by its properties

abbrev pub kept_by : Option (List (List ℕ)) → List ℕ → Props → Bool
kept_by None name props = is_reference props
kept_by (Some keys) name props =
    list_any (is_same name) keys || (list_any is_path keys && is_nested props)

module _ (attributes : List Attribute) where
  pub is_kept_by : (keys : Option (List (List ℕ))) (name : List ℕ) (props : Props)
      → props_of attributes name ≡ Some props
      → is_kept attributes keys name ≡ kept_by keys name props
  is_kept_by None name props is = ap (λ o. option_map_or is_reference o false) is
  is_kept_by (Some keys) name props is = ap
      (λ o. list_any (is_same name) keys
      || (list_any is_path keys && option_map_or is_nested o false)) is

  of_declared : (test : Props → Bool) (name : List ℕ) → is_of attributes test name ≡ true
      → IsDeclared attributes name
  of_declared test name h = by (props_of attributes name) h
    where
      by : (o : Option Props) → option_map_or test o false ≡ true → is_some o ≡ true
      by None h = absurd (true≢false (sym h))
      by (Some props) h = refl

  among_declared : (name : List ℕ) (keys : List (List ℕ))
      → AllByRecursion (IsDeclared attributes) keys → list_any (is_same name) keys ≡ true
      → IsDeclared attributes name
  among_declared name [] all h = absurd (true≢false (sym h))
  among_declared name (key ∷ keys) all h =
      elim (or_cases (is_same name key) (list_any (is_same name) keys) h) [
        | inl here ↦ ap (λ n. is_some (props_of attributes n)) (same_text name key here) ∙ all.0
        | inr there ↦ among_declared name keys all.1 there
      ]

  key_declared : (name : List ℕ) → is_path name ≡ false → (keys : List (List ℕ))
      → AreKeys attributes (Some keys) → list_any (is_same name) keys ≡ true
      → IsDeclared attributes name
  key_declared name plain [] all h = absurd (true≢false (sym h))
  key_declared name plain (key ∷ keys) all h =
      elim (or_cases (is_same name key) (list_any (is_same name) keys) h) [
        | inl here ↦ by all.0 (same_text name key here)
        | inr there ↦ among_declared name keys all.1 there
      ]
    where
      by : (key ≡ codes "path") ⊎ IsDeclared attributes key → name ≡ key
          → IsDeclared attributes name
      by (inl path) is = absurd (true≢false
          (sym (text_same name (codes "path") (is ∙ path)) ∙ plain))
      by (inr declared) is = ap (λ n. is_some (props_of attributes n)) is ∙ declared

  -- a name that is kept is declared, but for `path`
  pub kept_declared : (keys : Option (List (List ℕ))) → AreKeys attributes keys → (name : List ℕ)
      → is_path name ≡ false → is_kept attributes keys name ≡ true → IsDeclared attributes name
  kept_declared None all name plain h = of_declared is_reference name h
  kept_declared (Some keys) all name plain h =
      elim (or_cases (list_any (is_same name) keys)
      (list_any is_path keys && is_of attributes is_nested name) h) [
        | inl key ↦ key_declared name plain keys all key
        | inr nested ↦ of_declared is_nested name
            (and_parts (list_any is_path keys) (is_of attributes is_nested name) nested).1
      ]

  -- ---- the key that takes them

  abbrev InPath : Entry → Type 0
  InPath = IsInPath attributes

  abbrev Immediate : Entry → Type 0
  Immediate = IsImmediate attributes

  -- the entries of a name have its properties
  own_props : (name : List ℕ) (props : Props) → props_of attributes name ≡ Some props
      → (e : Entry) → props_of attributes e.attr.name ≡ Some e.attr.props → e.attr.name ≡ name
      → e.attr.props ≡ props
  own_props name props is e declared named =
      let one : Some e.attr.props ≡ Some props =
      sym declared ∙ ap (props_of attributes) named ∙ is in
      cc

  -- an entry in a path is nested where it is of the hierarchy
  pub nested_in_path : (e : Entry) → InPath e → is_of_hierarchy e.attr ≡ is_nested e.attr.props
  nested_in_path e d = sym (by (is_of_hierarchy e.attr) (is_reference e.attr.props) d.reference)
    where
      by : (a b : Bool) → b ≡ true → (a && b) ≡ a
      by true b e = e
      by false b e = refl

  -- In paths: nested names are taken whole by `path`, and others by the key of their name.
  pub whole_in_paths : (name : List ℕ) (props : Props) → props_of attributes name ≡ Some props
      → is_path name ≡ false → (keys : List (List ℕ)) → kept_by (Some keys) name props ≡ true
      → IsWhole InPath true (takes true name) keys
  whole_in_paths name props is plain [] h = absurd (true≢false (sym h))
  whole_in_paths name props is plain (key ∷ keys) h = by (is_path key) (is_nested props)
      (is_same name key) refl refl refl (whole_in_paths name props is plain keys)
    where
      names : (e : Entry) → takes true name e ≡ true → e.attr.name ≡ name
      names e t = taken_name true name e plain t

      nested : (e : Entry) → InPath e → takes true name e ≡ true
          → is_of_hierarchy e.attr ≡ is_nested props
      nested e d t =
          nested_in_path e d ∙ ap is_nested (own_props name props is e d.declared (names e t))

      -- what the first key doesn't keep the others do
      tail : (s a p b n : Bool) → ((s || a) || ((p || b) && n)) ≡ true → s ≡ false
          → (p && n) ≡ false → (a || (b && n)) ≡ true
      tail true a p b n h es e = absurd (true≢false es)
      tail false true p b n h es e = refl
      tail false false true b n h es e = absurd (true≢false (sym h ∙ e))
      tail false false false b n h es e = h

      behind : is_same name key ≡ false → (is_path key && is_nested props) ≡ false
          → kept_by (Some keys) name props ≡ true
      behind apart none = tail (is_same name key) (list_any (is_same name) keys) (is_path key)
          (list_any is_path keys) (is_nested props) h apart none

      by : (p n s : Bool) → is_path key ≡ p → is_nested props ≡ n → is_same name key ≡ s
          → (kept_by (Some keys) name props ≡ true → IsWhole InPath true (takes true name) keys)
          → IsWhole InPath true (takes true name) (key ∷ keys)
      by true true s ep en es rest = inl (λ e d t. takes_path true key e ep ∙ nested e d t ∙ en)
      by true false true ep en es rest = absurd (true≢false
          (sym ep ∙ ap is_path (sym (same_text name key es)) ∙ plain))
      by true false false ep en es rest = inr (
        λ e d t. takes_path true key e ep ∙ nested e d t ∙ en,
        rest (behind es ((λ i. ep i && en i))),
      )
      by false n true ep en es rest = inl (λ e d t.
          takes_plain true key e ep
          ∙ text_same e.attr.name key (names e t ∙ same_text name key es))
      by false n false ep en es rest = inr (
        λ e d t. takes_plain true key e ep ∙ ap (λ x. is_same x key) (names e t) ∙ es,
        rest (behind es (ap (λ p. p && is_nested props) ep)),
      )

  -- Among immediates the key of the name takes them.
  pub whole_in_imms : (name : List ℕ) → is_path name ≡ false → (keys : List (List ℕ))
      → list_any (is_same name) keys ≡ true → IsWhole Immediate false (takes false name) keys
  whole_in_imms name plain [] h = absurd (true≢false (sym h))
  whole_in_imms name plain (key ∷ keys) h =
      by (is_path key) (is_same name key) refl refl (whole_in_imms name plain keys)
    where
      names : (e : Entry) → takes false name e ≡ true → e.attr.name ≡ name
      names e t = taken_name false name e plain t

      behind : is_same name key ≡ false → list_any (is_same name) keys ≡ true
      behind apart = sym (ap (λ b. b || list_any (is_same name) keys) apart) ∙ h

      by : (p s : Bool) → is_path key ≡ p → is_same name key ≡ s
          → (list_any (is_same name) keys ≡ true → IsWhole Immediate false (takes false name) keys)
          → IsWhole Immediate false (takes false name) (key ∷ keys)
      by true true ep es rest = absurd (true≢false
          (sym ep ∙ ap is_path (sym (same_text name key es)) ∙ plain))
      by true false ep es rest = inr (λ e d t. takes_path false key e ep, rest (behind es))
      by false true ep es rest = inl (λ e d t.
          takes_plain false key e ep
          ∙ text_same e.attr.name key (names e t ∙ same_text name key es))
      by false false ep es rest = inr (
        λ e d t. takes_plain false key e ep ∙ ap (λ x. is_same x key) (names e t) ∙ es,
        rest (behind es),
      )

  -- no immediate has the name of a reference attribute
  pub no_immediate : (name : List ℕ) (props : Props) → props_of attributes name ≡ Some props
      → is_reference props ≡ true → is_path name ≡ false → (e : Entry) → Immediate e
      → takes false name e ≡ false
  no_immediate name props is reference plain e d = by (takes false name e) refl
    where
      by : (b : Bool) → takes false name e ≡ b → takes false name e ≡ false
      by false t = t
      by true t =
          let same : e.attr.props ≡ props =
          own_props name props is e d.declared (taken_name false name e plain t) in
          absurd (true≢false
          (sym reference ∙ ap is_reference (sym same) ∙ ap not d.value))

  -- a name that is declared isn't `path`
  pub declared_plain : props_of attributes (codes "path") ≡ None → (name : List ℕ)
      → IsDeclared attributes name → is_path name ≡ false
  declared_plain none name declared = by (is_path name) refl
    where
      by : (b : Bool) → is_path name ≡ b → is_path name ≡ false
      by false e = e
      by true e = absurd (true≢false
          (sym declared ∙ ap (λ n. is_some (props_of attributes n))
          (same_text name (codes "path") e) ∙ ap is_some none))

  -- `path` as a name of GROUP BY takes what the first key does, if that is `path`
  pub path_whole : (name : List ℕ) → is_path name ≡ true → (keys : List (List ℕ))
      → AreKeys attributes (Some keys) → props_of attributes (codes "path") ≡ None
      → list_any is_path keys ≡ true → IsWhole InPath true (takes true name) keys
  path_whole name path [] all none h = absurd (true≢false (sym h))
  path_whole name path (key ∷ keys) all none h = inl (λ e d t.
      takes_path true key e (only (is_path key) (list_any is_path keys) h (others keys all.1))
      ∙ sym (takes_path true name e path) ∙ t)
    where
      only : (a b : Bool) → (a || b) ≡ true → b ≡ false → a ≡ true
      only true b h e = refl
      only false b h e = absurd (true≢false (sym h ∙ e))

      others : (keys : List (List ℕ)) → AllByRecursion (IsDeclared attributes) keys
          → list_any is_path keys ≡ false
      others [] all = refl
      others (key ∷ keys) all =
          λ i. declared_plain none key all.0 i || others keys all.1 i

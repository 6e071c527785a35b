-- The names of the attributes of a run are apart.
use Rattle.std.proofs.Common.{◌≡◌, ℕ, Bool, true, false, not, ◌&&◌, ◌||◌, List, [], ◌∷◌, ◌++◌}
use Rattle.std.proofs.Common.{map, refl, sym, ap, subst, ◌∙◌, true≢false, append_assoc}
use Rattle.std.proofs.Common.{Option, None, Some, Contains, inl, inr}
use Rattle.std.specs.Prelude.{◌⊎◌, Ok, codes, decimal, flat_map, is_some, nat_eq, option_map}
use Rattle.std.specs.Prelude.{if◌then◌else◌}
use Rattle.std.specs.Cmp.Lexicographic.{bytes_decides, pointwise}
use Rattle.std.specs.List.{AllByRecursion, IsDistinct, find, list_all, list_any, starts_with}
use Rattle.std.specs.Str.{bytes_eq}
use Rattle.std.proofs.lemmas.Bool.{and_parts, not-true, or_parts}
use Rattle.std.proofs.lemmas.List.{map-append}
use Rattle.std.proofs.lemmas.List.Folds.{list_all-append, list_any-append}
use Rattle.cal_profile.specs.Declared.{IsDeclared, props_of}
use Rattle.cal_profile.proofs.KeptKeys.{apart_turned, same_text}
use Rattle.cal_profile.proofs.Lists.{Contains-cases, Contains-nil}
use Rattle.cal_rowset.specs.Texts.{is_same}
use Rattle.cal_script.specs.Names.{is_attribute_name, is_name, is_name_byte, is_reserved}
use Rattle.cal_script.specs.Names.{reserved_names}
use Rattle.cal_script.specs.Parts.{attribute_names, is_among, new_name}
use Rattle.cal_script.specs.declared.kind.ScriptKind.{ScriptKind}
use Rattle.cal_script.specs.declared.kind.ScriptKind.TheVariants.{BadName, DuplicateName}
use Rattle.cal_spelling.proofs.Chains.{Chain}
use Rattle.cal_spelling.proofs.Legible.{IsNewAttribute}
use Rattle.cal_run.specs.RunAttributes.{added_attributes, events_of}
use Rattle.cal_valid.proofs.Binds.{bind_ok, unless_ok}
use Rattle.cal_value.specs.Kinds.{kind_name}
use Rattle.cal_value.specs.declared.attribute.Attribute.{Attribute}

-- ---- what a list of attributes declares

abbrev pub is_there : List Attribute → List ℕ → Bool
is_there attributes name = list_any (λ a. is_same a.name name) attributes

pub there_declared : (attributes : List Attribute) (name : List ℕ)
    → is_there attributes name ≡ true → IsDeclared attributes name
there_declared [] name h = absurd (true≢false (sym h))
there_declared (a ∷ attributes) name h =
    by (is_same a.name name) refl (there_declared attributes name)
  where
    by : (b : Bool) → is_same a.name name ≡ b
        → (is_there attributes name ≡ true → IsDeclared attributes name)
        → IsDeclared (a ∷ attributes) name
    by true e more = rw e refl
    by false e more =
        let rest = more (sym (ap (λ b. b || is_there attributes name) e) ∙ h) in
        rw e rest

pub absent_undeclared : (attributes : List Attribute) (name : List ℕ)
    → is_there attributes name ≡ false → props_of attributes name ≡ None
absent_undeclared [] name h = refl
absent_undeclared (a ∷ attributes) name h =
    let parts = or_parts (is_same a.name name) (is_there attributes name) h in
    let first = parts.0 in rw first (absent_undeclared attributes name parts.1)

abbrev pub AreApart : List Attribute → Type 0
AreApart attributes = IsDistinct is_same (attribute_names attributes)

apart_from : (name : List ℕ) (attributes : List Attribute)
    → AllByRecursion (λ other. is_same name other ≡ false) (attribute_names attributes)
    → (a : Attribute) → Contains attributes a → is_same name a.name ≡ false
apart_from name [] all a there = absurd (Contains-nil a there)
apart_from name (b ∷ attributes) all a there =
    at (Contains-cases a b attributes there) (apart_from name attributes all.1 a)
  where
    at : (b ≡ a) ⊎ Contains attributes a
        → (Contains attributes a → is_same name a.name ≡ false) → is_same name a.name ≡ false
    at (inl is) more = ap (λ (x : Attribute). is_same name x.name) (sym is) ∙ all.0
    at (inr behind) more = more behind

-- where names are apart each attribute is the one of its name
pub found_itself : (attributes : List Attribute) → AreApart attributes → (a : Attribute)
    → Contains attributes a → find (λ other. is_same other.name a.name) attributes ≡ Some a
unfolding IsDistinct
found_itself [] once a there = absurd (Contains-nil a there)
found_itself (first ∷ attributes) once a there =
    by (Contains-cases a first attributes there) (found_itself attributes once.1 a)
  where
    own : is_same a.name a.name ≡ true
    own = (bytes_decides a.name a.name).1 refl

    by : (first ≡ a) ⊎ Contains attributes a
        → (Contains attributes a
        → find (λ other. is_same other.name a.name) attributes ≡ Some a)
        → find (λ other. is_same other.name a.name) (first ∷ attributes) ≡ Some a
    by (inl is) more =
        let same = ap (λ (x : Attribute). is_same x.name a.name) is ∙ own in
        rw same (ap Some is)
    by (inr behind) more =
        let apart = apart_from first.name attributes once.0 a behind in
        rw apart (more behind)

-- ---- lists of names that are apart

abbrev AreFrom : List ℕ → List (List ℕ) → Type 0
AreFrom name names = AllByRecursion (λ other. is_same name other ≡ false) names

from-append : (name : List ℕ) (xs ys : List (List ℕ)) → AreFrom name xs → AreFrom name ys
    → AreFrom name (xs ++ ys)
from-append name [] ys one other = other
from-append name (x ∷ xs) ys one other = (one.0, from-append name xs ys one.1 other)

distinct-append : (xs ys : List (List ℕ)) → IsDistinct is_same xs → IsDistinct is_same ys
    → AllByRecursion (λ x. AreFrom x ys) xs → IsDistinct is_same (xs ++ ys)
unfolding IsDistinct
distinct-append [] ys one other apart = other
distinct-append (x ∷ xs) ys one other apart =
    (from-append x xs ys one.0 apart.0, distinct-append xs ys one.1 other apart.1)

-- ---- the names of a script

-- a name that may be declared, and that none has that stands before
record IsFresh (done : List Attribute) (a : Attribute) : Type 0 where
  allowed : is_attribute_name a.name ≡ true
  fresh : is_among (attribute_names done) a.name ≡ false

new_fresh : (done : List Attribute) (a : Attribute) → IsNewAttribute done a → IsFresh done a
new_fresh done a is =
    let named = bind_ok
    (new_name (is_attribute_name a.name) (attribute_names done) a.name) _ a is.said in
    let first = unless_ok (not (is_attribute_name a.name)) BadName _ named.0 named.1 in
    let second =
    unless_ok (is_among (attribute_names done) a.name) DuplicateName (Ok a.name) named.0
    first.1 in
    record { allowed = turned (is_attribute_name a.name) first.0; fresh = second.0 }
  where
    turned : (b : Bool) → not b ≡ false → b ≡ true
    turned true e = refl
    turned false e = absurd (true≢false e)

pub names_allowed : (done attributes : List Attribute) → Chain IsNewAttribute done attributes
    → AllByRecursion (λ (a : Attribute). is_attribute_name a.name ≡ true) attributes
names_allowed done [] chain = tt
names_allowed done (a ∷ attributes) chain = (
  (new_fresh done a chain.0).allowed,
  names_allowed (done ++ a ∷ []) attributes chain.1,
)

-- each name is new to those before it
abbrev pub IsNewName : List (List ℕ) → List ℕ → Type 0
IsNewName done name = is_among done name ≡ false

later_apart : (done mid : List (List ℕ)) (name : List ℕ) (names : List (List ℕ))
    → Chain IsNewName (done ++ name ∷ mid) names → AreFrom name names
later_apart done mid name [] chain = tt
later_apart done mid name (other ∷ names) chain = (
  apart_turned other name (or_parts (is_same other name) (is_among mid other)
      (or_parts (is_among done other) (is_among (name ∷ mid) other)
      (sym (list_any-append (bytes_eq other) done (name ∷ mid)) ∙ chain.0)).1).0,
  later_apart done (mid ++ other ∷ []) name names
      (subst (λ (d : List (List ℕ)). Chain IsNewName d names)
      (append_assoc done (name ∷ mid) (other ∷ [])) chain.1),
)

-- so names are apart
pub names_apart : (done names : List (List ℕ)) → Chain IsNewName done names
    → IsDistinct is_same names
unfolding IsDistinct
names_apart done [] chain = tt
names_apart done (name ∷ names) chain =
    (later_apart done [] name names chain.1, names_apart (done ++ name ∷ []) names chain.1)

names_chain : (done attributes : List Attribute) → Chain IsNewAttribute done attributes
    → Chain IsNewName (attribute_names done) (attribute_names attributes)
names_chain done [] chain = tt
names_chain done (a ∷ attributes) chain = (
  (new_fresh done a chain.0).fresh,
  subst (λ (d : List (List ℕ)). Chain IsNewName d (attribute_names attributes))
      (map-append (λ (x : Attribute). x.name) done (a ∷ []))
      (names_chain (done ++ a ∷ []) attributes chain.1),
)

-- ---- what such a name isn't

-- it has no `#`
pub no_hash : (name front rest : List ℕ) → is_attribute_name name ≡ true
    → is_same name (front ++ 35 ∷ rest) ≡ false
no_hash name front rest allowed = by (is_same name (front ++ 35 ∷ rest)) refl
  where
    bytes : list_all is_name_byte name ≡ true
    bytes = (and_parts _ (list_all is_name_byte name)
        (and_parts (is_name name) (not (is_reserved name)) allowed).0).1

    by : (b : Bool) → is_same name (front ++ 35 ∷ rest) ≡ b
        → is_same name (front ++ 35 ∷ rest) ≡ false
    by false e = e
    by true e = absurd (true≢false (sym (and_parts (list_all is_name_byte front) false
        (sym (list_all-append is_name_byte front (35 ∷ rest))
        ∙ ap (list_all is_name_byte) (sym (same_text name (front ++ 35 ∷ rest) e)) ∙ bytes)).1))

-- it isn't reserved
pub not_reserved : (name : List ℕ) → is_attribute_name name ≡ true
    → list_any (is_same name) reserved_names ≡ false
not_reserved name allowed =
    (or_parts (list_any (is_same name) reserved_names) _
    (not-true (is_reserved name)
    (and_parts (is_name name) (not (is_reserved name)) allowed).1)).0

-- a name is none of the reserved ones
pub record AreOther (name : List ℕ) : Type 0 where
  pub path : is_same name (codes "path") ≡ false
  pub count : is_same name (codes "count") ≡ false
  pub duration : is_same name (codes "time.duration.ns") ≡ false
  pub inclusive : is_same name (codes "time.inclusive.duration.ns") ≡ false
  pub depth : is_same name (codes "region.depth") ≡ false
  pub regions : is_same name (codes "region.count") ≡ false

pub others : (name : List ℕ) → is_attribute_name name ≡ true → AreOther name
others name allowed =
    let path = or_parts (is_same name (codes "path")) _ (not_reserved name allowed) in
    let count = or_parts (is_same name (codes "count")) _ path.1 in
    let duration = or_parts (is_same name (codes "time.duration.ns")) _ count.1 in
    let inclusive = or_parts (is_same name (codes "time.inclusive.duration.ns")) _ duration.1 in
    let depth = or_parts (is_same name (codes "region.depth")) _ inclusive.1 in
    let regions = or_parts (is_same name (codes "region.count")) _ depth.1 in
    record {
      path = path.0;
      count = count.0;
      duration = duration.0;
      inclusive = inclusive.0;
      depth = depth.0;
      regions = regions.0;
    }

-- ---- the names that services add

-- a name of an event has a `#`
events_from : (name : List ℕ) → is_attribute_name name ≡ true → (attributes : List Attribute)
    → AreFrom name (attribute_names (flat_map events_of attributes))
events_from name allowed [] = tt
events_from name allowed (a ∷ attributes) = (
  no_hash name (codes "event.begin") a.name allowed,
  (
    no_hash name (codes "event.end") a.name allowed,
    (no_hash name (codes "event.set") a.name allowed, events_from name allowed attributes),
  ),
)

added_from : (attributes : List Attribute) (name : List ℕ) → is_attribute_name name ≡ true
    → AreFrom name (attribute_names (added_attributes attributes))
added_from attributes name allowed =
    let other = others name allowed in (
      other.duration,
      (
        other.inclusive,
        (
          other.depth,
          (
            other.regions,
            events_from name allowed attributes,
          ),
        ),
      ),
    )

-- the times and the probes aren't events
fixed_apart : (attributes : List Attribute)
    → AreFrom (codes "time.duration.ns") (attribute_names (flat_map events_of attributes))
    × AreFrom (codes "time.inclusive.duration.ns") (attribute_names (flat_map events_of attributes))
    × AreFrom (codes "region.depth") (attribute_names (flat_map events_of attributes))
    × AreFrom (codes "region.count") (attribute_names (flat_map events_of attributes))
fixed_apart [] = (tt, tt, tt, tt)
fixed_apart (a ∷ attributes) =
    let rest = fixed_apart attributes in (
      (refl, (refl, (refl, rest.0))),
      (refl, (refl, (refl, rest.1))),
      (refl, (refl, (refl, rest.2))),
      (refl, (refl, (refl, rest.3))),
    )

-- events of different attributes, or of different sorts
module _ (name : List ℕ) where
  abbrev IsOther : List Attribute → Type 0
  IsOther attributes = AreFrom name (attribute_names attributes)

  begin_apart : (attributes : List Attribute) → IsOther attributes
      → AreFrom (codes "event.begin#" ++ name) (attribute_names (flat_map events_of attributes))
  begin_apart [] all = tt
  begin_apart (a ∷ attributes) all = (all.0, (refl, (refl, begin_apart attributes all.1)))

  end_apart : (attributes : List Attribute) → IsOther attributes
      → AreFrom (codes "event.end#" ++ name) (attribute_names (flat_map events_of attributes))
  end_apart [] all = tt
  end_apart (a ∷ attributes) all = (refl, (all.0, (refl, end_apart attributes all.1)))

  set_apart : (attributes : List Attribute) → IsOther attributes
      → AreFrom (codes "event.set#" ++ name) (attribute_names (flat_map events_of attributes))
  set_apart [] all = tt
  set_apart (a ∷ attributes) all = (refl, (refl, (all.0, set_apart attributes all.1)))

events_apart : (attributes : List Attribute) → AreApart attributes
    → AreApart (flat_map events_of attributes)
unfolding IsDistinct
events_apart [] once = tt
events_apart (a ∷ attributes) once = (
  (refl, (refl, begin_apart a.name attributes once.0)),
  (
    (refl, end_apart a.name attributes once.0),
    (set_apart a.name attributes once.0, events_apart attributes once.1),
  ),
)

added_apart : (attributes : List Attribute) → AreApart attributes
    → AreApart (added_attributes attributes)
unfolding IsDistinct
added_apart attributes once =
    let fixed = fixed_apart attributes in (
      (refl, (refl, (refl, fixed.0))),
      ((refl, (refl, fixed.1)), ((refl, fixed.2), (fixed.3, events_apart attributes once))),
    )

each_from : (attributes rest : List Attribute)
    → AllByRecursion (λ (a : Attribute). is_attribute_name a.name ≡ true) rest
    → AllByRecursion (λ name. AreFrom name (attribute_names (added_attributes attributes)))
    (attribute_names rest)
each_from attributes [] all = tt
each_from attributes (a ∷ rest) all =
    (added_from attributes a.name all.0, each_from attributes rest all.1)

-- The names of a script are apart.
pub declared_apart : (attributes : List Attribute) → Chain IsNewAttribute [] attributes
    → AreApart attributes
declared_apart attributes chain =
    names_apart [] (attribute_names attributes) (names_chain [] attributes chain)

-- So all names are apart.
pub all_apart : (attributes : List Attribute) → Chain IsNewAttribute [] attributes
    → AreApart (attributes ++ added_attributes attributes)
all_apart attributes chain =
    let once = names_apart [] (attribute_names attributes) (names_chain [] attributes chain) in
    subst (IsDistinct is_same)
    (sym (map-append (λ (a : Attribute). a.name) attributes (added_attributes attributes)))
    (distinct-append (attribute_names attributes) (attribute_names (added_attributes attributes))
    once (added_apart attributes once)
    (each_from attributes attributes (names_allowed [] attributes chain)))

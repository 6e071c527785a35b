-- Which name of GROUP BY takes the entries of an attribute.
use Rattle.std.specs.Prelude.{◌≡◌, ℕ, ◌+◌, ◌<◌, ◌==◌, ◌≤◌, Bool, true, false, List, [], ◌∷◌}
use Rattle.std.specs.Prelude.{Option, None, Some, filter, length, slice_index_or}
use Rattle.std.specs.Prelude.{if◌then◌else◌, nat_lt, option_map}
use Rattle.std.specs.Ordering.{eq_by_cmp}
use Rattle.indexmap.specs.IndexMap.{IndexMap, get}
use Rattle.cal_context.specs.Tree.{Tree, attribute_at}
use Rattle.cal_context.specs.declared.numbers.AttributeNumber.{AttributeNumber}
use Rattle.cal_rowset.specs.Cells.{is_path}
use Rattle.cal_rowset.specs.Texts.{is_same}
use Rattle.cal_value.specs.Texts.{text_cmp}
use Rattle.cal_value.specs.declared.attribute.Attribute.{Attribute}
use Rattle.cal_value.specs.declared.attribute.Entry.{Entry}
use Rattle.cal_keys.specs.Groups.{takes_attribute}
use Rattle.cal_keys.specs.declared.takers.Taker.{Taker}
use Rattle.cal_keys.specs.declared.takers.Takers.{Takers}

-- the first place whose name passes
abbrev pub first_place : (List ℕ → Bool) → List (List ℕ) → Option ℕ
first_place p [] = None
first_place p (name ∷ names) =
    if p name then Some 0 else option_map (λ place. place + 1) (first_place p names)

-- the place of the name that takes an attribute's entries: the first of those that may
abbrev pub taker : Bool → List (List ℕ) → Attribute → Option ℕ
taker in_path names a = first_place (λ name. takes_attribute in_path name a) names

abbrev pub is_place : ℕ → Option ℕ → Bool
is_place place None = false
is_place place (Some p) = p == place

-- the entries that the name at a place takes
abbrev pub taken_at : Bool → List (List ℕ) → ℕ → List Entry → List Entry
taken_at in_path names place es =
    filter (λ e. is_place place (taker in_path names e.attr)) es

-- the lower of two places, or the one that there is
abbrev pub lower_place : Option ℕ → Option ℕ → Option ℕ
lower_place None other = other
lower_place (Some p) None = Some p
lower_place (Some p) (Some q) = Some (if nat_lt p q then p else q)

-- a map has the first place of each name
abbrev pub IsPlaced : {S : Type 0} → List (List ℕ) → IndexMap (List ℕ) ℕ S → Type 0
IsPlaced names m =
    (name : List ℕ) → get (eq_by_cmp text_cmp) m name ≡ first_place (is_same name) names

pub record HasPlaces (names : List (List ℕ)) (x : Takers) : Type 0 where
  pub placed : IsPlaced names x.places
  pub path : x.path ≡ first_place is_path names

-- who takes the entries of an attribute
pub record IsTaker (names : List (List ℕ)) (a : Attribute) (k : Taker) : Type 0 where
  pub in_paths : k.in_paths ≡ taker true names a
  pub beside : k.beside ≡ taker false names a

-- what is kept for an attribute
abbrev pub taker_at : Takers → AttributeNumber → Taker
taker_at x a = slice_index_or x.known.items a.0 (record { in_paths = None; beside = None })

pub record HasTaker (t : Tree) (names : List (List ℕ)) (x : Takers) (a : AttributeNumber)
    : Type 0 where
  pub within : a.0 < length t.attributes
  pub is : IsTaker names (attribute_at t a) (taker_at x a)

-- what is kept is right, as far as it goes
pub record AreTakers (t : Tree) (names : List (List ℕ)) (x : Takers) : Type 0 where
  pub places : HasPlaces names x
  pub known : (a : AttributeNumber) → a.0 < length x.known.items → HasTaker t names x a

-- and it goes for each attribute of the context
pub record KnowsTakers (t : Tree) (names : List (List ℕ)) (x : Takers) : Type 0 where
  pub are : AreTakers t names x
  pub all : length t.attributes ≤ length x.known.items

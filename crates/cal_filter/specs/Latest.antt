-- Where the last immediates of names stand in one record.
use Rattle.std.specs.Prelude.{◌≡◌, ℕ, ◌<◌, ◌≤◌, List, length, map, position, slice_get}
use Rattle.std.specs.Prelude.{slice_index_or, Option, None, Some, IfSome, option_and_then}
use Rattle.std.specs.Prelude.{option_map}
use Rattle.std.specs.List.{All, AllZip}
use Rattle.std.specs.Ordering.{eq_by_cmp}
use Rattle.cal_context.specs.Lists.{AreApart}
use Rattle.cal_context.specs.Snapshots.{entry_of}
use Rattle.cal_context.specs.Tree.{Tree, attribute_at}
use Rattle.cal_context.specs.declared.numbers.AttributeNumber.{AttributeNumber}
use Rattle.cal_context.specs.declared.snapshot.Immediate.{Immediate}
use Rattle.cal_ql.specs.declared.names.Op as ops
use Rattle.cal_value.specs.Texts.{text_cmp}
use Rattle.cal_filter.specs.Known.{KnowsAll}
use Rattle.cal_filter.specs.Sought.{Sought, any_of, last_sought, number_of, wanted_by}
use Rattle.cal_filter.specs.declared.definition.Definition.{Definition}
use Rattle.cal_filter.specs.declared.latest.Latest.{Latest}
use Rattle.cal_filter.specs.declared.seeker.Seeker.{Seeker}
use Rattle.cal_filter.specs.declared.wanted.Wanted as wants
use Rattle.cal_filter.specs.declared.wanted.Wanted.TheVariants as wanted

-- what is kept for an attribute: the number of its name, if it is one of these names
abbrev pub number_at : Latest → AttributeNumber → Option ℕ
number_at l a = slice_index_or l.named a.0 None

-- an attribute of the context, and the number of its name
pub record IsNumberedName (t : Tree) (l : Latest) (a : AttributeNumber) : Type 0 where
  pub within : a.0 < length t.attributes
  pub number : number_at l a
      ≡ position (eq_by_cmp text_cmp (attribute_at t a).name) l.names.keys

-- each name is there once, and what is kept of attributes is right, as far as it goes
pub record KnowsNames (t : Tree) (l : Latest) : Type 0 where
  pub apart : AreApart l.names.keys
  pub attributes : (a : AttributeNumber) → a.0 < length l.named → IsNumberedName t l a

-- and each attribute of the context is known
pub record KnowsAllNames (t : Tree) (l : Latest) : Type 0 where
  pub knows : KnowsNames t l
  pub attributes : length t.attributes ≤ length l.named

-- where the last immediate that is sought stands, if there is one
pub record IsLast (t : Tree) (s : Sought) (imms : List Immediate) (place : Option ℕ) : Type 0 where
  pub within : IfSome place (λ p. p < length imms)
  pub last : last_sought s (map (entry_of t) imms)
      ≡ option_map (entry_of t) (option_and_then (slice_get imms) place)

-- of each name its last immediate so far is known, and its last number
pub record IsLatest (t : Tree) (l : Latest) (imms : List Immediate) : Type 0 where
  pub names : KnowsAllNames t l
  pub counted : length l.places.items ≡ length l.names.keys
  pub numbers_counted : length l.number_places.items ≡ length l.names.keys
  pub any : (n : ℕ) (name : List ℕ) → slice_get l.names.keys n ≡ Some name
      → IsLast t (any_of name) imms (slice_index_or l.places.items n None)
  pub number : (n : ℕ) (name : List ℕ) → slice_get l.names.keys n ≡ Some name
      → IsLast t (number_of name) imms (slice_index_or l.number_places.items n None)

-- the place that is kept for a name, where this is wanted of it
abbrev pub place_for : Latest → wants.Wanted → ℕ → Option ℕ
place_for l wanted.Number n = slice_index_or l.number_places.items n None
place_for l _ n = slice_index_or l.places.items n None

-- a seeker of some operator, whose name has this number
pub record IsNamed (names : List (List ℕ)) (s : Seeker) (n : ℕ) : Type 0 where
  pub name : slice_get names n ≡ Some s.name
  pub op : ops.Op
  pub wanted : s.wanted ≡ wanted_by op

-- the seekers of a definition, and the numbers of their names
abbrev pub AreNamed : List (List ℕ) → Definition → Type 0
AreNamed names d = AllZip (IsNamed names) d.seekers.items d.names.items

-- a seeker that knows the whole context, and the last immediates of its name
pub record IsReadyOperand (t : Tree) (l : Latest) (imms : List Immediate) (s : Seeker) (n : ℕ)
    : Type 0 where
  pub knows : KnowsAll t s
  pub named : IsNamed l.names.keys s n
  pub latest : IsLatest t l imms

-- so do seekers, and the numbers of their names
pub record AreReadyOperands (t : Tree) (l : Latest) (imms : List Immediate) (ss : List Seeker)
    (ns : List ℕ) : Type 0 where
  pub knows : All (KnowsAll t) ss
  pub named : AllZip (IsNamed l.names.keys) ss ns
  pub latest : IsLatest t l imms

-- an old table became a new one of the same names, which still follows a record
pub record Follows (t : Tree) (old : Latest) (before : List Immediate) (new : Latest)
    (after : List Immediate) : Type 0 where
  pub latest : IsLatest t old before → IsLatest t new after
  pub names : new.names ≡ old.names

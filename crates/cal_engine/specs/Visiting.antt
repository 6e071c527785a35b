-- Nodes of a context that were met on ways up, and the names on their paths.
use Rattle.std.specs.Prelude.{◌≡◌, ℕ, ◌<◌, Bool, false, true, List, [], ◌++◌, ◌⊎◌}
use Rattle.std.specs.Prelude.{length, map, reverse, slice_index_or}
use Rattle.std.specs.List.{All, list_any}
use Rattle.std.specs.Ordering.{eq_by_cmp}
use Rattle.cal_context.specs.Lists.{IsFront}
use Rattle.cal_context.specs.Tree.{Tree, attribute_at, path_at}
use Rattle.cal_context.specs.declared.numbers.AttributeNumber.{AttributeNumber}
use Rattle.cal_context.specs.declared.numbers.NodeNumber.{NodeNumber}
use Rattle.cal_rowset.specs.Hierarchy.{is_of_hierarchy}
use Rattle.cal_value.specs.Texts.{text_cmp}
use Rattle.cal_value.specs.declared.attribute.Attribute.{Attribute}
use Rattle.cal_engine.specs.declared.shown_names.ShownNames.{ShownNames}
use Rattle.cal_engine.specs.declared.visits.Visits.{Visits}

-- the attributes on a node's path, from the root downwards
abbrev pub attributes_on : Tree → NodeNumber → List Attribute
attributes_on t n = map (λ e. e.attr) (path_at t n)

-- a node was met
abbrev pub IsMet : List Bool → NodeNumber → Type 0
IsMet met n = slice_index_or met n.0 false ≡ true

-- A way up from a node met the nodes whose attributes are a trail, and ended at the root or at a
-- node that was met before. What is met now was met before, or begins the node's path.
pub record IsClimb (t : Tree) (old : List Bool) (node : NodeNumber) (new : List Bool)
    (trail : List AttributeNumber) (top : NodeNumber) : Type 0 where
  pub long : length new ≡ length t.paths
  pub path : attributes_on t node
      ≡ attributes_on t top ++ map (attribute_at t) (reverse trail)
  pub known : All (λ a. a.0 < length t.attributes) trail
  pub above : (path_at t top ≡ []) ⊎ IsMet old top
  pub met : (n : NodeNumber) → IsMet new n
      → IsMet old n ⊎ IsFront (attributes_on t n) (attributes_on t node)

-- the same with the trail from the root downwards
pub record IsVisit (t : Tree) (old : Visits) (node : NodeNumber) (new : Visits)
    (top : NodeNumber) : Type 0 where
  pub long : length new.met.items ≡ length t.paths
  pub path : attributes_on t node
      ≡ attributes_on t top ++ map (attribute_at t) new.trail.items
  pub known : All (λ a. a.0 < length t.attributes) new.trail.items
  pub above : (path_at t top ≡ []) ⊎ IsMet old.met.items top
  pub met : (n : NodeNumber) → IsMet new.met.items n
      → IsMet old.met.items n ⊎ IsFront (attributes_on t n) (attributes_on t node)

-- this holds of the attributes on the path of each node that was met
pub record MetWith (Q : Attribute → Type 0) (t : Tree) (v : Visits) : Type 0 where
  pub long : length v.met.items ≡ length t.paths
  pub met : (n : NodeNumber) → IsMet v.met.items n → All Q (attributes_on t n)

-- an attribute that isn't of the hierarchy
abbrev pub IsPlain : Attribute → Type 0
IsPlain a = is_of_hierarchy a ≡ false

-- a name is among these
abbrev pub HasName : List (List ℕ) → List ℕ → Type 0
HasName names name = list_any (eq_by_cmp text_cmp name) names ≡ true

-- its name is among these, or it is of the hierarchy
abbrev pub IsLearned : List (List ℕ) → Attribute → Type 0
IsLearned names a = IsPlain a → HasName names a.name

-- of each attribute that is known, the name was learned
pub record KnowsNames (t : Tree) (shown : ShownNames) : Type 0 where
  pub long : length shown.known.items ≡ length t.attributes
  pub known : (a : AttributeNumber) → slice_index_or shown.known.items a.0 false ≡ true
      → HasName shown.names.keys (attribute_at t a).name

-- How the paths that boards hold are kept: by the nodes of a context (private).
use Rattle.std.specs.Prelude.{◌≡◌, ◌<◌, Bool, true, false, List, ◌++◌, length, map, All}
use Rattle.std.specs.Prelude.{slice_index_or}
use Rattle.std.specs.List.{Contains}
use Rattle.std.specs.Ordering.{eq_by_cmp}
use Rattle.std.specs.Set.{is_member}
use Rattle.cal_context.specs.Lists.{AreApart}
use Rattle.cal_context.specs.Tree.{Tree, path_at}
use Rattle.cal_context.specs.declared.numbers.NodeNumber.{NodeNumber}
use Rattle.cal_value.specs.Order.{path_cmp}
use Rattle.cal_value.specs.declared.attribute.Entry.{Entry}

-- the nodes lie in the context, and their paths are these
pub record AreHeld (t : Tree) (nodes : List NodeNumber) (paths : List (List Entry)) : Type 0 where
  pub within : All (λ (n : NodeNumber). n.0 < length t.paths) nodes
  pub same : (p : List Entry) → is_member (eq_by_cmp path_cmp) (map (path_at t) nodes) p
      ≡ is_member (eq_by_cmp path_cmp) paths p

-- whatever paths were held, these are held beside them now
abbrev pub HoldsPaths : (was is : Tree) → (old new : List NodeNumber) → List (List Entry) → Type 0
HoldsPaths was is old new more =
    (paths : List (List Entry)) → AreHeld was old paths → AreHeld is new (paths ++ more)

-- a set of nodes says by their numbers which are there, and none stands twice
pub record AreMarked (there : List Bool) (nodes : List NodeNumber) : Type 0 where
  pub listed : (n : NodeNumber) → slice_index_or there n.0 false ≡ true → Contains nodes n
  pub marked : (n : NodeNumber) → Contains nodes n → slice_index_or there n.0 false ≡ true
  pub apart : AreApart nodes

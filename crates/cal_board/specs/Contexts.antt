-- How open values stand in a context: as the path of a node.
use Rattle.std.specs.Prelude.{◌≡◌, ◌<◌, List, length, map, All}
use Rattle.cal_board.specs.declared.opened.Opened.{Opened}
use Rattle.cal_context.specs.Lists.{Adds}
use Rattle.cal_context.specs.Tree.{Tree, attribute_at, path_at}
use Rattle.cal_context.specs.declared.numbers.NodeNumber.{NodeNumber}
use Rattle.cal_value.specs.declared.attribute.Entry.{Entry}
use Rattle.cal_value.specs.declared.variant.Variant.{Variant}

-- the entry of an open value, whose attribute has its number in the context
abbrev pub opened_entry : Tree → Opened Variant → Entry
opened_entry t o = record { attr = attribute_at t (record { 0 = o.attribute }); value = o.value }

-- a node below the root whose path is these open values
pub record NodeStands (t : Tree) (n : NodeNumber) (path : List (Opened Variant)) : Type 0 where
  pub below : 0 < n.0
  pub within : n.0 < length t.paths
  pub known : All (λ (o : Opened Variant). o.attribute < length t.attributes) path
  pub entries : path_at t n ≡ map (opened_entry t) path

-- A node is there, and its path is all that the context has more, if it is new.
pub record AddsNode (old new : Tree) (n : NodeNumber) : Type 0 where
  pub within : n.0 < length new.paths
  pub paths : Adds old.paths (path_at new n) new.paths
  pub values : new.values ≡ old.values
  pub attributes : new.attributes ≡ old.attributes

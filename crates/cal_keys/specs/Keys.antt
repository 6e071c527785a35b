-- The keys of groups by numbers, and what they mean in a tree.
use Rattle.std.specs.Prelude.{◌≡◌, ℕ, ◌==◌, ◌<◌, List, [], ◌∷◌, ◌++◌, Option, None, Some}
use Rattle.std.specs.Prelude.{length, map, if◌then◌else◌, slice_index_or}
use Rattle.std.specs.List.{All}
use Rattle.cal_context.specs.Snapshots.{IsBelowRoot}
use Rattle.cal_context.specs.Tree.{Tree, path_at}
use Rattle.cal_context.specs.declared.numbers.NodeNumber.{NodeNumber}
use Rattle.cal_value.specs.declared.attribute.Entry.{Entry}
use Rattle.cal_value.specs.declared.record.Rec.{Rec}
use Rattle.cal_keys.specs.declared.key.GroupKey.{GroupKey}

-- the group that a key means
abbrev pub key_in : Tree → GroupKey → Rec
key_in t k = record { paths = map (path_at t) k.paths; imms = path_at t k.imms }

-- a key's nodes lie in the tree, and those of its paths below the root
pub record IsKeyIn (t : Tree) (k : GroupKey) : Type 0 where
  pub paths : All (IsBelowRoot t) k.paths
  pub imms : k.imms.0 < length t.paths

-- a key means this group
pub record IsKeyOf (t : Tree) (group : Rec) (k : GroupKey) : Type 0 where
  pub within : IsKeyIn t k
  pub is : key_in t k ≡ group

-- nodes below the root have these paths
pub record ArePaths (t : Tree) (nodes : List NodeNumber) (paths : List (List Entry)) : Type 0 where
  pub within : All (IsBelowRoot t) nodes
  pub are : map (path_at t) nodes ≡ paths

-- a node that isn't the root goes last
abbrev pub with_node : List NodeNumber → NodeNumber → List NodeNumber
with_node nodes n = if n.0 == 0 then nodes else nodes ++ n ∷ []

-- the key of one node, or of none where that is the root
abbrev pub single_key : NodeNumber → GroupKey
single_key n = record { paths = with_node [] n; imms = record { 0 = 0 } }

-- the key of a number
abbrev pub nth_key : List GroupKey → ℕ → GroupKey
nth_key keys n = slice_index_or keys n (record { paths = []; imms = record { 0 = 0 } })

-- The tree in which the keys of groups lie: the context's without GROUP BY, and else one of the
-- fold's own.
abbrev pub room_of : Option (List (List ℕ)) → Tree → Tree → Tree
room_of None t own = t
room_of (Some names) t own = own

abbrev pub names_in : Option (List (List ℕ)) → List (List ℕ)
names_in None = []
names_in (Some names) = names

-- The nodes to which paths lead.
use Rattle.std.specs.Prelude.{◌≡◌, ◌<◌, List, [], ◌∷◌, ◌++◌, length, map}
use Rattle.std.specs.List.{All}
use Rattle.cal_context.specs.Tree.{Tree, path_at}
use Rattle.cal_context.specs.declared.numbers.NodeNumber.{NodeNumber}
use Rattle.cal_value.specs.declared.attribute.Entry.{Entry}
use Rattle.cal_value.specs.declared.record.Rec.{Rec}
use Rattle.cal_keys.specs.Trails.{trail}

-- a path leads to a node
pub record Leads (t : Tree) (path : List Entry) (n : NodeNumber) : Type 0 where
  pub within : n.0 < length t.paths
  pub is : path_at t n ≡ path

-- a node is that of an entry below a node
pub record IsStep (old new : Tree) (parent : NodeNumber) (e : Entry) (n : NodeNumber) : Type 0 where
  pub within : n.0 < length new.paths
  pub path : path_at new n ≡ path_at old parent ++ e ∷ []

-- the nodes to which the ways to groups lead
pub record AreWays (t : Tree) (keys : List Rec) (nodes : List NodeNumber) : Type 0 where
  pub within : All (λ n. n.0 < length t.paths) nodes
  pub paths : map (path_at t) nodes ≡ map trail keys

-- Nodes stand to each other as the ways to groups do: their paths behind some entries are these.
pub record AreWaysBehind (t : Tree) (front : List Entry) (keys : List Rec)
    (nodes : List NodeNumber) : Type 0 where
  pub within : All (λ n. n.0 < length t.paths) nodes
  pub paths : map (λ n. front ++ path_at t n) nodes ≡ map trail keys

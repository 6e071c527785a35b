-- The places by which rows are put into a likely order first (private).
use Rattle.std.specs.Prelude.{ℕ, ◌&&◌, List, if◌then◌else◌, length, nat_lt, slice_index_or}
use Rattle.cal_context.specs.Tree.{Tree}
use Rattle.cal_context.specs.declared.numbers.NodeNumber.{NodeNumber}

-- the place of a node: 0 for the root, and for what isn't one of the context
abbrev pub node_place : Tree → List ℕ → NodeNumber → ℕ
node_place t places n = if nat_lt n.0 (length t.paths) && nat_lt 0 n.0
    then slice_index_or places n.0 0 else 0

-- the place of the node at an index, or the root's behind the end
abbrev pub place_in : Tree → List ℕ → List NodeNumber → ℕ → ℕ
place_in t places nodes i = node_place t places (slice_index_or nodes i (record { 0 = 0 }))

-- the places of the first two nodes
abbrev pub likely_key : Tree → List ℕ → List NodeNumber → ℕ × ℕ
likely_key t places nodes = (place_in t places nodes 0, place_in t places nodes 1)

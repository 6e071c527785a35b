-- What a seeker keeps beside the numbers of a context, and when that is right.
use Rattle.std.specs.Prelude.{◌≡◌, ◌<◌, ◌≤◌, Bool, false, length, slice_index_or, None}
use Rattle.std.specs.List.{last_or}
use Rattle.std.specs.Ordering.{eq_by_cmp}
use Rattle.cal_context.specs.Tree.{Tree, attribute_at, path_at}
use Rattle.cal_context.specs.declared.numbers.AttributeNumber.{AttributeNumber}
use Rattle.cal_context.specs.declared.numbers.NodeNumber.{NodeNumber}
use Rattle.cal_value.specs.Texts.{text_cmp}
use Rattle.cal_filter.specs.Sought.{Sought, last_sought}
use Rattle.cal_filter.specs.declared.counts.Counts.{Counts}
use Rattle.cal_filter.specs.declared.seeker.Seeker.{Seeker}

-- what a seeker seeks
abbrev pub sought : Seeker → Sought
sought s = record { name = s.name; wanted = s.wanted }

-- what is kept for an attribute: whether it has the name
abbrev pub named_at : Seeker → AttributeNumber → Bool
named_at s a = slice_index_or s.named a.0 false

-- what is kept for a node: the nearest one at or above it whose entry is sought, or else the root
abbrev pub nearest_at : Seeker → NodeNumber → NodeNumber
nearest_at s n = slice_index_or s.nearest n.0 (record { 0 = 0 })

-- an attribute of the context that has the name, or hasn't
pub record IsKnownAttribute (t : Tree) (s : Seeker) (a : AttributeNumber) : Type 0 where
  pub within : a.0 < length t.attributes
  pub named : named_at s a ≡ eq_by_cmp text_cmp (attribute_at t a).name s.name

-- the last entry that is sought on a node's path is that of another node
pub record IsNearest (t : Tree) (s : Sought) (n other : NodeNumber) : Type 0 where
  pub within : n.0 < length t.paths
  pub other_within : other.0 < length t.paths
  pub last : last_sought s (path_at t n) ≡ last_or None (path_at t other)

-- what is kept is right in this context, as far as it goes
pub record Knows (t : Tree) (s : Seeker) : Type 0 where
  pub attributes : (a : AttributeNumber) → a.0 < length s.named → IsKnownAttribute t s a
  pub nodes : (n : NodeNumber) → n.0 < length s.nearest
      → IsNearest t (sought s) n (nearest_at s n)

-- each attribute of the context is known
pub record KnowsAttributes (t : Tree) (s : Seeker) : Type 0 where
  pub knows : Knows t s
  pub attributes : length t.attributes ≤ length s.named

-- and each node
pub record KnowsAll (t : Tree) (s : Seeker) : Type 0 where
  pub knows : Knows t s
  pub attributes : length t.attributes ≤ length s.named
  pub nodes : length t.paths ≤ length s.nearest

-- a seeker knows at least so many attributes and nodes
pub record KnowsSoMany (n : Counts) (s : Seeker) : Type 0 where
  pub attributes : n.attributes ≤ length s.named
  pub nodes : n.nodes ≤ length s.nearest

-- a context has no more attributes and nodes
pub record Covers (t : Tree) (n : Counts) : Type 0 where
  pub attributes : length t.attributes ≤ n.attributes
  pub nodes : length t.paths ≤ n.nodes

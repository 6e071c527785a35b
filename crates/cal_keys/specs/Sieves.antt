-- What is kept of the names of GROUP BY beside the numbers of nodes, and when that is right.
use Rattle.std.specs.Prelude.{ℕ, true, ◌<◌, ◌≤◌, List, [], length, slice_index_or}
use Rattle.cal_context.specs.Tree.{Tree, path_at}
use Rattle.cal_context.specs.declared.numbers.NodeNumber.{NodeNumber}
use Rattle.cal_filter.specs.declared.counts.Counts.{Counts}
use Rattle.cal_keys.specs.Shares.{AreShares}
use Rattle.cal_keys.specs.Takers.{AreTakers, taken_at}
use Rattle.cal_keys.specs.declared.share.Share.{Share}
use Rattle.cal_keys.specs.declared.sieve.Sieve.{Sieve}

-- what is kept for a node
abbrev pub shares_at : Sieve → NodeNumber → List Share
shares_at s n = slice_index_or s.shares n.0 []

-- shares are those of what the names take of a node's path, in the tree of groups
pub record HasShares (t own : Tree) (names : List (List ℕ)) (n : NodeNumber)
    (shares : List Share) : Type 0 where
  pub within : n.0 < length t.paths
  pub are : AreShares own (length names) (λ place. taken_at true names place (path_at t n)) shares

-- what is kept is right, as far as it goes
pub record IsSieve (t own : Tree) (names : List (List ℕ)) (s : Sieve) : Type 0 where
  pub takers : AreTakers t names s.takers
  pub shares : (n : NodeNumber) → n.0 < length s.shares
      → HasShares t own names n (shares_at s n)

-- it goes for each attribute of the context
pub record KnowsAttributes (t own : Tree) (names : List (List ℕ)) (s : Sieve) : Type 0 where
  pub is : IsSieve t own names s
  pub attributes : length t.attributes ≤ length s.takers.known.items

-- and it goes for the whole context
pub record IsReadySieve (t own : Tree) (names : List (List ℕ)) (s : Sieve) : Type 0 where
  pub is : IsSieve t own names s
  pub attributes : length t.attributes ≤ length s.takers.known.items
  pub nodes : length t.paths ≤ length s.shares

-- it goes for at least so many attributes and nodes
pub record SiftsSoMany (n : Counts) (s : Sieve) : Type 0 where
  pub attributes : n.attributes ≤ length s.takers.known.items
  pub nodes : n.nodes ≤ length s.shares

-- What LET and WHERE keep beside the numbers of a context, and when that is right.
use Rattle.std.specs.Prelude.{ℕ, ◌<◌, length}
use Rattle.std.specs.List.{All}
use Rattle.cal_context.specs.Tree.{Tree, path_at}
use Rattle.cal_context.specs.declared.numbers.NodeNumber.{NodeNumber}
use Rattle.cal_filter.specs.Ready.{IsFilter}
use Rattle.cal_ql.specs.declared.query.Query.{Query}
use Rattle.cal_value.specs.Reading.{IsSmall}
use Rattle.cal_engine.specs.Looked.{IsLooked}
use Rattle.cal_engine.specs.declared.gate.Gate.{Gate}

-- the numbers on a node's path are small
pub record IsSmallAt (t : Tree) (n : NodeNumber) : Type 0 where
  pub within : n.0 < length t.paths
  pub small : All (λ e. IsSmall e.value) (path_at t n)

abbrev pub AreSmallBefore : Tree → ℕ → Type 0
AreSmallBefore t count = (n : NodeNumber) → n.0 < count → IsSmallAt t n

pub record IsGate (t : Tree) (q : Query) (g : Gate) : Type 0 where
  pub filter : IsFilter t q g.filter
  pub small : AreSmallBefore t g.small
  pub looked : IsLooked t q g.looked

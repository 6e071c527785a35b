-- The queries that make sense to whoever answers them.
use Rattle.std.specs.Prelude.{◌≡◌, ℕ, ℤ, pos, ◌≤◌, ◌≤ℤ◌, List, [], ◌∷◌, Option, None, Some, length, map, nat_eq}
use Rattle.std.specs.List.{AllByRecursion, IsDistinct}
use Rattle.std.specs.Cmp.Lexicographic.{pointwise}
use Rattle.cal_ql.specs.declared.names.Op as ops
use Rattle.cal_ql.specs.declared.names.Op.TheVariants as op
use Rattle.cal_ql.specs.declared.names.KernelName as kernels
use Rattle.cal_ql.specs.declared.names.KernelName.TheVariants as kernel
use Rattle.cal_ql.specs.declared.query.Let.{Let}
use Rattle.cal_ql.specs.declared.query.Query.{Query}
use Rattle.cal_ql.specs.Lets.{least_number}

-- how many names an operator takes
abbrev pub TakesNames : ops.Op → ℕ → Type 0
TakesNames op.Truncate names = names ≡ 1
TakesNames op.Scale names = names ≡ 1
TakesNames op.Ratio names = names ≡ 2
TakesNames op.First names = (1 ≤ names) × (names ≤ 16)
TakesNames op.Sum names = (1 ≤ names) × (names ≤ 16)

-- a definition has as many names as its operator takes, and a number within its bounds
pub record IsLet (l : Let) : Type 0 where
  pub names : TakesNames l.op (length l.args)
  pub least : least_number l.op ≤ℤ l.n
  pub most : l.n ≤ℤ pos 2147483647

-- a query whose definitions are such, and no two of whose kernels have one result name
pub record IsValidQuery (query : Query) : Type 0 where
  pub lets : AllByRecursion IsLet query.lets
  pub aggs : IsDistinct (pointwise nat_eq) (map (λ agg. agg.name) query.aggs)

-- an operator that takes no number has 1
abbrev pub SaysNumber : ops.Op → ℤ → Type 0
SaysNumber op.First n = n ≡ pos 1
SaysNumber op.Sum n = n ≡ pos 1
SaysNumber _ n = Unit {0}

-- count has no attribute
abbrev pub SaysAttribute : kernels.KernelName → List ℕ → Type 0
SaysAttribute kernel.Count attr = attr ≡ []
SaysAttribute _ attr = Unit {0}

-- a list that is there has items
abbrev pub SaysItems : {X : Type 0} → Option (List X) → Type 0
SaysItems None = Unit {0}
SaysItems (Some []) = ⊥
SaysItems (Some (x ∷ xs)) = Unit {0}

-- What a text says of a query beside that it is valid: where no number or attribute can be given,
-- none is, and what SELECT and GROUP BY list isn't empty.
pub record IsSaid (query : Query) : Type 0 where
  pub numbers : AllByRecursion (λ l. SaysNumber l.op l.n) query.lets
  pub attributes : AllByRecursion (λ agg. SaysAttribute agg.kernel agg.attr) query.aggs
  pub select : SaysItems query.select
  pub group : SaysItems query.group

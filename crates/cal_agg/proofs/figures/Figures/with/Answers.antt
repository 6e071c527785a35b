use Rattle.std.proofs.Common.{◌≡◌, ◌+ℤ◌, ℤ, FitsSigned, rules, ◌∙◌}
use Rattle.std.specs.Int.{int_min, int_max}
use Rattle.std.proofs.lemmas.Int.{to_z-of_z}
use Rattle.cal_agg.proofs.figures.Figures.with.Goals as goal
use mir.Syntax.{w128}
use mir.Val.{to_z, of_z}

-- a result of two numbers that are read back as they are
read_back : (join : ℤ → ℤ → ℤ) (x y z : ℤ) → FitsSigned w128 x → FitsSigned w128 y
    → FitsSigned w128 z → z ≡ join (to_z w128 (of_z w128 x)) (to_z w128 (of_z w128 y))
    → to_z w128 (of_z w128 z) ≡ join x y
read_back join x y z h k l e =
    to_z-of_z w128 z l ∙ e ∙ λ i. join (to_z-of_z w128 x h i) (to_z-of_z w128 y k i)

pub returns : goal.returns
returns c = λ i. record {
  total = read_back ◌+ℤ◌ c.args.self.total c.args.other.total _ (search rules) (search rules)
      (search rules) c.sum.ensures i;
  least = read_back int_min c.args.self.least c.args.other.least _ (search rules)
      (search rules) (search rules) c.min.ensures.value i;
  greatest = read_back int_max c.args.self.greatest c.args.other.greatest _ (search rules)
      (search rules) (search rules) c.max.ensures.value i;
}

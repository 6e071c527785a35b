use Rattle.std.proofs.Common.{subst}
use Rattle.cal_tree.specs.Paths.{HasPath}
use Rattle.cal_tree.proofs.Ways.{one_end, one_path}
use Rattle.cal_tree.proofs.laws.one_path_each.Goals as goal

pub returns : goal.returns
returns c plan v p q m n sound a b = (
  λ same. one_path plan v sound p q n (subst (λ k. HasPath plan.shape.slots v p k) same a) b,
  λ same. one_end plan v sound 0 0 q m n (subst (λ l. HasPath plan.shape.slots v l m) same a) b,
)

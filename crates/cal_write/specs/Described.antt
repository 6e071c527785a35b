use Rattle.std.specs.Prelude.{◌≡◌, true, ◌&&◌, ℕ, nat_eq, Option, Some, None, IsTrue}
use Rattle.std.specs.Option.{option_eq}
use Rattle.std.specs.Ordering.{eq_by_cmp}
use Rattle.std.proofs.Common.{ap}
use Rattle.std.proofs.lemmas.Bool.Decides.{Decides-like, Decides-eqb, Decides-and}
use Rattle.std.specs.Bool.{Decides}
use Rattle.cal_value.specs.ExactOrder.{exact_decides}
use Rattle.cal_value.specs.Order.{entry_cmp}
use Rattle.cal_value.specs.OrderLaws.{entry_exact}
use Rattle.cal_write.specs.declared.described.DescribedNode.{DescribedNode}

option_decides : (x y : Option ℕ) → Decides (option_eq nat_eq x y) (x ≡ y)
option_decides None None = (λ e. λ i. None, λ e. λ i. true)
option_decides None (Some y) = (λ e. cc, λ e. cc)
option_decides (Some x) None = (λ e. cc, λ e. cc)
option_decides (Some x) (Some y) = Decides-like (nat_eq x y) (ap Some) (λ e. cc) (Decides-eqb x y)

-- what `==` calls equal is one node
pub described_tells : (x y : DescribedNode)
    → IsTrue (option_eq nat_eq x.parent y.parent && eq_by_cmp entry_cmp x.entry y.entry) → x ≡ y
described_tells x y t =
    let both = (Decides-and (option_eq nat_eq x.parent y.parent)
    (eq_by_cmp entry_cmp x.entry y.entry)
    (option_decides x.parent y.parent) (exact_decides entry_exact x.entry y.entry)).0 t in
    λ j. record { parent = both.0 j; entry = both.1 j }

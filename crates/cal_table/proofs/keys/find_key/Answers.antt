use Rattle.std.proofs.Common.{◌≡◌, ℕ, Bool, true, Option, None, Some, List, slice_get, position}
use Rattle.std.specs.Prelude.{IfSome}
use Rattle.std.specs.Cmp.{IsEquivalence}
use Rattle.cal_context.proofs.ListLemmas.{number_of_position}
use Rattle.cal_table.proofs.keys.find_key.Goals as goal

found : {A : Type 0} {eq : A → A → Bool} → IsEquivalence eq → ((x y : A) → eq x y ≡ true → x ≡ y) → (xs : List A) (x : A) (r : Option ℕ) → r ≡ position (eq x) xs → IfSome r (λ n. slice_get xs n ≡ Some x)
found laws same xs x None e = tt
found laws same xs x (Some n) e = number_of_position laws same xs n x e

pub returns-then-has_at : goal.returns-then-has_at
returns-then-has_at g c = rw c.as_slice.ensures.keys at (c.has_at.ensures c.if-has_at.true)

pub returns : goal.returns
returns g c =
    found g.met.K.Eq.laws g.met.K.Exact.tells c.args.keys.now.keys c.args.key.now c.get_index_of.result c.get_index_of.ensures.index

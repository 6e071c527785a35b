use Rattle.std.proofs.Common.{ℕ, subst}
use Rattle.cal_once.specs.Views.{Holds}
use Rattle.cal_once.proofs.laws.one_place_each.Goals as goal

pub returns : goal.returns
returns g c plan v p q a b sound hp hq kp kq = (λ same. sound.one_record q a b hq (subst (λ (n : ℕ). Holds v n a) same kp) kq, λ same. sound.one_place p q b hp hq (subst (λ ws. Holds v p ws) same kp) kq)

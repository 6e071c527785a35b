-- What a reading that succeeds did on its way.
use Rattle.std.proofs.Common.{◌≡◌, Option, Some, None, Result, Ok, Err, refl}
use Rattle.cal_ql.specs.Tokens.{Fault}
use Rattle.cal_ql.specs.Reading.{◌>>=◌, or_fault}

-- the value of a step that did not fail
pub bind_ok : {A B : Type 0} (r : Result A Fault) (f : A → Result B Fault) (y : B) → (r >>= f) ≡ Ok y → (x : A) × (r ≡ Ok x) × (f x ≡ Ok y)
bind_ok (Ok x) f y e = (x, refl, e)
bind_ok (Err d) f y e = absurd cc

-- what was there
pub or_fault_ok : {A : Type 0} (found : Option A) (fault : Fault) (x : A) → or_fault found fault ≡ Ok x → found ≡ Some x
or_fault_ok None fault x e = absurd cc
or_fault_ok (Some y) fault x e = cc

abbrev done : {A : Type 0} → A → Result A Fault
done x = Ok x

pub ok_is : {A : Type 0} (x y : A) → done x ≡ done y → x ≡ y
ok_is x y e = cc

-- What a step needs where it answers something.
use Rattle.std.proofs.Common.{◌≡◌, Bool, true, false, cond, refl}
use Rattle.std.specs.Prelude.{Option, Some, None, Result, Ok, Err}
use Rattle.std.specs.Option.{ok_or}
use Rattle.cal_line.specs.FirstFault.{◌>>=◌}

pub bind_ok : {A B K : Type 0} (found : Result A K) (next : A → Result B K) (b : B) → (found >>= next) ≡ Ok b → (a : A) × (found ≡ Ok a) × (next a ≡ Ok b)
bind_ok (Ok a) next b is = (a, refl, is)
bind_ok (Err k) next b is = absurd cc

pub ok_or_ok : {A K : Type 0} (found : Option A) (kind : K) (a : A) → ok_or found kind ≡ Ok a → found ≡ Some a
ok_or_ok (Some x) kind a is = cc
ok_or_ok None kind a is = absurd cc

-- a test that passed
pub unless_ok : {A K : Type 0} (b : Bool) (kind : K) (said : Result A K) (a : A) → cond b (Err kind) said ≡ Ok a → (b ≡ false) × (said ≡ Ok a)
unless_ok true kind said a is = absurd cc
unless_ok false kind said a is = (refl, is)

pub if_ok : {A K : Type 0} (b : Bool) (kind : K) (said : Result A K) (a : A) → cond b said (Err kind) ≡ Ok a → (b ≡ true) × (said ≡ Ok a)
if_ok true kind said a is = (refl, is)
if_ok false kind said a is = absurd cc

-- one of two ways
pub choice_ok : {A K : Type 0} {P : Type 0} (b : Bool) (one other : Result A K) (a : A) → cond b one other ≡ Ok a → (one ≡ Ok a → P) → (other ≡ Ok a → P) → P
choice_ok true one other a is first second = first is
choice_ok false one other a is first second = second is

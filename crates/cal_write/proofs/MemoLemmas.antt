-- What is noted, beside the numbers that stand for it.
use Rattle.std.proofs.Common.{◌≡◌, ℕ, ◌+◌, Bool, true, false, List, get_or, map, nat_eq, add-one, ap, sym, ◌∙◌, if◌then◌else◌}
use Rattle.std.proofs.Math.ListN.{get_or-map}
use Rattle.std.specs.Prelude.{Some}
use Rattle.cal_write.specs.Memo.{before, memo_at}

-- a note is made, and the others stay
pub memo-set : (old new : List ℕ) (n s id : ℕ) → s ≡ id + 1
    → ((k : ℕ) → get_or new k 0 ≡ (if nat_eq n k then s else get_or old k 0))
    → (k : ℕ) → memo_at (map before new) k
    ≡ (if nat_eq n k then Some id else memo_at (map before old) k)
memo-set old new n s id is sets k =
    get_or-map before new k 0 ∙ ap before (sets k) ∙ by (nat_eq n k)
  where
    by : (b : Bool) → before (if b then s else get_or old k 0)
        ≡ (if b then Some id else memo_at (map before old) k)
    by true = ap before (is ∙ add-one id)
    by false = sym (get_or-map before old k 0)

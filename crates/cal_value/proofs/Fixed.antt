-- Reading decimals: the whole part, and what stands behind it.
use Rattle.std.proofs.Common.{◌≡◌, ◌≢◌, ◌≤◌, zero, suc, take, ◌+◌, ◌*◌, ◌/◌, ◌%◌, ◌^◌, ◌∙◌, ℕ, Bool}
use Rattle.std.proofs.Common.{List, [], ◌∷◌, ◌++◌, Some, None, length, append_assoc, refl, ap}
use Rattle.std.proofs.Common.{arith}
use Rattle.std.specs.Prelude.{Option, unwrap_or, not}
use Rattle.std.specs.List.{position, position_or_len}
use Rattle.std.specs.Option.{option_and_then, option_map}
use Rattle.std.proofs.lemmas.Bool.Decides.{nat_tests}
use Rattle.std.proofs.lemmas.List.{length-take, take-append-le}
use Rattle.std.proofs.lemmas.List.Sums.{prefix_len-le-length}
use Rattle.cal_value.specs.Decimals.{digits_behind}
use Rattle.cal_value.specs.Numerals.{at_most}

-- the first place that passes, or the end
pub unwrap_or-position :
    (p : ℕ → Bool) (xs : List ℕ) → unwrap_or (position p xs) (length xs) ≡ position_or_len p xs
unwrap_or-position p xs =
    let most = prefix_len-le-length (λ x. not (p x)) xs in grind (arith, nat_tests)

-- the nano-units of a whole part and what stands behind it
abbrev joined : Option ℕ → Option ℕ → Option ℕ
joined whole rest = option_and_then (λ w. option_map (λ r. w * 1000000000 + r) rest) whole

-- a whole part that is no number, or too large, leaves none
pub without_whole :
    (whole rest : Option ℕ) → at_most 77371252455336267 whole ≡ None
    → at_most (2 ^ 86) (joined whole rest) ≡ None
without_whole None rest h = refl
without_whole (Some w) None h = refl
without_whole (Some w) (Some r) h = grind (arith, nat_tests)

-- so does something else behind it
pub without_rest :
    (whole rest : Option ℕ) → rest ≡ None → at_most (2 ^ 86) (joined whole rest) ≡ None
without_rest None rest h = refl
without_rest (Some w) rest h = ap (λ r. at_most (2 ^ 86) (joined (Some w) r)) h

-- both parts as they are
pub joined-both :
    (whole rest : Option ℕ) (w r : ℕ) → at_most 77371252455336267 whole ≡ Some w → rest ≡ Some r
    → joined whole rest ≡ Some (w * 1000000000 + r)
joined-both None rest w r h e = absurd (grind arith)
joined-both (Some v) rest w r h e =
    let same : v ≡ w =
    grind (arith, nat_tests) in ap (joined (Some v)) e
    ∙ ap (λ x. Some (x * 1000000000 + r)) same

-- one digit behind the point more
pub digits_behind-next :
    (out all : List ℕ) (places worth rest : ℕ) → worth ≡ 10 ^ places → rest ≢ 0
    → out ++ digits_behind (suc places) rest ≡ all
    → (out ++ (48 + rest / worth) ∷ []) ++ digits_behind places (rest % worth) ≡ all
digits_behind-next out all places worth zero is some h = absurd (some refl)
digits_behind-next out all places worth (suc rest) is some h =
    append_assoc out ((48 + suc rest / worth) ∷ []) (digits_behind places (suc rest % worth))
    ∙ (λ i. out ++ (48 + suc rest / is i) ∷ digits_behind places (suc rest % is i)) ∙ h

-- what was there stays in front
pub take_before :
    (old out more : List ℕ) → take (length old) out ≡ old → take (length old) (out ++ more) ≡ old
take_before old out more h =
    let short : length old ≤ length out =
    omega (arith, length-take (length old) out, ap length h) in
    rw take-append-le h

-- What holds of each item that a loop has seen.
use Rattle.std.proofs.Common.{◌≡◌, ℕ, ◌+◌, ◌<◌, ◌≤◌, ◌∙◌, List, length, get_or, take, sym, ap}
use Rattle.std.proofs.Common.{subst}
use Rattle.std.proofs.Common.{arith}
use Rattle.std.specs.List.{All}
use Rattle.std.proofs.lemmas.List.{take_all}
use Rattle.std.proofs.lemmas.List.Elements.{All-more, All-same}

-- one item more of a slice, which holds the list
pub all-more : {X : Type 0} (P : X → Type 0) (xs slice : List X) (i : ℕ) (x : X) → slice ≡ xs
    → i < length slice → x ≡ get_or slice i x → All P (take i xs) → P x → All P (take (i + 1) xs)
all-more P xs slice i x same within at so_far here =
    let long = ap length same in
    let inside : i < length xs = omega arith in
    let there = at ∙ ap (λ l. get_or l i x) same in
    All-more P xs i x inside so_far (subst P there here)

-- at its end they are all
pub all-seen : {X : Type 0} (P : X → Type 0) (xs slice : List X) (i : ℕ) → slice ≡ xs
    → length slice ≤ i → All P (take i xs) → All P xs
all-seen P xs slice i same past so_far =
    let long = ap length same in
    let end : length xs ≤ i = omega arith in
    All-same P xs (take i xs) (sym (take_all i xs end)) so_far

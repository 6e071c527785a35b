-- For callers that join their seats one after another: what the first seat is told of the threads.
use Rattle.std.proofs.Common.{◌≡◌, ℕ, zero, suc, Option, Some, None, List, [], ◌∷◌, map, set, drop, refl, ap}
use Rattle.std.specs.List.{slice_get, All}
use Rattle.std.specs.Option.{IsSome}
use Rattle.std.proofs.lemmas.List.Elements.{All-cons, All-head, All-nil, All-tail}
use Rattle.cal_book.specs.Views.{joined_accounts}

module _ {A : Type 0} where
  -- one thread more is joined, below those that were joined before
  pub joined-below : (others : List (Option A)) (k : ℕ) (a : A) → All IsSome (drop (suc k) others)
      → All IsSome (drop k (set others k (Some a)))
  joined-below [] zero a all = all
  joined-below [] (suc k) a all = all
  joined-below (o ∷ others) zero a all = All-cons IsSome (Some a) others refl all
  joined-below (o ∷ others) (suc k) a all = joined-below others k a all

  -- where all are joined, the account of a thread stands at its number
  pub joined_accounts-at : (others : List (Option A)) (k : ℕ) (a : A) → All IsSome others
      → slice_get others k ≡ Some (Some a) → slice_get (joined_accounts others) k ≡ Some a
  joined_accounts-at [] k a all at = absurd cc
  joined_accounts-at (None ∷ others) k a all at = absurd (let none = All-head IsSome None others all in cc)
  joined_accounts-at (Some b ∷ others) zero a all at = let one : b ≡ a = cc in ap Some one
  joined_accounts-at (Some b ∷ others) (suc k) a all at =
      joined_accounts-at others k a (All-tail IsSome (Some b) others all) at

  pub joined_accounts-all : (accounts : List A) → joined_accounts (map Some accounts) ≡ accounts
  joined_accounts-all [] = refl
  joined_accounts-all (a ∷ accounts) = ap (λ (xs : List A). a ∷ xs) (joined_accounts-all accounts)

  pub all_joined-all : (accounts : List A) → All IsSome (map Some accounts)
  all_joined-all [] = All-nil IsSome
  all_joined-all (a ∷ accounts) = All-cons IsSome (Some a) (map Some accounts) refl (all_joined-all accounts)

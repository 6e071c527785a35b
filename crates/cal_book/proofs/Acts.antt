-- Who holds the turn or had one, when a thread does something more.
use Rattle.std.proofs.Common.{◌≡◌, ℕ, zero, suc, Option, Some, List, [], ◌∷◌, ◌++◌, set, subst, inl, inr, ⊎_elim}
use Rattle.std.specs.List.{slice_get, All}
use Rattle.std.proofs.lemmas.List.Elements.{All-weaker}
use Rattle.cal_book.specs.declared.view.Account.{Account}
use Rattle.cal_book.specs.Accounts.{HadTurn, ThreadHadTurn}
use Rattle.cal_book.specs.Rule.{HasActed}

module _ {T : Type 0} where
  had-set : (accounts : List (Account T)) (t : ℕ) (a b : Account T) (h : ℕ) → slice_get accounts t ≡ Some a → (HadTurn a → HadTurn b)
      → ThreadHadTurn accounts h → ThreadHadTurn (set accounts t b) h
  had-set [] t a b h at more had = had
  had-set (x ∷ xs) zero a b zero at more had = more (let one : x ≡ a = cc in subst HadTurn one had)
  had-set (x ∷ xs) zero a b (suc h) at more had = had
  had-set (x ∷ xs) (suc t) a b zero at more had = had
  had-set (x ∷ xs) (suc t) a b (suc h) at more had = had-set xs t a b h at more had

  pub had-here : (accounts : List (Account T)) (t : ℕ) (a b : Account T) → slice_get accounts t ≡ Some a → HadTurn b
      → ThreadHadTurn (set accounts t b) t
  had-here [] t a b at had = absurd cc
  had-here (x ∷ xs) zero a b at had = had
  had-here (x ∷ xs) (suc t) a b at had = had-here xs t a b at had

  had-append : (accounts more : List (Account T)) (h : ℕ) → ThreadHadTurn accounts h → ThreadHadTurn (accounts ++ more) h
  had-append [] more h had = elim had [ ]
  had-append (x ∷ xs) more zero had = had
  had-append (x ∷ xs) more (suc h) had = had-append xs more h had

  -- it held a turn: it does still, or has had one now
  pub acted-set : (holder holder' : Option ℕ) (accounts : List (Account T)) (t : ℕ) (a b : Account T) → slice_get accounts t ≡ Some a → (HadTurn a → HadTurn b)
      → ((h : ℕ) → holder ≡ Some h → HasActed holder' (set accounts t b) h)
      → (h : ℕ) → HasActed holder accounts h → HasActed holder' (set accounts t b) h
  acted-set holder holder' accounts t a b at more held h = ⊎_elim (held h) (λ had. inr (had-set accounts t a b h at more had))

  pub acted-append : (holder : Option ℕ) (accounts more : List (Account T)) (h : ℕ) → HasActed holder accounts h → HasActed holder (accounts ++ more) h
  acted-append holder accounts more h = ⊎_elim inl (λ had. inr (had-append accounts more h had))

  -- the same of all turns that an account has met, and that several have
  pub acted-met : (holder holder' : Option ℕ) (accounts accounts' : List (Account T)) → ((h : ℕ) → HasActed holder accounts h → HasActed holder' accounts' h)
      → (hs : List ℕ) → All (HasActed holder accounts) hs → All (HasActed holder' accounts') hs
  acted-met holder holder' accounts accounts' then = All-weaker (HasActed holder accounts) (HasActed holder' accounts') then

  pub acted-all : (holder holder' : Option ℕ) (accounts accounts' : List (Account T)) → ((h : ℕ) → HasActed holder accounts h → HasActed holder' accounts' h)
      → (some : List (Account T)) → All (λ account. All (HasActed holder accounts) account.met) some → All (λ account. All (HasActed holder' accounts') account.met) some
  acted-all holder holder' accounts accounts' then =
      All-weaker (λ account. All (HasActed holder accounts) account.met) (λ account. All (HasActed holder' accounts') account.met)
      (λ account. acted-met holder holder' accounts accounts' then account.met)

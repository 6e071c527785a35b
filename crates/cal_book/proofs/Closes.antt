-- At the end, when each seat was joined.
use Rattle.std.proofs.Common.{◌≡◌, ℕ, Option, Some, None, List, [], ◌∷◌, sym, refl, ap, ◌∙◌, subst, ⊎_elim}
use mathlib.Core.Option.{some, some-injective}
use Rattle.std.specs.List.{slice_get, All}
use Rattle.std.specs.Option.{IsSome}
use Rattle.std.proofs.lemmas.List.Elements.{All-head, All-tail, All-weaker}
use lib.ListN.{get_elem?}
use Rattle.atomic_table.specs.Table.{State, Final, Seen}
use Rattle.cal_book.specs.declared.merging.Merging.{Ghosts as Merging}
use Rattle.cal_book.specs.declared.content.Content.{Content}
use Rattle.cal_book.specs.declared.view.Account.{Account}
use Rattle.cal_book.specs.declared.view.View.{View}
use Rattle.cal_book.specs.Accounts.{ThreadHadTurn}
use Rattle.cal_book.specs.Merges.{IsAccount, all_given}
use Rattle.cal_book.specs.Views.{joined_accounts}
use Rattle.cal_book.specs.Rule.{HasActed, IsTurn, Kept, Thread, accounts_of, told, told_by}
use Rattle.cal_book.specs.Closing.{AllMetHadTurns}
use Rattle.cal_book.proofs.Lists.{All-at, at_mapped}
use Rattle.cal_book.proofs.Totals.{all_given-made}
use Rattle.cal_book.proofs.Seats.{find_first}

module _ {T Q : Type 0} (law : Merging T Q) (q : Q) where
  -- a thread that is told of was joined
  is_gone : (o : Option Q) (a : Account T) → IsSome (told_by o a) → o ≡ None
  is_gone None a there = refl
  is_gone (Some x) a there = absurd cc

  gone_at : (threads : List (Thread T Q)) (n : ℕ) (t : Thread T Q) → All IsSome (told threads)
      → slice_get threads n ≡ Some t → t.view.shape ≡ None
  gone_at threads n t all at = is_gone t.view.shape t.account
      (All-at IsSome (told threads) n (told_by t.view.shape t.account) all (at_mapped (λ (t : Thread T Q). told_by t.view.shape t.account) threads n t at))

  -- then what is told is what all threads have done
  joined_accounts-told : (threads : List (Thread T Q)) → All IsSome (told threads)
      → joined_accounts (told threads) ≡ accounts_of threads
  joined_accounts-told [] all = refl
  joined_accounts-told (x ∷ rest) all =
      let first = told_by x.view.shape x.account in
      let gone = is_gone x.view.shape x.account (All-head IsSome first (told rest) all) in
      ap (λ (o : Option Q). joined_accounts (told_by o x.account ∷ told rest)) gone
      ∙ ap (λ (xs : List (Account T)). x.account ∷ xs) (joined_accounts-told rest (All-tail IsSome first (told rest) all))

  -- what a table is told to be at the end
  pub record Told (table : T) (accounts : List (Account T)) : Type 0 where
    pub same : law.same table (all_given law q accounts)
    pub made : law.made_for q table
    pub given : All (IsAccount law q) accounts
    pub met : AllMetHadTurns accounts

  -- the content that comes out of the closed slot
  pub tells : (words : List ℕ) (contents : List (Content T)) (id : ℕ) (v : View T Q) (content : Content T) → v.shape ≡ Some q → v.thread ≡ None
      → All IsSome v.others → Final (Seen (Kept law q) id v) words contents → get_elem? contents 0 ≡ some content
      → Told content.table (joined_accounts v.others)
  tells words contents id v content live first all last out = by_turn k.holder refl k.turn
    where
      s : State (Content T) (View T Q)
      s = last.0

      k : Kept law q s
      k = last.1.0

      others : told k.threads ≡ v.others
      others = ap (λ (x : View T Q). x.others) (find_first law q s k id v last.1.1 live first).1

      all_told : All IsSome (told k.threads)
      all_told = subst (All IsSome) (sym others) all

      are : joined_accounts v.others ≡ accounts_of k.threads
      are = ap joined_accounts (sym others) ∙ joined_accounts-told k.threads all_told

      by_turn : (holder : Option ℕ) → k.holder ≡ holder → IsTurn law q s.homes k.threads holder → Told content.table (joined_accounts v.others)
      by_turn None nobody free =
          let there = last.4 0 free.content (ap (λ hs. get_elem? hs 0) free.home) in
          let one : free.content ≡ content = some-injective free.content content (sym there ∙ out) in
          subst (λ (x : Content T). Told x.table (joined_accounts v.others)) one (subst (Told free.content.table) (sym are) record {
            same = free.agrees.same;
            made = law.same_made q _ _ (law.same_sym _ _ free.agrees.same) (all_given-made law q (accounts_of k.threads) k.lawful);
            given = k.lawful;
            met = All-weaker (λ account. All (HasActed k.holder (accounts_of k.threads)) account.met) (λ account. All (ThreadHadTurn (accounts_of k.threads)) account.met)
                (λ account. All-weaker (HasActed k.holder (accounts_of k.threads)) (ThreadHadTurn (accounts_of k.threads)) (λ h. ⊎_elim (λ holds. absurd cc) (λ had. had)) account.met)
                (accounts_of k.threads) k.met;
          })
      by_turn (Some n) holds held = let none = gone_at k.threads n held.thread all_told held.at in let some_shape = held.live in absurd cc

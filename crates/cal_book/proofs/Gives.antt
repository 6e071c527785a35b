-- The store of 0 into the word by the seat that holds the turn: the slot is filled again.
use Rattle.std.proofs.Common.{◌≡◌, ◌≢◌, ℕ, Some, None, List, [], ◌∷◌, ◌++◌, set, sym, refl, ap, ◌∙◌, subst, inl, inr, ⊎_elim, arith}
use mathlib.Core.Option.{none, some}
use mathlib.Core.Option.{Option as Home}
use Rattle.std.specs.List.{All}
use Rattle.atomic_table.specs.Table.{State, step, gives, homes_after, rest, Allows}
use Rattle.cal_book.specs.declared.merging.Merging.{Ghosts as Merging}
use Rattle.cal_book.specs.declared.content.Content.{Content}
use Rattle.cal_book.specs.declared.view.Account.{Account}
use Rattle.cal_book.specs.declared.view.Turn.{Turn}
use Rattle.cal_book.specs.declared.view.View.{View}
use Rattle.cal_book.specs.Accounts.{HadTurn}
use Rattle.cal_book.specs.Merges.{IsAccount}
use Rattle.cal_book.specs.Contents.{Agrees}
use Rattle.cal_book.specs.Views.{giving, giving_up}
use Rattle.cal_book.specs.Rule.{HasActed, IsHeld, IsTurn, accounts_of}
use Rattle.cal_book.specs.Steps.{Mine}
use Rattle.cal_book.specs.Steps.{gives as tells_gift, gives_up as tells_none}
use Rattle.cal_book.specs.Turns.{Carries, Filled}
use Rattle.cal_book.proofs.Lists.{All-at}
use Rattle.cal_book.proofs.Totals.{more_lawful}
use Rattle.cal_book.proofs.Counts.{agrees-same, agrees-more, few_taken_in}
use Rattle.cal_book.proofs.Acts.{acted-met, acted-set, had-here}
use Rattle.cal_book.proofs.Moves.{Found, Moves, Rule, accounts_after, at_account, find, moved, seated}

module _ {T Q : Type 0} (law : Merging T Q) (q : Q) where
  module _ (s : State (Content T) (View T Q)) (k : Rule law q s) (id n : ℕ) (v : View T Q) (live : v.shape ≡ Some q) (number : v.thread ≡ Some n) (f : Found law q s k id n v) where
    abbrev accounts : List (Account T)
    accounts = accounts_of k.threads

    module _ (turn : Turn T) (busy : v.turn ≡ Some turn) where
      holds_it : k.holder ≡ Some n
      holds_it = ⊎_elim (λ holds. holds) (λ idle. absurd cc) f.idle

      held_by : IsHeld law q s.homes k.threads n
      held_by = subst (IsTurn law q s.homes k.threads) holds_it k.turn

      -- the copy that the seat took agrees with what threads have done since
      copy_agrees : Agrees law q turn.copy accounts
      copy_agrees =
          let held = held_by in
          let here : held.thread ≡ seated v = (let e = held.at in let g = f.at in cc) in
          let same : held.turn ≡ turn = (let e = ap (λ t. t.view.turn) here in let g = held.turn_is in cc) in
          subst (λ (x : Turn T). Agrees law q x.copy accounts) same held.agrees

      -- the seat fills the slot with a content that agrees with what it has done then
      back : (w : View T Q) (content : Content T) (carried : List (ℕ × Content T)) → carried ≡ (0, content) ∷ [] → w.shape ≡ Some q → w.thread ≡ Some n → w.turn ≡ None
          → w.account.met ≡ v.account.met → IsAccount law q w.account → HadTurn w.account → Agrees law q content (set accounts n w.account)
          → Moves law q s k n w None (homes_after s.homes carried gives)
      back w content carried out shape is over met lawful had agrees =
          let there = at_account k.threads n v f.at in
          let then : (h : ℕ) → HasActed k.holder accounts h → HasActed None (set accounts n w.account) h =
          acted-set k.holder None accounts n v.account w.account there (λ _. had)
          (λ h holds. let same : n ≡ h = (let e = holds_it in cc) in subst (HasActed None (set accounts n w.account)) same (inr (had-here accounts n v.account w.account there had))) in
          record {
            shape = shape;
            number = is;
            lawful = lawful;
            idle = inr over;
            others = λ j other holds. (let e = holds_it in let same : j ≡ n = cc in absurd (other same));
            turn = record {
              content = content;
              home = ap (λ (xs : List (ℕ × Content T)). homes_after s.homes xs gives) out ∙ ap (λ (hs : List (Home (Content T))). set hs 0 (some content)) held_by.home;
              agrees = subst (Agrees law q content) (sym (accounts_after k.threads n w)) agrees;
            };
            acted = then;
            met = subst (All (HasActed None (set accounts n w.account))) (sym met)
                (acted-met k.holder None accounts (set accounts n w.account) then v.account.met
                (All-at (λ account. All (HasActed k.holder accounts) account.met) accounts n v.account k.met there));
          }

  none_left : (xs : List T) (p : T) → xs ++ p ∷ [] ≢ []
  none_left [] p e = cc
  none_left (x ∷ xs) p e = cc

  pub allows_give : (slots id n : ℕ) (part : T) (me : Mine T Q) → me.0.shape ≡ Some q → Filled law q n part me
      → Allows (Rule law q) slots id me 0 (λ _. 0) (λ _. tells_gift (step slots 0 0 0 none) me 0)
  allows_give slots id n part me live filled s k long at small =
      let v : View T Q = me.0 in
      let turn : Turn T = record { copy = filled.copy; part = part } in
      let f = find law q s k id n v at live filled.thread_is in
      let there = at_account k.threads n v f.at in
      let accounts : List (Account T) = accounts_of k.threads in
      let lawful = All-at (IsAccount law q) accounts n v.account k.lawful there in
      let agrees = copy_agrees s k id n v live filled.thread_is f turn filled.turn_is in
      let few = few_taken_in law q filled.copy accounts n v.account part there agrees filled.may in
      let w : View T Q = giving part v in (
        w,
        gives,
        tt,
        moved law q s k id n v w live f None (set s.words 0 0) (homes_after s.homes me.1 gives) (ap (λ (ws : List ℕ). set ws 0 0) k.word_is)
            (back s k id n v live filled.thread_is f turn filled.turn_is w filled.content me.1 filled.out live filled.thread_is refl refl
            (more_lawful law q v.account part lawful filled.may.part_made few) (inl (none_left v.account.given part))
            (agrees-more law q filled.copy filled.content accounts n v.account part k.lawful there filled.may.is_thread filled.may.part_made filled.taken agrees)),
        λ u is. (let same : turn ≡ u = (let e = filled.turn_is in cc) in
            (λ i. (giving (same i).part v, rest (filled.out i)))),
      )

  pub allows_give_up : (slots id n : ℕ) (part : T) (me : Mine T Q) → me.0.shape ≡ Some q → Carries law q n part me
      → Allows (Rule law q) slots id me 0 (λ _. 0) (λ _. tells_none (step slots 0 0 0 none) me 0)
  allows_give_up slots id n part me live carries s k long at small =
      let v : View T Q = me.0 in
      let turn : Turn T = record { copy = carries.copy; part = part } in
      let f = find law q s k id n v at live carries.thread_is in
      let there = at_account k.threads n v f.at in
      let accounts : List (Account T) = accounts_of k.threads in
      let lawful = All-at (IsAccount law q) accounts n v.account k.lawful there in
      let agrees = copy_agrees s k id n v live carries.thread_is f turn carries.turn_is in
      let w : View T Q = giving_up v in (
        w,
        gives,
        tt,
        moved law q s k id n v w live f None (set s.words 0 0) (homes_after s.homes me.1 gives) (ap (λ (ws : List ℕ). set ws 0 0) k.word_is)
            (back s k id n v live carries.thread_is f turn carries.turn_is w carries.copy me.1 carries.out live carries.thread_is refl refl
            record { made = lawful.made; few = lawful.few } (inr (omega arith))
            (agrees-same law q carries.copy accounts n v.account w.account there refl agrees)),
        λ i. (w, rest (carries.out i)),
      )

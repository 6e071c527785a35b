-- The steps of a thread's seat: it is found in a state, and the rule is built again round what it
-- does.
use Rattle.std.proofs.Common.{◌≡◌, ◌≢◌, ◌⊎◌, ℕ, zero, suc, Option, Some, None, List, [], ◌∷◌, set, sym, refl, ap, ◌∙◌, subst, inl, inr, ⊎_elim, arith, length-set}
use mathlib.Core.Option.{some}
use mathlib.Core.Option.{Option as Home}
use Rattle.std.specs.List.{slice_get, All}
use Rattle.std.proofs.Math.Seq.{map-set_same}
use Rattle.std.proofs.lemmas.List.{map-set}
use Rattle.std.proofs.lemmas.List.Elements.{All-set}
use Rattle.std.proofs.lemmas.Option.{get_or_from_slice_get}
use lib.ListN.{get_elem?}
use Rattle.atomic_table.specs.Table.{State}
use Rattle.cal_book.specs.declared.merging.Merging.{Ghosts as Merging}
use Rattle.cal_book.specs.declared.content.Content.{Content}
use Rattle.cal_book.specs.declared.view.Account.{Account}
use Rattle.cal_book.specs.declared.view.View.{View}
use Rattle.cal_book.specs.Merges.{IsAccount}
use Rattle.cal_book.specs.Views.{first_with}
use Rattle.cal_book.specs.Rule.{HasActed, IsTurn, Kept, Sits, Thread, accounts_of, told, told_by, views_of, word_of}
use Rattle.cal_book.proofs.Lists.{at_map, at_mapped, at_set, from_place}
use Rattle.cal_book.proofs.Acts.{acted-all}

module _ {T Q : Type 0} where
  abbrev pub seated : View T Q → Thread T Q
  seated v = record { view = v; account = v.account }

  -- what was done at the place of a thread that is seated
  pub at_account : (threads : List (Thread T Q)) (n : ℕ) (v : View T Q) → slice_get threads n ≡ Some (seated v)
      → slice_get (accounts_of threads) n ≡ Some v.account
  at_account threads n v at = at_mapped (λ (t : Thread T Q). t.account) threads n (seated v) at

  pub accounts_after : (threads : List (Thread T Q)) (n : ℕ) (w : View T Q)
      → accounts_of (set threads n (seated w)) ≡ set (accounts_of threads) n w.account
  accounts_after threads n w = map-set (λ (t : Thread T Q). t.account) threads n (seated w)

module _ {T Q : Type 0} (law : Merging T Q) (q : Q) where
  abbrev pub Rule : State (Content T) (View T Q) → Type 0
  Rule = Kept law q

  -- the seat of the thread n, found in a state
  pub record Found (s : State (Content T) (View T Q)) (k : Rule s) (id n : ℕ) (v : View T Q) : Type 0 where
    pub id_is : id ≡ suc n
    pub at : slice_get k.threads n ≡ Some (seated v)
    pub idle : (k.holder ≡ Some n) ⊎ (v.turn ≡ None)

  found_at : (s : State (Content T) (View T Q)) (k : Rule s) (id n : ℕ) (v : View T Q)
      → slice_get (first_with q (told k.threads) ∷ views_of k.threads) id ≡ Some v
      → v.shape ≡ Some q → v.thread ≡ Some n → Found s k id n v
  found_at s k zero n v at live is =
      let one : first_with q (told k.threads) ≡ v = cc in
      let first : v.thread ≡ None = ap (λ (x : View T Q). x.thread) (sym one) in
      absurd cc
  found_at s k (suc t) n v at live is =
      let there = at_map (λ (x : Thread T Q). x.view) k.threads t v at in
      let shape : there.0.view.shape ≡ Some q = ap (λ (x : View T Q). x.shape) there.2 ∙ live in
      ⊎_elim (λ gone. absurd cc)
      (λ sits.
      let number : v.thread ≡ Some t = ap (λ (x : View T Q). x.thread) (sym there.2) ∙ sits.thread_is in
      let same : t ≡ n = cc in
      let account : there.0.account ≡ v.account = sym sits.account_is ∙ ap (λ (x : View T Q). x.account) there.2 in
      let it : there.0 ≡ seated v = λ i. record { view = there.2 i; account = account i } in
      record {
        id_is = ap suc same;
        at = ap (slice_get k.threads) (sym same) ∙ there.1 ∙ ap Some it;
        idle = ⊎_elim (λ holds. inl (holds ∙ ap Some same)) (λ idle. inr (ap (λ (x : View T Q). x.turn) (sym there.2) ∙ idle)) sits.idle;
      })
      (k.seats t there.0 there.1)

  pub find : (s : State (Content T) (View T Q)) (k : Rule s) (id n : ℕ) (v : View T Q) → get_elem? s.views id ≡ some v
      → v.shape ≡ Some q → v.thread ≡ Some n → Found s k id n v
  find s k id n v at live is = found_at s k id n v (ap (λ (vs : List (View T Q)). slice_get vs id) (sym k.views_are) ∙ from_place s.views id v at) live is

  -- what the seat of thread n, which knows w now, has to show: who holds the turn now, and that the
  -- rest of the rule is as it was
  pub record Moves (s : State (Content T) (View T Q)) (k : Rule s) (n : ℕ) (w : View T Q) (holder : Option ℕ) (homes : List (Home (Content T))) : Type 0 where
    pub shape : w.shape ≡ Some q
    pub number : w.thread ≡ Some n
    pub lawful : IsAccount law q w.account
    pub idle : (holder ≡ Some n) ⊎ (w.turn ≡ None)
    pub others : (j : ℕ) → j ≢ n → k.holder ≡ Some j → holder ≡ Some j
    pub turn : IsTurn law q homes (set k.threads n (seated w)) holder
    pub acted : (h : ℕ) → HasActed k.holder (accounts_of k.threads) h → HasActed holder (set (accounts_of k.threads) n w.account) h
    pub met : All (HasActed holder (set (accounts_of k.threads) n w.account)) w.account.met

  pub moved : (s : State (Content T) (View T Q)) (k : Rule s) (id n : ℕ) (v w : View T Q) → v.shape ≡ Some q → Found s k id n v
      → (holder : Option ℕ) (words : List ℕ) (homes : List (Home (Content T))) → words ≡ word_of holder ∷ []
      → Moves s k n w holder homes → Rule record { words = words; homes = homes; views = set s.views id w }
  moved s k id n v w live f holder words homes is m =
      let threads : List (Thread T Q) = set k.threads n (seated w) in
      let accounts : List (Account T) = set (accounts_of k.threads) n w.account in
      let are = accounts_after k.threads n w in
      let told_of : Thread T Q → Option (Account T) = λ t. told_by t.view.shape t.account in
      let untold : told_of (seated w) ≡ told_of (seated v) = ap (λ (o : Option Q). told_by o w.account) m.shape ∙ sym (ap (λ (o : Option Q). told_by o v.account) live) in
      let told_again : told threads ≡ told k.threads = map-set_same told_of k.threads n (seated w) (seated v)
      (untold ∙ ap told_of (sym (get_or_from_slice_get k.threads n (seated v) (seated v) f.at))) in
      let views : views_of threads ≡ set (views_of k.threads) n w = map-set (λ (t : Thread T Q). t.view) k.threads n (seated w) in
      let few = k.few in
      let long = length-set k.threads n (seated w) in
      record {
        holder = holder;
        threads = threads;
        word_is = is;
        views_are = (λ i. set (k.views_are i) (f.id_is i) w) ∙ sym (λ i. first_with q (told_again i) ∷ views i);
        few = omega arith;
        seats = λ j t at. ⊎_elim
            (λ here. inr (subst (Sits q holder j) here.1 record {
              shape_is = m.shape;
              thread_is = m.number ∙ ap Some (sym here.0);
              account_is = refl;
              idle = ⊎_elim (λ holds. inl (holds ∙ ap Some (sym here.0))) inr m.idle;
            }))
            (λ other. ⊎_elim inl (λ sits. inr record {
              shape_is = sits.shape_is;
              thread_is = sits.thread_is;
              account_is = sits.account_is;
              idle = ⊎_elim (λ holds. inl (m.others j other.0 holds)) inr sits.idle;
            }) (k.seats j t other.1))
            (at_set k.threads n j (seated w) t at);
        lawful = subst (All (IsAccount law q)) (sym are) (All-set (IsAccount law q) (accounts_of k.threads) n w.account m.lawful k.lawful);
        turn = m.turn;
        met = subst (λ (xs : List (Account T)). All (λ account. All (HasActed holder xs) account.met) xs) (sym are)
            (All-set (λ account. All (HasActed holder accounts) account.met) (accounts_of k.threads) n w.account m.met
            (acted-all k.holder holder (accounts_of k.threads) accounts m.acted (accounts_of k.threads) k.met));
      }

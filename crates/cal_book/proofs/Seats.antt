-- A cell begins; a seat is split off, and joined again.
use Rattle.std.proofs.Common.{◌≡◌, ◌≢◌, ℕ, zero, suc, ◌<◌, ◌≤◌, Option, Some, None, List, [], ◌∷◌, ◌++◌, length, replicate, set, sym, refl, ap, ◌∙◌, subst, inl, inr, ⊎_elim, arith, length-set, length-append}
use mathlib.Core.Option.{some}
use Rattle.std.specs.List.{slice_get, All}
use Rattle.std.proofs.Math.ListN.{length-replicate, get_or-replicate}
use Rattle.std.proofs.lemmas.List.{length-map, map-append, map-set}
use Rattle.std.proofs.lemmas.List.Elements.{All-nil, All-push}
use lib.ListN.{get_elem?}
use Rattle.atomic_table.specs.Table.{State, opening, Splits, Joins}
use Rattle.atomic_table.proofs.Lists as places
use Rattle.cal_book.specs.declared.merging.Merging.{Ghosts as Merging}
use Rattle.cal_book.specs.declared.content.Content.{Content}
use Rattle.cal_book.specs.declared.content.Numbers.{Numbers}
use Rattle.cal_book.specs.declared.view.Account.{Account}
use Rattle.cal_book.specs.declared.view.View.{View}
use Rattle.cal_book.specs.Accounts.{blank}
use Rattle.cal_book.specs.Merges.{IsAccount}
use Rattle.cal_book.specs.Contents.{Agrees, no_numbers, numbers_at}
use Rattle.cal_book.specs.Views.{first_with, first_seat, split_off, new_seat, joined, with_account, spent}
use Rattle.cal_book.specs.Rule.{HasActed, IsTurn, Sits, Thread, accounts_of, told, told_by, views_of}
use Rattle.cal_book.proofs.Lists.{at_end, at_longer, at_map, at_set, from_place, set_again, set_else}
use Rattle.cal_book.proofs.Counts.{agrees-blank}
use Rattle.cal_book.proofs.Acts.{acted-all, acted-append}
use Rattle.cal_book.proofs.Moves.{Found, Rule, at_account, find, seated}

module _ {T Q : Type 0} (law : Merging T Q) (q : Q) where
  abbrev R : State (Content T) (View T Q) → Type 0
  R = Rule law q

  pub opens : (content : Content T) → law.same content.table (law.empty q) → content.numbers ≡ replicate 64 no_numbers
      → R (opening (0 ∷ []) (content ∷ []) (first_seat q))
  opens content empty numbers = record {
    holder = None;
    threads = [];
    word_is = refl;
    views_are = refl;
    few = omega arith;
    seats = λ n t at. absurd cc;
    lawful = All-nil (IsAccount law q);
    turn = record {
      content = content;
      home = refl;
      agrees = record {
        same = empty;
        long = ap length numbers ∙ length-replicate 64 no_numbers;
        numbers = λ t small. ap (λ (ns : List Numbers). numbers_at ns t) numbers ∙ get_or-replicate 64 t no_numbers no_numbers small;
      };
    };
    met = All-nil (λ (account : Account T). All (HasActed {T = T} None []) account.met);
  }

  -- the first seat, found in a state
  is_first : (s : State (Content T) (View T Q)) (k : R s) (id : ℕ) (v : View T Q)
      → slice_get (first_with q (told k.threads) ∷ views_of k.threads) id ≡ Some v
      → v.shape ≡ Some q → v.thread ≡ None → (id ≡ 0) × (first_with q (told k.threads) ≡ v)
  is_first s k zero v at live first = let one : first_with q (told k.threads) ≡ v = cc in (refl, one)
  is_first s k (suc t) v at live first =
      let there = at_map (λ (x : Thread T Q). x.view) k.threads t v at in
      let shape : there.0.view.shape ≡ Some q = ap (λ (x : View T Q). x.shape) there.2 ∙ live in
      let none : there.0.view.thread ≡ None = ap (λ (x : View T Q). x.thread) there.2 ∙ first in
      ⊎_elim (λ gone. absurd cc) (λ sits. let is = sits.thread_is in absurd cc) (k.seats t there.0 there.1)

  pub find_first : (s : State (Content T) (View T Q)) (k : R s) (id : ℕ) (v : View T Q) → get_elem? s.views id ≡ some v
      → v.shape ≡ Some q → v.thread ≡ None → (id ≡ 0) × (first_with q (told k.threads) ≡ v)
  find_first s k id v at live first = is_first s k id v (ap (λ (vs : List (View T Q)). slice_get vs id) (sym k.views_are) ∙ from_place s.views id v at) live first

  pub allows_split : (threads id : ℕ) (v : View T Q) → threads ≤ 64 → v.shape ≡ Some q → v.thread ≡ None → length v.others < threads
      → Splits R id v (split_off v) (new_seat v)
  allows_split threads id v few live first some_left s k at =
      let f = find_first s k id v at live first in
      let new : Thread T Q = record { view = new_seat v; account = blank } in
      let later : List (Thread T Q) = k.threads ++ new ∷ [] in
      let accounts : List (Account T) = accounts_of k.threads in
      let are : accounts_of later ≡ accounts ++ blank ∷ [] = map-append (λ (t : Thread T Q). t.account) k.threads (new ∷ []) in
      let untold : told later ≡ told k.threads ++ None ∷ [] = map-append (λ (t : Thread T Q). told_by t.view.shape t.account) k.threads (new ∷ [])
      ∙ ap (λ (o : Option Q). told k.threads ++ told_by o (blank {T = T}) ∷ []) live in
      let views : views_of later ≡ views_of k.threads ++ new_seat v ∷ [] = map-append (λ (t : Thread T Q). t.view) k.threads (new ∷ []) in
      let others : told k.threads ≡ v.others = ap (λ (x : View T Q). x.others) f.1 in
      let long = length-append k.threads (new ∷ []) in
      let count : length v.others ≡ length k.threads = ap length (sym others) ∙ length-map k.threads (λ (t : Thread T Q). told_by t.view.shape t.account) in
      let then : (h : ℕ) → HasActed k.holder accounts h → HasActed k.holder (accounts ++ blank ∷ []) h = acted-append k.holder accounts (blank ∷ []) in
      record {
        holder = k.holder;
        threads = later;
        word_is = k.word_is;
        views_are = (λ i. set (k.views_are i) (f.0 i) (split_off v) ++ new_seat v ∷ [])
            ∙ ap (λ (x : View T Q). split_off x ∷ views_of k.threads ++ new_seat v ∷ []) (sym f.1)
            ∙ sym (λ i. first_with q (untold i) ∷ views i);
        few = omega arith;
        seats = λ j t here. ⊎_elim (k.seats j t)
            (λ last. inr (subst (Sits q k.holder j) last.0 record {
              shape_is = live;
              thread_is = ap Some (count ∙ sym last.1);
              account_is = refl;
              idle = inr refl;
            }))
            (at_end k.threads new t j here);
        lawful = subst (All (IsAccount law q)) (sym are)
            (All-push (IsAccount law q) accounts blank k.lawful record { made = All-nil (law.made_for q); few = omega arith });
        turn = by_turn new k.holder k.turn;
        met = subst (λ (xs : List (Account T)). All (λ account. All (HasActed k.holder xs) account.met) xs) (sym are)
            (All-push (λ account. All (HasActed k.holder (accounts ++ blank ∷ [])) account.met) accounts blank
            (acted-all k.holder k.holder accounts (accounts ++ blank ∷ []) then accounts k.met)
            (All-nil (HasActed k.holder (accounts ++ blank ∷ []))));
      }
    where
      more : (content : Content T) → Agrees law q content (accounts_of k.threads)
          → Agrees law q content (accounts_of (k.threads ++ record { view = new_seat v; account = blank } ∷ []))
      more content agrees = subst (Agrees law q content)
          (sym (map-append (λ (t : Thread T Q). t.account) k.threads (record { view = new_seat v; account = blank } ∷ [])))
          (agrees-blank law q content (accounts_of k.threads) k.lawful agrees)

      by_turn : (new : Thread T Q) (holder : Option ℕ) → IsTurn law q s.homes k.threads holder → IsTurn law q s.homes (k.threads ++ record { view = new_seat v; account = blank } ∷ []) holder
      by_turn new None free = record { content = free.content; home = free.home; agrees = more free.content free.agrees }
      by_turn new (Some n) held = record {
        home = held.home;
        thread = held.thread;
        at = at_longer k.threads (record { view = new_seat v; account = blank } ∷ []) n held.thread held.at;
        live = held.live;
        turn = held.turn;
        turn_is = held.turn_is;
        agrees = more held.turn.copy held.agrees;
      }

  -- a seat of some thread, where it isn't the first one
  record Other (s : State (Content T) (View T Q)) (k : R s) (id : ℕ) (w : View T Q) : Type 0 where
    n : ℕ
    is : w.thread ≡ Some n
    found : Found law q s k id n w

  other_at : (s : State (Content T) (View T Q)) (k : R s) (id : ℕ) (w : View T Q)
      → slice_get (first_with q (told k.threads) ∷ views_of k.threads) id ≡ Some w → get_elem? s.views id ≡ some w
      → w.shape ≡ Some q → id ≢ 0 → Other s k id w
  other_at s k zero w at there live ne = absurd (ne refl)
  other_at s k (suc t) w at there live ne =
      let it = at_map (λ (x : Thread T Q). x.view) k.threads t w at in
      let shape : it.0.view.shape ≡ Some q = ap (λ (x : View T Q). x.shape) it.2 ∙ live in
      ⊎_elim (λ gone. absurd cc)
      (λ sits. let is : w.thread ≡ Some t = ap (λ (x : View T Q). x.thread) (sym it.2) ∙ sits.thread_is in
      record { n = t; is = is; found = find law q s k (suc t) t w there live is })
      (k.seats t it.0 it.1)

  pub allows_join : (id : ℕ) (v : View T Q) (other : ℕ) (w : View T Q) → v.shape ≡ Some q → v.thread ≡ None → w.shape ≡ Some q → w.turn ≡ None
      → Joins R id v other w (joined v w) spent
  allows_join id v other w live first live_other idle s k at apart there =
      let f = find_first s k id v at live first in
      let at_other : get_elem? s.views other ≡ some w = sym (places.set_else s.views id other (joined v w) apart) ∙ there in
      let in_views = ap (λ (vs : List (View T Q)). slice_get vs other) (sym k.views_are) ∙ from_place s.views other w at_other in
      joins f (other_at s k other w in_views at_other live_other (λ e. apart (e ∙ sym f.0)))
    where
      joins : (id ≡ 0) × (first_with q (told k.threads) ≡ v) → Other s k other w
          → R record { words = s.words; homes = s.homes; views = set (set s.views id (joined v w)) other spent }
      joins f o =
          let n : ℕ = o.n in
          let now_told : told later ≡ set (told k.threads) n (Some w.account) = map-set (λ (t : Thread T Q). told_by t.view.shape t.account) k.threads n gone in
          let views : views_of later ≡ set (views_of k.threads) n spent = map-set (λ (t : Thread T Q). t.view) k.threads n gone in
          let long = length-set k.threads n gone in
          let few = k.few in
          record {
            holder = k.holder;
            threads = later;
            word_is = k.word_is;
            views_are = (λ i. set (set (k.views_are i) (f.0 i) (joined v w)) (o.found.id_is i) spent)
                ∙ ap (λ (x : View T Q). joined x w ∷ set (views_of k.threads) n spent) (sym f.1)
                ∙ ap (λ (t : Option ℕ). first_with q (with_account (told k.threads) t w.account) ∷ set (views_of k.threads) n spent) o.is
                ∙ sym (λ i. first_with q (now_told i) ∷ views i);
            few = omega arith;
            seats = λ j t here. ⊎_elim (λ m. inl (ap (λ (x : Thread T Q). x.view.shape) (sym m.1))) (λ m. k.seats j t m.1) (at_set k.threads n j gone t here);
            lawful = subst (All (IsAccount law q)) (sym same) k.lawful;
            turn = by_turn k.holder k.turn;
            met = subst (λ (xs : List (Account T)). All (λ account. All (HasActed k.holder xs) account.met) xs) (sym same) k.met;
          }
        where
          gone : Thread T Q
          gone = record { view = spent; account = w.account }

          later : List (Thread T Q)
          later = set k.threads o.n gone

          -- what the thread has done stays
          same : accounts_of later ≡ accounts_of k.threads
          same = map-set (λ (t : Thread T Q). t.account) k.threads o.n gone
              ∙ set_again (accounts_of k.threads) o.n w.account (at_account k.threads o.n w o.found.at)

          by_turn : (holder : Option ℕ) → IsTurn law q s.homes k.threads holder → IsTurn law q s.homes later holder
          by_turn None free = record { content = free.content; home = free.home; agrees = subst (Agrees law q free.content) (sym same) free.agrees }
          by_turn (Some m) held =
              let another : m ≢ o.n = λ e.
              (let g = o.found.at in
              let h = held.at in
              let here : held.thread ≡ seated w = cc in
              let turn = ap (λ (t : Thread T Q). t.view.turn) here in
              let busy = held.turn_is in
              absurd cc) in
              record {
                home = held.home;
                thread = held.thread;
                at = set_else k.threads o.n m gone another ∙ held.at;
                live = held.live;
                turn = held.turn;
                turn_is = held.turn_is;
                agrees = subst (Agrees law q held.turn.copy) (sym same) held.agrees;
              }

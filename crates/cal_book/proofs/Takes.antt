-- The exchange of the word against 0 by a thread's seat: it gets the turn, or meets one.
use Rattle.std.proofs.Common.{◌≡◌, ◌≢◌, ℕ, ◌+◌, ◌≤◌, ◌^◌, Option, Some, None, List, [], ◌∷◌, eqb, get_or, set, sym, refl, ap, ◌∙◌, subst, inl, inr, arith}
use Rattle.std.proofs.lemmas.List.{length-map}
use mathlib.Core.Option.{none, some, some-injective}
use mathlib.Core.Option.{Option as Home}
use prog.Atomic.{either}
use Rattle.std.specs.List.{All, sum_by}
use Rattle.std.proofs.lemmas.List.Elements.{All-push}
use Rattle.std.proofs.lemmas.Option.{slice_get_within}
use lib.ListN.{get_elem?}
use Rattle.atomic_table.specs.Table.{State, step, Act, Valid, stepped, carried_after, keeps, takes, Allows}
use Rattle.atomic_table.proofs.Lists.{exchanged}
use Rattle.cal_book.specs.declared.merging.Merging.{Ghosts as Merging}
use Rattle.cal_book.specs.declared.content.Content.{Content}
use Rattle.cal_book.specs.declared.view.Account.{Account}
use Rattle.cal_book.specs.declared.view.View.{View}
use Rattle.cal_book.specs.Merges.{IsAccount}
use Rattle.cal_book.specs.Contents.{Agrees, MayTakeIn}
use Rattle.cal_book.specs.Views.{marking, meeting}
use Rattle.cal_book.specs.Rule.{HasActed, IsFree, IsHeld, IsTurn, Thread, accounts_of, word_of}
use Rattle.cal_book.specs.Steps.{Mine, Won}
use Rattle.cal_book.specs.Steps.{takes as tells}
use Rattle.cal_book.proofs.Lists.{All-at, set_else, set_here, set_again}
use Rattle.cal_book.proofs.Counts.{agrees-same, may_take_in}
use Rattle.cal_book.proofs.Acts.{acted-met, acted-set}
use Rattle.cal_book.proofs.Moves.{Found, Moves, Rule, accounts_after, at_account, find, moved, seated}

module _ {T Q : Type 0} (law : Merging T Q) (q : Q) where
  module _ (s : State (Content T) (View T Q)) (k : Rule law q s) (id n : ℕ) (v : View T Q) (live : v.shape ≡ Some q) (number : v.thread ≡ Some n) (f : Found law q s k id n v) where
    abbrev accounts : List (Account T)
    accounts = accounts_of k.threads

    abbrev words_after : (m : ℕ) → set s.words 0 m ≡ m ∷ []
    words_after m = ap (λ (ws : List ℕ). set ws 0 m) k.word_is

    -- the word is 0: the seat gets the turn, with a copy of the content
    won : (part : T) → k.holder ≡ None → (free : IsFree law q s.homes k.threads)
        → Moves law q s k n (marking free.content part v) (Some n) (set s.homes 0 none)
    won part nobody free =
        let w : View T Q = marking free.content part v in
        let there = at_account k.threads n v f.at in
        let same : set accounts n w.account ≡ accounts = set_again accounts n v.account there in
        let then : (h : ℕ) → HasActed k.holder accounts h → HasActed (Some n) (set accounts n w.account) h =
        acted-set k.holder (Some n) accounts n v.account w.account there (λ had. had) (λ h holds. absurd cc) in
        record {
          shape = live;
          number = number;
          lawful = All-at (IsAccount law q) accounts n v.account k.lawful there;
          idle = inl refl;
          others = λ j other holds. absurd cc;
          turn = record {
            home = ap (λ (hs : List (Home (Content T))). set hs 0 none) free.home;
            thread = seated w;
            at = set_here k.threads n (seated v) (seated w) f.at;
            live = live;
            turn = record { copy = free.content; part = part };
            turn_is = refl;
            agrees = subst (Agrees law q free.content) (sym (accounts_after k.threads n w ∙ same)) free.agrees;
          };
          acted = then;
          met = acted-met k.holder (Some n) accounts (set accounts n w.account) then v.account.met
              (All-at (λ account. All (HasActed k.holder accounts) account.met) accounts n v.account k.met there);
        }

    -- the word is another thread's: the seat meets its turn
    lost : (m : ℕ) → k.holder ≡ Some m → (held : IsHeld law q s.homes k.threads m) → m ≢ n → v.turn ≡ None
        → Moves law q s k n (meeting m v) k.holder s.homes
    lost m holds held another idle =
        let w : View T Q = meeting m v in
        let there = at_account k.threads n v f.at in
        let then : (h : ℕ) → HasActed k.holder accounts h → HasActed k.holder (set accounts n w.account) h =
        acted-set k.holder k.holder accounts n v.account w.account there (λ had. had) (λ h here. inl here) in
        let lawful = All-at (IsAccount law q) accounts n v.account k.lawful there in
        record {
          shape = live;
          number = number;
          lawful = record { made = lawful.made; few = lawful.few };
          idle = inr idle;
          others = λ j other here. here;
          turn = subst (IsTurn law q s.homes (set k.threads n (seated w))) (sym holds) record {
            home = held.home;
            thread = held.thread;
            at = set_else k.threads n m (seated w) another ∙ held.at;
            live = held.live;
            turn = held.turn;
            turn_is = held.turn_is;
            agrees = subst (Agrees law q held.turn.copy) (sym (accounts_after k.threads n w))
                (agrees-same law q held.turn.copy accounts n v.account w.account there refl held.agrees);
          };
          acted = then;
          met = All-push (HasActed k.holder (set accounts n w.account)) v.account.met m
              (acted-met k.holder k.holder accounts (set accounts n w.account) then v.account.met
              (All-at (λ account. All (HasActed k.holder accounts) account.met) accounts n v.account k.met there))
              (inl holds);
        }

  -- the state in which the word was found, and the one after it
  abbrev found_in : State (Content T) (View T Q) → ℕ
  found_in s = get_or s.words 0 0

  pub allows_take : (slots id n : ℕ) (me : Mine T Q) (said : Content T) → slots ≡ 1 → me.0.shape ≡ Some q → me.0.thread ≡ Some n → me.0.turn ≡ None
      → law.made_for q said.table → sum_by law.size me.0.account.given + law.size said.table ≤ 2 ^ 20
      → Allows (Rule law q) slots id me 0 (λ m. either (eqb m 0) (n + 1) m) (tells law (step slots 0 0 (n + 1) (some said)) me)
  allows_take slots id n me said one live number idle made few s k long at small = by_turn k.holder refl k.turn
    where
      f : Found law q s k id n me.0
      f = find law q s k id n me.0 at live number

      word : found_in s ≡ word_of k.holder
      word = ap (λ (ws : List ℕ). get_or ws 0 0) k.word_is

      by_turn : (holder : Option ℕ) → k.holder ≡ holder → IsTurn law q s.homes k.threads holder
          → (w : View T Q) × (a : Act (Content T)) × Valid s.homes me.1 a × Rule law q (stepped s 0 (either (eqb (found_in s) 0) (n + 1) (found_in s)) id me.1 w a)
          × tells law (step slots 0 0 (n + 1) (some said)) me (found_in s) (w, carried_after me.1 a)
      by_turn None nobody free =
          let zero_word : found_in s ≡ 0 = word ∙ ap word_of nobody in
          let w : View T Q = marking free.content said.table me.0 in
          let there = at_account k.threads n me.0 f.at in
          let few_threads = k.few in
          let count = length-map k.threads (λ (t : Thread T Q). t.account) in (
            w,
            takes 0 free.content,
            ap (λ (hs : List (Home (Content T))). get_elem? hs 0) free.home,
            exchanged (found_in s) 0 (n + 1) (λ m. Rule law q (stepped s 0 m id me.1 w (takes 0 free.content)))
                (λ _. moved law q s k id n me.0 w live f (Some n) (set s.words 0 (n + 1)) (set s.homes 0 none) (ap (λ (ws : List ℕ). set ws 0 (n + 1)) k.word_is)
                (won s k id n me.0 live number f said.table nobody free))
                (λ ne. absurd (ne zero_word)),
            λ p x is_live is_said.
                let same_shape : q ≡ p = cc in
                let same_said : said ≡ x = some-injective said x is_said in
                inl (subst (λ (y : Content T). Won law p y.table me (found_in s) (w, (0, free.content) ∷ me.1)) same_said
                (subst (λ (y : Q). Won law y said.table me (found_in s) (w, (0, free.content) ∷ me.1)) same_shape record {
                  free = zero_word;
                  copy = free.content;
                  view = refl;
                  may = λ t is. (let same : n ≡ t = cc in subst (λ (i : ℕ). MayTakeIn law q i said.table free.content) same
                      (may_take_in law q free.content (accounts_of k.threads) n me.0.account said.table k.lawful (omega arith) there made few free.agrees));
                })),
          )
      by_turn (Some m) holds held =
          let some_word : found_in s ≡ m + 1 = word ∙ ap word_of holds in
          let w : View T Q = meeting m me.0 in
          let below = slice_get_within k.threads m held.thread held.at in
          let few_threads = k.few in
          let another : m ≢ n = λ same.
          (let here : held.thread ≡ seated me.0 = (let e = held.at in let g = f.at in cc) in
          let turn = ap (λ (t : Thread T Q). t.view.turn) here in
          let busy = held.turn_is in
          absurd cc) in (
            w,
            keeps,
            tt,
            exchanged (found_in s) 0 (n + 1) (λ i. Rule law q (stepped s 0 i id me.1 w keeps)) (λ z. absurd (omega arith))
                (λ _. subst (λ (i : ℕ). Rule law q (stepped s 0 i id me.1 w keeps)) (sym word)
                (moved law q s k id n me.0 w live f k.holder (set s.words 0 (word_of k.holder)) s.homes (ap (λ (ws : List ℕ). set ws 0 (word_of k.holder)) k.word_is)
                (lost s k id n me.0 live number f m holds held another idle))),
            λ p x is_live is_said. inr record {
              holder = m;
              found_is = some_word;
              is_thread = omega arith;
              another = λ is. another (let e : Some m ≡ Some n = sym is ∙ number in cc);
              view = refl;
            },
          )

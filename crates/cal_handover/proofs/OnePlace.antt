-- What is taken from the lists of threads at one place, thread by thread.
use Rattle.std.proofs.Common.{◌≡◌, ℕ, zero, suc, ◌+◌, List, [], ◌∷◌, ◌++◌, Some}
use Rattle.std.proofs.Common.{length, map, take, drop, set, refl, sym, ap, ◌∙◌, arith, subst}
use Rattle.std.specs.List.{All, cons_option, remove}
use Rattle.std.specs.Prelude.{Option, option_map, slice_get}
use Rattle.std.specs.declared.vec.Vec.{Vec}
use Rattle.std.proofs.lemmas.List.{append-nil, drop_all, length-map, map-set, take_more}
use Rattle.std.proofs.lemmas.List.Edits.{map_over_more}
use Rattle.std.proofs.lemmas.List.Elements.{All-get_or, filter_map-append}
use Rattle.std.proofs.lemmas.Option.{get_or_from_slice_get, slice_get-map, slice_get_within}
use Rattle.cal_channel.specs.Values.{ChannelValue}
use Rattle.cal_channel.specs.Places.{at_place, lists_of}
use Rattle.cal_handover.specs.Places.{emptied, emptied_at, tables_at}
use Rattle.cal_handover.specs.Places.{tables_of}

module _ {A : Type 0} where
  -- a fact of each item, at a place
  pub All-at : (P : A → Type 0) (xs : List A) (k : ℕ) (x : A) → All P xs
      → slice_get xs k ≡ Some x → P x
  All-at P xs k x all at = subst P (get_or_from_slice_get xs k x x at)
      (All-get_or P xs k x (slice_get_within xs k x at) all)

  -- the item at a place that wasn't reached
  pub slice_get-behind : (f : A → A) (n : ℕ) (xs : List A)
      → slice_get (map f (take n xs) ++ drop n xs) n ≡ slice_get xs n
  slice_get-behind f zero xs = refl
  slice_get-behind f (suc n) [] = refl
  slice_get-behind f (suc n) (x ∷ xs) = slice_get-behind f n xs

  -- a list without its last item
  pub remove-last : (n : ℕ) (xs : List A) → length xs ≡ n + 1 → remove xs n ≡ take n xs
  remove-last n xs long =
      ap (λ rest. take n xs ++ rest) (drop_all (suc n) xs (omega (arith, long)))
      ∙ append-nil (take n xs)

  -- what threads have at a place, with one thread more
  pub at_place-more : (place n : ℕ) (lists : List (List A)) (own : List A) (x : A)
      → slice_get lists n ≡ Some own → slice_get own place ≡ Some x
      → at_place place (take (n + 1) lists) ≡ at_place place (take n lists) ++ x ∷ []
  at_place-more place n lists own x thread at =
      ap (at_place place) (take_more lists n own (slice_get_within lists n own thread)
      ∙ ap (λ last. take n lists ++ last ∷ []) (get_or_from_slice_get lists n own own thread))
      ∙ filter_map-append (λ list. slice_get list place) (take n lists) (own ∷ [])
      ∙ ap (λ (o : Option A). at_place place (take n lists) ++ cons_option o []) at

module _ {A Z : Type 0} (f : List A → List A) (lists : List (List A)) (now : List (Vec A Z))
    (n : ℕ) (own : Vec A Z) (is : lists_of now ≡ map f (take n lists) ++ drop n lists)
    (at : slice_get now n ≡ Some own) where
  -- the list of the next thread is the one that it had at first
  pub next-list : slice_get lists n ≡ Some own.items
  next-list = sym (slice_get-behind f n lists)
      ∙ ap (λ all. slice_get all n) (sym is)
      ∙ slice_get-map (λ (list : Vec A Z). list.items) now n
      ∙ ap (option_map (λ (list : Vec A Z). list.items)) at

  -- it is changed
  pub next-changed : (new : Vec A Z) → new.items ≡ f own.items
      → lists_of (set now n new) ≡ map f (take (n + 1) lists) ++ drop (n + 1) lists
  next-changed new change =
      map-set (λ (list : Vec A Z). list.items) now n new
      ∙ ap (set (lists_of now) n) change
      ∙ map_over_more f lists (lists_of now) n own.items
      (slice_get_within lists n own.items next-list) is
      (sym (get_or_from_slice_get (lists_of now) n own.items own.items
      (slice_get-map (λ (list : Vec A Z). list.items) now n
      ∙ ap (option_map (λ (list : Vec A Z). list.items)) at)))

-- as many threads have lists as before
pub length-lists : {A Z : Type 0} (f : List A → List A) (new old : List (Vec A Z))
    → lists_of new ≡ map f (lists_of old) → length new ≡ length old
length-lists {A} {Z} f new old e =
    sym (length-map new (λ (list : Vec A Z). list.items)) ∙ ap length e
    ∙ length-map (lists_of old) f ∙ length-map old (λ (list : Vec A Z). list.items)

-- the tables at a place, with one thread more
pub tables_at-more : (place n : ℕ) (lists : List (List ChannelValue)) (own : List ChannelValue)
    (c : ChannelValue) → slice_get lists n ≡ Some own → slice_get own place ≡ Some c
    → tables_at place (take (n + 1) lists) ≡ tables_at place (take n lists) ++ tables_of (c ∷ [])
tables_at-more place n lists own c thread at =
    ap tables_of (at_place-more place n lists own c thread at)
    ∙ filter_map-append (λ (x : ChannelValue). x.table) (at_place place (take n lists)) (c ∷ [])

-- a channel is emptied where it stands
pub set-emptied : (place : ℕ) (cs : List ChannelValue) (c : ChannelValue)
    → slice_get cs place ≡ Some c → set cs place (emptied c) ≡ emptied_at place cs
set-emptied zero [] c at = refl
set-emptied (suc place) [] c at = refl
set-emptied zero (x ∷ cs) c at =
    let same : x ≡ c = cc in ap (λ y. emptied y ∷ cs) (sym same)
set-emptied (suc place) (x ∷ cs) c at = ap (λ rest. x ∷ rest) (set-emptied place cs c at)

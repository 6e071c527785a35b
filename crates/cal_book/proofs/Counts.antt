-- The content agrees with what threads have done, when one of them does something more.
use Rattle.std.proofs.Common.{◌≡◌, ℕ, ◌+◌, ◌%◌, ◌^◌, ◌<◌, ◌≤◌, Some, List, [], ◌∷◌, ◌++◌, map, length, get_or, set, sym, refl, ap, ◌∙◌, subst, arith, length-set, length-append, get_or-set_other, get_or-set_same}
use Rattle.std.proofs.Math.ListN.{get_or-map}
use mathlib.Core.Logic.{dite}
use native.Mathlib.Decide.{ℕ_discrete}
use Rattle.std.specs.List.{slice_get, All, sum_by}
use Rattle.std.proofs.Math.Seq.{map-set_same}
use Rattle.std.proofs.lemmas.List.Sums.{sum_by_push}
use Rattle.std.proofs.lemmas.Option.{get_or_from_slice_get, slice_get_within}
use Rattle.cal_book.specs.declared.merging.Merging.{Ghosts as Merging}
use Rattle.cal_book.specs.declared.content.Content.{Content}
use Rattle.cal_book.specs.declared.content.Numbers.{Numbers}
use Rattle.cal_book.specs.declared.view.Account.{Account}
use Rattle.cal_book.specs.Accounts.{blank, more_given}
use Rattle.cal_book.specs.Merges.{IsAccount}
use Rattle.cal_book.specs.Contents.{Agrees, MayTakeIn, TakesIn, more_numbers, no_numbers, numbers_at, numbers_of}
use Rattle.cal_book.proofs.Lists.{get_or-snoc_default}
use Rattle.cal_book.proofs.Totals.{all_given-made, all_given-more, all_given-same, all_given-blank, room_for}

module _ {T Q : Type 0} (law : Merging T Q) (q : Q) where
  abbrev of : Account T → Numbers
  of = numbers_of law

  abbrev at : List (Account T) → ℕ → Account T
  at accounts j = get_or accounts j blank

  -- the numbers of the thread that does something else stay
  numbers-same : (accounts : List (Account T)) (t : ℕ) (a b : Account T) → slice_get accounts t ≡ Some a → b.given ≡ a.given
      → (j : ℕ) → of (at (set accounts t b) j) ≡ of (at accounts j)
  numbers-same accounts t a b there is j =
      let given : of b ≡ of a = ap (λ (xs : List T). let n : Numbers = record { parts = length xs % 2 ^ 64; snapshots = sum_by law.size xs } in n) is in
      let one : map of (set accounts t b) ≡ map of accounts = map-set_same of accounts t b blank (given ∙ ap of (sym (get_or_from_slice_get accounts t a blank there))) in
      sym (get_or-map of (set accounts t b) j blank) ∙ ap (λ (ns : List Numbers). get_or ns j (of blank)) one ∙ get_or-map of accounts j blank

  -- those of the thread that gives a part are one more
  numbers-more : (a : Account T) (p : T) → of (more_given a p) ≡ more_numbers (of a) (law.size p)
  numbers-more a p =
      let long : length (a.given ++ p ∷ []) ≡ length a.given + 1 = length-append a.given (p ∷ []) in
      let parts : length (a.given ++ p ∷ []) % 2 ^ 64 ≡ (length a.given % 2 ^ 64 + 1) % 2 ^ 64 = omega arith in
      let sum = sum_by_push law.size a.given p in
      λ i. record { parts = parts i; snapshots = sum i }

  pub agrees-same : (content : Content T) (accounts : List (Account T)) (t : ℕ) (a b : Account T) → slice_get accounts t ≡ Some a → b.given ≡ a.given
      → Agrees law q content accounts → Agrees law q content (set accounts t b)
  agrees-same content accounts t a b there is agrees = record {
    same = subst (law.same content.table) (sym (all_given-same law q accounts t a b there is)) agrees.same;
    long = agrees.long;
    numbers = λ j small. agrees.numbers j small ∙ sym (numbers-same accounts t a b there is j);
  }

  pub agrees-more : (copy content : Content T) (accounts : List (Account T)) (t : ℕ) (a : Account T) (p : T) → All (IsAccount law q) accounts
      → slice_get accounts t ≡ Some a → t < 64 → law.made_for q p → TakesIn law t p copy content
      → Agrees law q copy accounts → Agrees law q content (set accounts t (more_given a p))
  agrees-more copy content accounts t a p lawful there small made taken agrees =
      let b : Account T = more_given a p in
      let more = all_given-more law q accounts t a b p lawful there refl made in
      let numbers : Numbers = more_numbers (numbers_at copy.numbers t) (law.size p) in
      let long = agrees.long in
      record {
        same = law.same_trans _ _ _ taken.merged
            (law.same_trans _ _ _ (law.same_merged _ _ p p agrees.same (law.same_refl p)) (law.same_sym _ _ more));
        long = ap length taken.counted ∙ length-set copy.numbers t numbers ∙ long;
        numbers = λ j below. ap (λ (ns : List Numbers). numbers_at ns j) taken.counted ∙ dite (ℕ_discrete j t)
            (λ here. ap (numbers_at (set copy.numbers t numbers)) here
            ∙ get_or-set_same copy.numbers t numbers no_numbers (omega arith)
            ∙ ap (λ (n : Numbers). more_numbers n (law.size p)) (agrees.numbers t small ∙ ap of (get_or_from_slice_get accounts t a blank there))
            ∙ sym (numbers-more a p)
            ∙ ap of (sym (ap (at (set accounts t b)) here ∙ get_or-set_same accounts t b blank (slice_get_within accounts t a there))))
            (λ other. get_or-set_other copy.numbers t j numbers no_numbers other ∙ agrees.numbers j below
            ∙ ap of (sym (get_or-set_other accounts t j b blank other)));
      }

  pub agrees-blank : (content : Content T) (accounts : List (Account T)) → All (IsAccount law q) accounts
      → Agrees law q content accounts → Agrees law q content (accounts ++ blank ∷ [])
  agrees-blank content accounts lawful agrees = record {
    same = law.same_trans _ _ _ agrees.same (law.same_sym _ _ (all_given-blank law q accounts lawful));
    long = agrees.long;
    numbers = λ j small. agrees.numbers j small ∙ ap of (sym (get_or-snoc_default accounts j blank));
  }

  -- a thread may give a part that has room in its account
  pub may_take_in : (content : Content T) (accounts : List (Account T)) (t : ℕ) (a : Account T) (p : T) → All (IsAccount law q) accounts
      → length accounts ≤ 64 → slice_get accounts t ≡ Some a → law.made_for q p → sum_by law.size a.given + law.size p ≤ 2 ^ 20
      → Agrees law q content accounts → MayTakeIn law q t p content
  may_take_in content accounts t a p lawful short there made few agrees =
      let below = slice_get_within accounts t a there in
      let small : t < 64 = omega arith in
      let all = law.same_sym _ _ agrees.same in
      let size = law.same_size _ _ all in
      let room = room_for law q accounts t a p lawful short there made few in
      let own = ap (λ (n : Numbers). n.snapshots) (agrees.numbers t small ∙ ap of (get_or_from_slice_get accounts t a blank there)) in
      record {
        content_made = law.same_made q _ _ all (all_given-made law q accounts lawful);
        part_made = made;
        room = omega arith;
        is_thread = small;
        long = agrees.long;
        few = omega arith;
      }

  -- and after it the account is one that it may have
  pub few_taken_in : (content : Content T) (accounts : List (Account T)) (t : ℕ) (a : Account T) (p : T) → slice_get accounts t ≡ Some a
      → Agrees law q content accounts → MayTakeIn law q t p content → sum_by law.size a.given + law.size p ≤ 2 ^ 20
  few_taken_in content accounts t a p there agrees may =
      let few = may.few in
      let own = ap (λ (n : Numbers). n.snapshots) (agrees.numbers t may.is_thread ∙ ap of (get_or_from_slice_get accounts t a blank there)) in
      omega arith

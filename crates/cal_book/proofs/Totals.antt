-- What threads have given, when one of them gives one part more.
use Rattle.std.proofs.Common.{◌≡◌, ℕ, zero, suc, ◌+◌, ◌*◌, ◌≤◌, ◌^◌, Some, List, [], ◌∷◌, ◌++◌, map, length, set, sym, refl, ap, ◌∙◌, subst, arith, length-set}
use Rattle.std.proofs.lemmas.List.{map-append, map-set}
use Rattle.std.proofs.Math.Seq.{map-set_same}
use Rattle.std.specs.List.{slice_get, All, sum_by}
use Rattle.std.proofs.lemmas.List.Elements.{All-head, All-tail, All-push, All-map, All-weaker, All-set}
use Rattle.std.proofs.lemmas.List.Sums.{sum_by-cons, sum_by_push, sum_by-le}
use Rattle.std.proofs.lemmas.Option.{get_or_from_slice_get}
use Rattle.cal_book.specs.declared.merging.Merging.{Ghosts as Merging}
use Rattle.cal_book.specs.declared.view.Account.{Account}
use Rattle.cal_book.specs.Accounts.{blank, more_given}
use Rattle.cal_book.specs.Merges.{merge_of, all_given, IsAccount}
use Rattle.cal_book.proofs.Lists.{All-at, at_mapped}

module _ {T Q : Type 0} (law : Merging T Q) (q : Q) where
  abbrev Made : T → Type 0
  Made = law.made_for q

  pub merge_of-made : (xs : List T) → All Made xs → Made (merge_of law q xs)
  merge_of-made [] all = law.empty_made q
  merge_of-made (x ∷ xs) all =
      law.merged_made q x (merge_of law q xs) (All-head Made x xs all) (merge_of-made xs (All-tail Made x xs all))

  pub merge_of-size : (xs : List T) → law.size (merge_of law q xs) ≡ sum_by law.size xs
  merge_of-size [] = law.empty_size q
  merge_of-size (x ∷ xs) = law.merged_size x (merge_of law q xs)
      ∙ ap (λ (n : ℕ). law.size x + n) (merge_of-size xs) ∙ sym (sum_by-cons law.size x xs)

  -- either of two that are merged may be replaced by the same
  left : (a b c : T) → law.same a b → law.same (law.merged a c) (law.merged b c)
  left a b c same = law.same_merged a b c c same (law.same_refl c)

  right : (a b c : T) → law.same a b → law.same (law.merged c a) (law.merged c b)
  right a b c same = law.same_merged c c a b (law.same_refl c) same

  pub merge_of-snoc : (xs : List T) (p : T) → All Made xs → Made p
      → law.same (merge_of law q (xs ++ p ∷ [])) (law.merged (merge_of law q xs) p)
  merge_of-snoc [] p all made = law.commutative q p (law.empty q) made (law.empty_made q)
  merge_of-snoc (x ∷ xs) p all made =
      let rest = All-tail Made x xs all in
      law.same_trans _ _ _ (right _ _ x (merge_of-snoc xs p rest made))
      (law.same_sym _ _ (law.associative q x (merge_of law q xs) p (All-head Made x xs all) (merge_of-made xs rest) made))

  -- one table is replaced by its merge with p
  merge_of-set : (xs : List T) (t : ℕ) (x y p : T) → All Made xs → Made p → slice_get xs t ≡ Some x
      → law.same y (law.merged x p) → law.same (merge_of law q (set xs t y)) (law.merged (merge_of law q xs) p)
  merge_of-set [] t x y p all made at is = absurd cc
  merge_of-set (z ∷ xs) zero x y p all made at is =
      let one : x ≡ z = cc in
      let m : T = merge_of law q xs in
      let made_z = All-head Made z xs all in
      let made_m = merge_of-made xs (All-tail Made z xs all) in
      law.same_trans _ _ _ (left _ _ m (subst (λ (w : T). law.same y (law.merged w p)) one is))
      (law.same_trans _ _ _ (law.associative q z p m made_z made made_m)
      (law.same_trans _ _ _ (right _ _ z (law.commutative q p m made made_m))
      (law.same_sym _ _ (law.associative q z m p made_z made_m made))))
  merge_of-set (z ∷ xs) (suc t) x y p all made at is =
      let rest = All-tail Made z xs all in
      law.same_trans _ _ _ (right _ _ z (merge_of-set xs t x y p rest made at is))
      (law.same_sym _ _ (law.associative q z (merge_of law q xs) p (All-head Made z xs all) (merge_of-made xs rest) made))

  abbrev Lawful : Account T → Type 0
  Lawful = IsAccount law q

  abbrev given_by : Account T → T
  given_by account = merge_of law q account.given

  all_made : (accounts : List (Account T)) → All Lawful accounts → All Made (map given_by accounts)
  all_made accounts all = All-map Made given_by accounts
      (All-weaker Lawful (λ account. Made (given_by account)) (λ account is. merge_of-made account.given is.made) accounts all)

  pub all_given-made : (accounts : List (Account T)) → All Lawful accounts → Made (all_given law q accounts)
  all_given-made accounts all = merge_of-made (map given_by accounts) (all_made accounts all)

  sum_of-given : (accounts : List (Account T)) → sum_by law.size (map given_by accounts) ≡ sum_by (λ (account : Account T). sum_by law.size account.given) accounts
  sum_of-given [] = refl
  sum_of-given (a ∷ accounts) = sum_by-cons law.size (given_by a) (map given_by accounts)
      ∙ (λ i. merge_of-size a.given i + sum_of-given accounts i)
      ∙ sym (sum_by-cons (λ (account : Account T). sum_by law.size account.given) a accounts)

  pub all_given-size : (accounts : List (Account T)) → All Lawful accounts
      → law.size (all_given law q accounts) ≤ length accounts * 2 ^ 20
  all_given-size accounts all =
      let is = merge_of-size (map given_by accounts) ∙ sum_of-given accounts in
      let most = sum_by-le (λ (account : Account T). sum_by law.size account.given) (2 ^ 20) accounts
      (All-weaker Lawful (λ account. sum_by law.size account.given ≤ 2 ^ 20) (λ account lawful. lawful.few) accounts all) in
      omega arith

  -- an account with one part more
  pub more_lawful : (a : Account T) (p : T) → Lawful a → Made p → sum_by law.size a.given + law.size p ≤ 2 ^ 20
      → Lawful (more_given a p)
  more_lawful a p lawful made few = record {
    made = All-push Made a.given p lawful.made made;
    few = let sum = sum_by_push law.size a.given p in omega arith;
  }

  -- one of them gives p: what all have given is the merge with p
  pub all_given-more : (accounts : List (Account T)) (t : ℕ) (a b : Account T) (p : T) → All Lawful accounts
      → slice_get accounts t ≡ Some a → b.given ≡ a.given ++ p ∷ [] → Made p
      → law.same (all_given law q (set accounts t b)) (law.merged (all_given law q accounts) p)
  all_given-more accounts t a b p all at is made =
      let lawful : Lawful a = All-at Lawful accounts t a all at in
      let one : law.same (given_by b) (law.merged (given_by a) p) =
      subst (λ (xs : List T). law.same (merge_of law q xs) (law.merged (given_by a) p)) (sym is) (merge_of-snoc a.given p lawful.made made) in
      subst (λ (xs : List T). law.same (merge_of law q xs) (law.merged (all_given law q accounts) p)) (sym (map-set given_by accounts t b))
      (merge_of-set (map given_by accounts) t (given_by a) (given_by b) p (all_made accounts all) made (at_mapped given_by accounts t a at) one)

  -- one of them does something else
  pub all_given-same : (accounts : List (Account T)) (t : ℕ) (a b : Account T) → slice_get accounts t ≡ Some a
      → b.given ≡ a.given → all_given law q (set accounts t b) ≡ all_given law q accounts
  all_given-same accounts t a b at is = ap (merge_of law q)
      (map-set_same given_by accounts t b blank (ap (merge_of law q) is ∙ ap given_by (sym (get_or_from_slice_get accounts t a blank at))))

  -- one more comes, which has given nothing
  pub all_given-blank : (accounts : List (Account T)) → All Lawful accounts
      → law.same (all_given law q (accounts ++ blank ∷ [])) (all_given law q accounts)
  all_given-blank accounts all =
      let made = all_given-made accounts all in
      let none_made = law.empty_made q in
      subst (λ (xs : List T). law.same (merge_of law q xs) (all_given law q accounts)) (sym (map-append given_by accounts (blank ∷ [])))
      (law.same_trans _ _ _ (merge_of-snoc (map given_by accounts) (law.empty q) (all_made accounts all) none_made)
      (law.same_trans _ _ _ (law.commutative q (all_given law q accounts) (law.empty q) made none_made) (law.unit q (all_given law q accounts) made)))

  -- what all have given has room for one part more of a thread that may give it
  pub room_for : (accounts : List (Account T)) (t : ℕ) (a : Account T) (p : T) → All Lawful accounts → length accounts ≤ 64
      → slice_get accounts t ≡ Some a → Made p → sum_by law.size a.given + law.size p ≤ 2 ^ 20
      → law.size (all_given law q accounts) + law.size p ≤ 2 ^ 26
  room_for accounts t a p all short at made few =
      let b : Account T = more_given a p in
      let lawful : Lawful a = All-at Lawful accounts t a all at in
      let then : Lawful b = more_lawful a p lawful made few in
      let size = all_given-size (set accounts t b) (All-set Lawful accounts t b then all) in
      let more = law.same_size _ _ (all_given-more accounts t a b p all at refl made) in
      let parts = law.merged_size (all_given law q accounts) p in
      let long = length-set accounts t b in
      omega arith

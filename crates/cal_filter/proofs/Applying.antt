-- What is put at the end of a snapshot.
use Rattle.std.proofs.Common.{◌≡◌, ℕ, suc, ◌+◌, ◌<◌, Bool, true, false, List, [], ◌∷◌, ◌++◌, map, take, drop}
use Rattle.std.proofs.Common.{Option, None, Some, refl, sym, ◌∙◌, ap, length, get_or, slice_get, arith}
use Rattle.std.specs.List.{filter_map, list_all}
use Rattle.std.specs.Prelude.{◌&&◌}
use Rattle.std.proofs.lemmas.Grind.{fold-append}
use Rattle.std.proofs.lemmas.List.{map-append, take-append-drop, take_more}
use Rattle.std.proofs.lemmas.List.Elements.{All-push, filter_map-append}
use Rattle.std.proofs.lemmas.List.Folds.{list_all-append}
use Rattle.cal_context.specs.Snapshots.{IsIn, entry_of, meaning}
use Rattle.cal_context.specs.Tree.{Tree, attribute_at, path_at}
use Rattle.cal_context.specs.declared.snapshot.Immediate.{Immediate}
use Rattle.cal_context.specs.declared.snapshot.Snapshot.{Snapshot}
use Rattle.cal_ql.specs.declared.query.Let.{Let}
use Rattle.cal_value.specs.Values.{kind_of}
use Rattle.cal_value.specs.declared.record.Rec.{Rec}
use Rattle.cal_filter.specs.Kept.{result_attribute, result_entry, with_let, with_lets, with_result}

-- one immediate more is one entry more
pub appended : (t : Tree) (s s' : Snapshot) (x : Immediate) (name : List ℕ)
    → s'.nodes.items ≡ s.nodes.items → s'.imms.items ≡ s.imms.items ++ x ∷ []
    → attribute_at t x.attribute ≡ result_attribute name (kind_of x.value)
    → meaning t s' ≡ with_result (meaning t s) name (Some x.value)
appended t s s' x name nodes imms is =
    let entry : entry_of t x ≡ result_entry name x.value =
    λ i. record { attr = is i; value = x.value } in
    let entries : map (entry_of t) s'.imms.items
    ≡ map (entry_of t) s.imms.items ++ result_entry name x.value ∷ [] =
    ap (map (entry_of t)) imms ∙ map-append (entry_of t) s.imms.items (x ∷ [])
    ∙ ap (λ e. map (entry_of t) s.imms.items ++ e ∷ []) entry in
    λ i. record { paths = map (path_at t) (nodes i); imms = entries i }

-- one definition more
pub with_lets_next : (lets : List Let) (i : ℕ) (l : Let) (r : Rec)
    → take (suc i) lets ≡ take i lets ++ l ∷ []
    → with_lets (take (suc i) lets) r ≡ with_let (with_lets (take i lets) r) l
with_lets_next lets i l r more =
    ap (λ ls. with_lets ls r) more ∙ fold-append with_let r (take i lets) (l ∷ [])

-- no definition adds nothing
pub no_lets : (lets : List Let) (r : Rec) → length lets ≡ 0 → r ≡ with_lets lets r
no_lets [] r none = refl
no_lets (l ∷ lets) r none = absurd (omega (arith, none))

module _ {A : Type 0} (test : A → Bool) where
  -- an item that fails makes a list fail
  pub all_false : (xs : List A) (n : ℕ) → list_all test (take n xs) ≡ false
      → list_all test xs ≡ false
  all_false xs n h =
      ap (list_all test) (sym (take-append-drop n xs))
      ∙ list_all-append test (take n xs) (drop n xs)
      ∙ ap (λ b. b && list_all test (drop n xs)) h

  pub all_next : (xs front : List A) (x : A) (b c : Bool) → xs ≡ front ++ x ∷ []
      → list_all test front ≡ b → test x ≡ c → list_all test xs ≡ (b && (c && true))
  all_next xs front x b c is all here =
      ap (list_all test) is ∙ list_all-append test front (x ∷ []) ∙ rw (all, here) refl

module _ {A B : Type 0} (f : A → Option B) where
  -- the first item that gives something
  pub first_at : (xs : List A) (i : ℕ) (x : A) (v : B) → i < length xs → x ≡ get_or xs i x
      → filter_map f (take i xs) ≡ [] → f x ≡ Some v → slice_get (filter_map f xs) 0 ≡ Some v
  first_at xs i x v short read none is =
      ap (λ ys. slice_get (filter_map f ys) 0)
      (sym (take-append-drop (i + 1) xs)
      ∙ ap (λ ys. ys ++ drop (i + 1) xs) (take_more xs i x short ∙ ap (λ y. take i xs ++ y ∷ []) (sym read)))
      ∙ ap (λ ys. slice_get ys 0)
      (filter_map-append f (take i xs ++ x ∷ []) (drop (i + 1) xs)
      ∙ ap (λ ys. ys ++ filter_map f (drop (i + 1) xs)) (filter_map-append f (take i xs) (x ∷ [])))
      ∙ rw (none, is) refl

  -- and one that gives nothing
  pub none_next : (xs : List A) (i : ℕ) (x : A) → i < length xs → x ≡ get_or xs i x
      → filter_map f (take i xs) ≡ [] → f x ≡ None → filter_map f (take (i + 1) xs) ≡ []
  none_next xs i x short read none is =
      ap (filter_map f) (take_more xs i x short ∙ ap (λ y. take i xs ++ y ∷ []) (sym read))
      ∙ filter_map-append f (take i xs) (x ∷ []) ∙ rw (none, is) refl

-- Adding the numbers of a list one after another, from what a kernel's laws say.
use Rattle.std.proofs.Common.{◌≡◌, ℕ, ◌+◌, ◌<◌, ◌≤◌, ◌^◌, List, [], ◌∷◌, ◌++◌, length, take}
use Rattle.std.proofs.Common.{sym, ◌∙◌, ap, subst, arith, slice_index_or}
use Rattle.std.specs.List.{All}
use Rattle.std.proofs.lemmas.List.{take_more, length-take}
use Rattle.std.proofs.lemmas.List.Elements.{All-take}
use Rattle.cal_agg.specs.declared.num.Num.{Num}

module _ {S : Type 0} (over : List Num → S) (merged : S → S → S)
    (concatenation : (ns ms : List Num) → over (ns ++ ms) ≡ merged (over ns) (over ms)) where
  -- one number more
  pub over_next : (xs : List Num) (i : ℕ) (x : Num) (kernel : S) → kernel ≡ over (take i xs)
      → i < length xs → x ≡ slice_index_or xs i x
      → merged kernel (over (x ∷ [])) ≡ over (take (i + 1) xs)
  over_next xs i x kernel e short read =
      ap (λ k. merged k (over (x ∷ []))) e ∙ sym (concatenation (take i xs) (x ∷ []))
      ∙ ap (λ y. over (take i xs ++ y ∷ [])) read ∙ ap over (sym (take_more xs i x short))

  -- there is room for it
  pub room_next : (takes : Num → Type 0) (has_room : S → Type 0)
      → ((ns : List Num) → All takes ns → length ns ≤ 2 ^ 40 → has_room (over ns))
      → (xs : List Num) (i : ℕ) (x : Num) (kernel : S) → kernel ≡ over (take i xs)
      → i < length xs → x ≡ slice_index_or xs i x → All takes xs → length xs ≤ 2 ^ 40
      → has_room (merged kernel (over (x ∷ [])))
  room_next takes has_room room xs i x kernel e short read taken few =
      let some : length (take (i + 1) xs) ≤ 2 ^ 40 = simp length-take (omega arith) in
      subst has_room (sym (over_next xs i x kernel e short read))
      (room (take (i + 1) xs) (All-take takes (i + 1) xs taken) some)

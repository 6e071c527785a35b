-- No declaration is refused exactly where no name is declared in two ways.
use Rattle.std.proofs.Common.{◌≡◌, ◌⊎◌, ◌+◌, ℕ, inl, inr, true, false, List, [], ◌∷◌, ◌++◌}
use Rattle.std.proofs.Common.{All, Contains, refl, sym, subst, ap, ◌∙◌, arith}
use Rattle.std.specs.Prelude.{if◌then◌else◌}
use Rattle.std.specs.List.{AllZip, IsDistinct}
use Rattle.std.proofs.lemmas.List.Concat.{flat_map-cons}
use Rattle.std.proofs.lemmas.List.Elements.{All-append, All-cons, All-contains}
use Rattle.std.proofs.lemmas.List.Elements.{All-contains_itself, All-from_recursion, All-head}
use Rattle.std.proofs.lemmas.List.Elements.{All-nil, All-same, All-tail, All-weaker}
use Rattle.std.proofs.lemmas.List.Elements.{Contains-append_cases, Contains-append_left}
use Rattle.std.proofs.lemmas.List.Elements.{Contains-append_right}
use Rattle.std.proofs.lemmas.List.Sums.{sum_by-cons}
use Rattle.cal_naming.proofs.Names.{same-name}
use Rattle.cal_naming.specs.Naming.{IsAnswered, IsNaming, all_lines, same_name}
use Rattle.cal_naming.specs.declared.reply.NameReply as replies
use Rattle.cal_naming.specs.declared.reply.NameReply.TheVariants as reply
use Rattle.cal_value.specs.declared.attribute.Attribute.{Attribute}
use Rattle.cal_call_names.specs.Deciding.{Agree}
use Rattle.cal_call_names.specs.Listing.{is_refusal, refused_lines, refused_of}

-- a declaration counts where it was refused
abbrev count : replies.NameReply → ℕ
count r = if is_refusal r then 1 else 0

one_more : (r : replies.NameReply) (rs : List replies.NameReply)
    → refused_of (r ∷ rs) ≡ count r + refused_of rs
one_more r rs = sum_by-cons count r rs

thread_more : (r : List replies.NameReply) (rs : List (List replies.NameReply))
    → refused_lines (r ∷ rs) ≡ refused_of r + refused_lines rs
thread_more r rs = sum_by-cons refused_of r rs

module _ (kept : List Attribute) where
  -- ---- where none is refused, each is kept

  kept_one : (line : Attribute) (r : replies.NameReply) → IsAnswered kept line r → count r ≡ 0
      → Contains kept line
  kept_one line reply.Same answered none = subst (Contains kept) answered.3 answered.1
  kept_one line (reply.Different kind props) answered none = absurd (omega (arith, none))

  kept_lines : (lines : List Attribute) (rs : List replies.NameReply)
      → AllZip (IsAnswered kept) lines rs → refused_of rs ≡ 0 → All (Contains kept) lines
  kept_lines [] rs answered none = All-nil (Contains kept)
  kept_lines (line ∷ lines) [] answered none = absurd answered
  kept_lines (line ∷ lines) (r ∷ rs) answered none =
      let more = one_more r rs in
      All-cons (Contains kept) line lines (kept_one line r answered.0 (omega (arith, more, none)))
      (kept_lines lines rs answered.1 (omega (arith, more, none)))

  all_kept : (threads : List (List Attribute)) (rs : List (List replies.NameReply))
      → AllZip (AllZip (IsAnswered kept)) threads rs → refused_lines rs ≡ 0
      → All (Contains kept) (all_lines threads)
  all_kept [] rs answered none = All-nil (Contains kept)
  all_kept (lines ∷ threads) [] answered none = absurd answered
  all_kept (lines ∷ threads) (r ∷ rs) answered none =
      let more = thread_more r rs in
      All-same (Contains kept) (all_lines (lines ∷ threads)) (lines ++ all_lines threads)
      (flat_map-cons (λ (ls : List Attribute). ls) lines threads)
      (All-append (Contains kept) lines (all_lines threads)
      (kept_lines lines r answered.0 (omega (arith, more, none)))
      (all_kept threads rs answered.1 (omega (arith, more, none))))

  -- ---- where each equals what is kept of its name, none is refused

  -- what is kept of a declaration's name is this declaration
  abbrev Stands : Attribute → Type 0
  Stands line = (k : Attribute) → Contains kept k → k.name ≡ line.name → k ≡ line

  none_one : (line : Attribute) (r : replies.NameReply) → IsAnswered kept line r → Stands line
      → count r ≡ 0
  none_one line reply.Same answered stands = refl
  none_one line (reply.Different kind props) answered stands =
      absurd (answered.3.0 (stands answered.0 answered.1 answered.2))

  none_of : (lines : List Attribute) (rs : List replies.NameReply)
      → AllZip (IsAnswered kept) lines rs → All Stands lines → refused_of rs ≡ 0
  none_of [] [] answered stand = refl
  none_of [] (r ∷ rs) answered stand = absurd answered
  none_of (line ∷ lines) [] answered stand = absurd answered
  none_of (line ∷ lines) (r ∷ rs) answered stand =
      let one = none_one line r answered.0 (All-head Stands line lines stand) in
      let rest = none_of lines rs answered.1 (All-tail Stands line lines stand) in
      omega (arith, one, rest, one_more r rs)

  in_this : (lines : List Attribute) (threads : List (List Attribute)) (line : Attribute)
      → Contains lines line → Contains (all_lines (lines ∷ threads)) line
  in_this lines threads line within =
      subst (λ (xs : List Attribute). Contains xs line)
      (sym (flat_map-cons (λ (ls : List Attribute). ls) lines threads))
      (Contains-append_left lines (all_lines threads) line within)

  in_later : (lines : List Attribute) (threads : List (List Attribute)) (line : Attribute)
      → Contains (all_lines threads) line → Contains (all_lines (lines ∷ threads)) line
  in_later lines threads line within =
      subst (λ (xs : List Attribute). Contains xs line)
      (sym (flat_map-cons (λ (ls : List Attribute). ls) lines threads))
      (Contains-append_right lines (all_lines threads) line within)

  none_in : (threads : List (List Attribute)) (rs : List (List replies.NameReply))
      → AllZip (AllZip (IsAnswered kept)) threads rs
      → ((line : Attribute) → Contains (all_lines threads) line → Stands line)
      → refused_lines rs ≡ 0
  none_in [] [] answered stand = refl
  none_in [] (r ∷ rs) answered stand = absurd answered
  none_in (lines ∷ threads) [] answered stand = absurd answered
  none_in (lines ∷ threads) (r ∷ rs) answered stand =
      let here = All-weaker (Contains lines) Stands
      (λ line within. stand line (in_this lines threads line within)) lines
      (All-contains_itself lines) in
      let one = none_of lines r answered.0 here in
      let rest = none_in threads rs answered.1
      (λ line within. stand line (in_later lines threads line within)) in
      omega (arith, one, rest, thread_more r rs)

-- ---- one declaration of a name is kept

-- an item of a list is its first or one behind it
first_or : (x : Attribute) (xs : List Attribute) (y : Attribute) → Contains (x ∷ xs) y
    → (y ≡ x) ⊎ Contains xs y
first_or x xs y within =
    elim (Contains-append_cases (x ∷ []) xs y within) [
      | inl one ↦ inl (All-contains (λ z. z ≡ x) (x ∷ []) y
          (All-cons (λ z. z ≡ x) x [] refl (All-nil (λ z. z ≡ x))) one)
      | inr more ↦ inr more
    ]

-- no declaration behind another that all differ from has its name
no_other : (x : Attribute) (xs : List Attribute) (y : Attribute)
    → All (λ y. same_name x y ≡ false) xs → Contains xs y → x.name ≡ y.name → ⊥
no_other x xs y apart within one =
    let same : same_name x y ≡ true = same-name x y one in
    let differs : same_name x y ≡ false =
    All-contains (λ y. same_name x y ≡ false) xs y apart within in absurd cc

abbrev name_of : Attribute → List ℕ
name_of a = a.name

-- of a name one declaration is kept
one_kept : (xs : List Attribute) → IsDistinct same_name xs → (a b : Attribute) → Contains xs a
    → Contains xs b → a.name ≡ b.name → a ≡ b
unfolding IsDistinct
one_kept [] apart a b first second one = absurd (omega (arith, first.1))
one_kept (x ∷ xs) apart a b first second one =
    let others = All-from_recursion (λ y. same_name x y ≡ false) xs apart.0 in
    elim (first_or x xs a first) [
      | inl a_is ↦ elim (first_or x xs b second) [
        | inl b_is ↦ a_is ∙ sym b_is
        | inr b_in ↦ absurd (no_other x xs b others b_in (sym (ap name_of a_is) ∙ one))
      ]
      | inr a_in ↦ elim (first_or x xs b second) [
        | inl b_is ↦ absurd (no_other x xs a others a_in (sym (ap name_of b_is) ∙ sym one))
        | inr b_in ↦ one_kept xs apart.1 a b a_in b_in one
      ]
    ]

module _ (threads : List (List Attribute)) (kept : List Attribute)
    (rs : List (List replies.NameReply)) (naming : IsNaming threads kept rs) where
  pub agreed_where_none : refused_lines rs ≡ 0 → Agree threads
  agreed_where_none none = λ a b first second one.
      let all = all_kept kept threads rs naming.answered none in
      one_kept kept naming.once a b (All-contains (Contains kept) (all_lines threads) a all first)
      (All-contains (Contains kept) (all_lines threads) b all second) one

  pub none_where_agreed : Agree threads → refused_lines rs ≡ 0
  none_where_agreed agree =
      none_in kept threads rs naming.answered (λ line within k in_kept one.
      agree k line
      (All-contains (Contains (all_lines threads)) kept k naming.declared in_kept) within one)

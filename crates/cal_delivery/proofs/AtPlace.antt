-- What each thread has at a place of its list.
use Rattle.std.proofs.Common.{◌≡◌, ℕ, ◌<◌, List, [], ◌∷◌, length, map, get_or, refl, sym, ap}
use Rattle.std.proofs.Common.{◌∙◌, subst, arith}
use Rattle.std.specs.List.{All, AllZip, cons_option}
use Rattle.std.specs.declared.vec.Vec.{Vec}
use Rattle.std.proofs.lemmas.List.{get_or-map, length-map}
use Rattle.std.proofs.lemmas.List.Elements.{All-head, All-tail}
use Rattle.std.proofs.lemmas.Option.{slice_get-get_or}
use Rattle.cal_channel.specs.Places.{at_place, lists_of}
use Rattle.cal_filter.proofs.Zips.{zip_at, zip_length}

module _ {A Z : Type 0} (place : ℕ) where
  -- where each list reaches so far, what threads have there is what is read there
  read_each : (lists : List (Vec A Z)) (d : A)
      → All (λ (own : List A). place < length own) (lists_of lists)
      → at_place place (lists_of lists) ≡ map (λ (own : Vec A Z). get_or own.items place d) lists
  read_each [] d reach = refl
  read_each (own ∷ lists) d reach =
      let reaches : List A → Type 0 = λ xs. place < length xs in
      let within : place < length own.items = All-head reaches own.items (lists_of lists) reach in
      let first = slice_get-get_or own.items place d within in
      let rest = read_each lists d (All-tail reaches own.items (lists_of lists) reach) in
      λ i. cons_option (first i) (rest i)

  pub many_there : (lists : List (Vec A Z)) (d : A)
      → All (λ (own : List A). place < length own) (lists_of lists)
      → length (at_place place (lists_of lists)) ≡ length lists
  many_there lists d reach = ap length (read_each lists d reach)
      ∙ length-map lists (λ (own : Vec A Z). get_or own.items place d)

  -- so what goes with these things goes with the one of a thread
  pub there : {B : Type 0} (R : A → B → Type 0) (lists : List (Vec A Z)) (ys : List B) (i : ℕ)
      (own : Vec A Z) (x : A) (e : B)
      → All (λ (own : List A). place < length own) (lists_of lists)
      → AllZip R (at_place place (lists_of lists)) ys → i < length lists
      → own ≡ get_or lists i own → x ≡ get_or own.items place x → R x (get_or ys i e)
  there {B} R lists ys i own x e reach zip less own_is x_is =
      let read : Vec A Z → A = λ (v : Vec A Z). get_or v.items place x in
      let zipped = subst (λ (xs : List A). AllZip R xs ys) (read_each lists x reach) zip in
      let long = zip_length R (map read lists) ys zipped in
      let many = length-map lists read in
      let here = zip_at R (map read lists) ys i x e zipped (omega (arith, long, many, less)) in
      let is : get_or (map read lists) i x ≡ x = get_or-map read lists i own x less
      ∙ ap read (sym own_is) ∙ sym x_is in
      subst (λ (z : A). R z (get_or ys i e)) is here

  -- a thread's list reaches so far
  pub reaches : (lists : List (Vec A Z)) (i : ℕ) (own : Vec A Z)
      → All (λ (own : List A). place < length own) (lists_of lists) → i < length lists
      → own ≡ get_or lists i own → place < length own.items
  reaches lists i own reach less own_is =
      let items : Vec A Z → List A = λ (v : Vec A Z). v.items in
      let many = length-map lists items in
      let is : get_or (lists_of lists) i own.items ≡ own.items =
      get_or-map items lists i own own.items less ∙ ap items (sym own_is) in
      subst (λ (xs : List A). place < length xs) is
      (reach i own.items (omega (arith, many, less)))

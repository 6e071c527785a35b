-- One text more, one column more.
use Rattle.std.proofs.Common.{◌≡◌, ℕ, zero, suc, ◌+◌, ◌<◌, ◌≤◌, Bool, List, [], ◌∷◌, ◌++◌, length, get_or, take, map, max, refl, sym, ap, ap₂, ◌∙◌, add-one, arith}
use Rattle.std.specs.List.{join_with_byte}
use Rattle.std.proofs.lemmas.List.{length-take-le, map-append, take_more}
use Rattle.cal_rowset.proofs.Showing.{join-push}
use Rattle.cal_tabfmt.specs.Ends.{front_of_line, gap}
use Rattle.cal_tabfmt.specs.Grid.{nth_text, placed, placed_texts, shape, shapes, widest, width}
use Rattle.cal_tabfmt.specs.declared.shape.Shape.{Shape}

-- one text more
pub widest-push : (texts : List (List ℕ)) (text : List ℕ) → widest (texts ++ text ∷ []) ≡ max (widest texts) (width text)
widest-push [] text = omega arith
widest-push (t ∷ texts) text = let more = widest-push texts text in omega (arith, more)

pub widest-more : (lines : List (List (List ℕ))) (k i : ℕ) (line : List (List ℕ)) → i < length lines → line ≡ get_or lines i line
    → widest (map (λ l. nth_text l k) (take (i + 1) lines)) ≡ max (widest (map (λ l. nth_text l k) (take i lines))) (width (nth_text line k))
widest-more lines k i line within is =
    let shown : List (List ℕ) → List ℕ = λ l. nth_text l k in
    ap (λ (ls : List (List (List ℕ))). widest (map shown ls)) (take_more lines i line within)
    ∙ ap (λ (l : List (List ℕ)). widest (map shown (take i lines ++ l ∷ []))) (sym is)
    ∙ ap widest (map-append shown (take i lines) (line ∷ []))
    ∙ widest-push (map shown (take i lines)) (shown line)

-- one column more
shapes-push : (lines : List (List (List ℕ))) (k : ℕ) (rights : List Bool) (right : Bool) (n : ℕ) → n ≡ k + length rights → shapes lines k (rights ++ right ∷ []) ≡ shapes lines k rights ++ shape lines n right ∷ []
shapes-push lines k [] right n is =
    let same : k ≡ n = omega (arith, is) in
    ap (λ (m : ℕ). shape lines m right ∷ []) same
shapes-push lines k (r ∷ rights) right n is =
    let next : n ≡ suc k + length rights = omega (arith, is) in
    ap (λ (rest : List Shape). shape lines k r ∷ rest) (shapes-push lines (suc k) rights right n next)

pub shapes-more : (lines : List (List (List ℕ))) (rights : List Bool) (i : ℕ) → i < length rights → (d : Bool)
    → shapes lines 0 (take (i + 1) rights) ≡ shapes lines 0 (take i rights) ++ shape lines i (get_or rights i d) ∷ []
shapes-more lines rights i within d =
    let counted : i ≡ 0 + length (take i rights) = omega (arith, length-take-le i rights (omega (arith, within))) in
    ap (shapes lines 0) (take_more rights i d within) ∙ shapes-push lines 0 (take i rights) (get_or rights i d) i counted

pub shapes-next : (lines : List (List (List ℕ))) (rights : List Bool) (i : ℕ) (made : List Shape) (wide : ℕ) (right d : Bool) → i < length rights
    → made ≡ shapes lines 0 (take i rights) → wide ≡ widest (map (λ l. nth_text l i) lines) → right ≡ get_or rights i d
    → made ++ record { width = wide; right = right } ∷ [] ≡ shapes lines 0 (take (i + 1) rights)
shapes-next lines rights i made wide right d within so_far is same =
    ap₂ (λ (front : List Shape) (last : Shape). front ++ last ∷ []) so_far
    (ap₂ (λ (w : ℕ) (r : Bool). record { width = w; right = r }) is same)
    ∙ sym (shapes-more lines rights i within d)

-- one text more of a line
placed-push : (columns : List Shape) (texts : List (List ℕ)) (k : ℕ) (s : Shape) (t : List ℕ) → k < length columns → k < length texts → s ≡ get_or columns k s → t ≡ get_or texts k t
    → placed_texts columns (take (suc k) texts) ≡ placed_texts columns (take k texts) ++ placed s t ∷ []
placed-push [] texts k s t within_columns within is_s is_t = absurd (omega (arith, within_columns))
placed-push (c ∷ columns) [] k s t within_columns within is_s is_t = absurd (omega (arith, within))
placed-push (c ∷ columns) (u ∷ texts) zero s t within_columns within is_s is_t = ap₂ (λ (x : Shape) (y : List ℕ). placed x y ∷ []) (sym is_s) (sym is_t)
placed-push (c ∷ columns) (u ∷ texts) (suc k) s t within_columns within is_s is_t =
    ap (λ (rest : List (List ℕ)). placed c u ∷ rest) (placed-push columns texts k s t (omega (arith, within_columns)) (omega (arith, within)) is_s is_t)

front-suc : (columns : List Shape) (texts : List (List ℕ)) (k : ℕ) (s : Shape) (t : List ℕ) → k < length columns → k < length texts → s ≡ get_or columns k s → t ≡ get_or texts k t
    → front_of_line columns texts (suc k) ≡ front_of_line columns texts k ++ (gap k ++ placed s t)
front-suc [] texts k s t within_columns within is_s is_t = absurd (omega (arith, within_columns))
front-suc (c ∷ columns) [] k s t within_columns within is_s is_t = absurd (omega (arith, within))
front-suc (c ∷ columns) (u ∷ texts) zero s t within_columns within is_s is_t = ap₂ (λ (x : Shape) (y : List ℕ). placed x y) (sym is_s) (sym is_t)
front-suc (c ∷ columns) (u ∷ texts) (suc k) s t within_columns within is_s is_t =
    ap (join_with_byte 32) (placed-push (c ∷ columns) (u ∷ texts) (suc k) s t within_columns within is_s is_t)
    ∙ join-push 32 (placed c u) (placed_texts columns (take k texts)) (placed s t)

pub front-more : (columns : List Shape) (texts : List (List ℕ)) (k : ℕ) (s : Shape) (t : List ℕ) → k < length columns → k < length texts → s ≡ get_or columns k s → t ≡ get_or texts k t
    → front_of_line columns texts (k + 1) ≡ front_of_line columns texts k ++ (gap k ++ placed s t)
front-more columns texts k s t within_columns within is_s is_t = rw (add-one k) (front-suc columns texts k s t within_columns within is_s is_t)

-- a text without a column
no_column : (texts : List (List ℕ)) → placed_texts [] texts ≡ []
no_column [] = refl
no_column (t ∷ texts) = refl

past-suc : (columns : List Shape) (texts : List (List ℕ)) (k : ℕ) → length columns ≤ k → placed_texts columns (take (suc k) texts) ≡ placed_texts columns (take k texts)
past-suc [] texts k past = no_column (take (suc k) texts) ∙ sym (no_column (take k texts))
past-suc (c ∷ columns) texts zero past = absurd (omega (arith, past))
past-suc (c ∷ columns) [] (suc k) past = refl
past-suc (c ∷ columns) (t ∷ texts) (suc k) past = ap (λ (rest : List (List ℕ)). placed c t ∷ rest) (past-suc columns texts k (omega (arith, past)))

pub front-past : (columns : List Shape) (texts : List (List ℕ)) (k : ℕ) → length columns ≤ k → front_of_line columns texts (k + 1) ≡ front_of_line columns texts k
front-past columns texts k past = rw (add-one k) (ap (join_with_byte 32) (past-suc columns texts k past))

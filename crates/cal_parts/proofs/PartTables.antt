-- What is kept of groups in one list, as long for each.
use Rattle.std.proofs.Common.{◌≡◌, ℕ, zero, suc, ◌+◌, ◌*◌, ◌<◌, ◌≤◌, List, [], ◌∷◌, ◌++◌, drop, length, take, refl, sym, ap, ◌∙◌, arith, append_assoc}
use Rattle.std.specs.Prelude.{slice_get, slice_index_or}
use Rattle.std.specs.Option.{option_to_list}
use Rattle.std.specs.Simd.{first_chunks}
use Rattle.std.proofs.Math.Nat.{mul-le-mul_right}
use Rattle.std.proofs.Math.Seq.{drop-append_seam, drop-drop, take-append_seam, take-length}
use Rattle.std.proofs.lemmas.List.{length-drop, length-take, length-take-le, take-append-drop}
use Rattle.std.proofs.lemmas.Option.{slice_get_past}

-- there are as many groups as are asked for
pub length-first_chunks : {A : Type 0} (w n : ℕ) (xs : List A) → length (first_chunks w n xs) ≡ n
length-first_chunks w zero xs = refl
length-first_chunks w (suc n) xs = ap suc (length-first_chunks w n (drop w xs))

-- a number of the table's groups
pub number_there : {A : Type 0} (w n k : ℕ) (xs : List A) (groups : List (List A))
    → first_chunks w n xs ≡ groups → k < length groups → k < n
number_there w n k xs groups e l = omega (arith, l, ap length e, length-first_chunks w n xs)

-- the places of a group lie in the list
pub chunk_within : (w n k : ℕ) → k < n → k * w + w ≤ n * w
chunk_within w n k l = omega (arith, mul-le-mul_right {m = suc k} {n = n} w (omega (arith, l)))

pub places_within : {A : Type 0} (w n k : ℕ) (xs : List A) (groups : List (List A)) → length xs ≡ n * w
    → first_chunks w n xs ≡ groups → k < length groups → k * w + w ≤ length xs
places_within w n k xs groups e is l = omega (arith, e, chunk_within w n k (number_there w n k xs groups is l))

-- a group more takes as many places more
one_more : (w k : ℕ) → suc k * w ≡ w + k * w
one_more w k = omega arith

-- the parts of a group
pub chunk_at : {A : Type 0} (w n k : ℕ) (xs : List A) (d : List A) → k < n
    → slice_index_or (first_chunks w n xs) k d ≡ take w (drop (k * w) xs)
chunk_at w zero k xs d l = absurd (omega (arith, l))
chunk_at w (suc n) zero xs d l = let none : 0 * w ≡ 0 = omega arith in ap (λ j. take w (drop j xs)) (sym none)
chunk_at w (suc n) (suc k) xs d l =
    chunk_at w n k (drop w xs) d (omega (arith, l))
    ∙ ap (take w) (drop-drop (k * w) w xs ∙ ap (λ j. drop j xs) (sym (one_more w k)))

-- an item of a piece of a list
piece_at : {A : Type 0} (w j i : ℕ) (xs : List A) → i < w → slice_get (take w (drop j xs)) i ≡ slice_get xs (j + i)
piece_at zero j i xs l = absurd (omega (arith, l))
piece_at (suc w) zero zero [] l = refl
piece_at (suc w) zero zero (x ∷ xs) l = refl
piece_at (suc w) zero (suc i) [] l = sym (slice_get_past [] (0 + suc i) (omega arith))
piece_at (suc w) zero (suc i) (x ∷ xs) l =
    let next : suc (0 + i) ≡ 0 + suc i = omega arith in
    piece_at w 0 i xs (omega (arith, l)) ∙ ap (slice_get (x ∷ xs)) next
piece_at (suc w) (suc j) i [] l = slice_get_past [] i (omega arith) ∙ sym (slice_get_past [] (suc j + i) (omega arith))
piece_at (suc w) (suc j) i (x ∷ xs) l =
    let next : suc (j + i) ≡ suc j + i = omega arith in
    piece_at (suc w) j i xs l ∙ ap (slice_get (x ∷ xs)) next

-- a part of a group stands where it does in the list
pub chunk_place : {A : Type 0} (w n k i : ℕ) (xs : List A) → k < n → i < w
    → slice_get (slice_index_or (first_chunks w n xs) k []) i ≡ slice_get xs (k * w + i)
chunk_place w n k i xs l short = ap (λ ps. slice_get ps i) (chunk_at w n k xs [] l) ∙ piece_at w (k * w) i xs short

-- one item more of a list's beginning
pub take_next : {A : Type 0} (n : ℕ) (xs : List A) → take n xs ++ option_to_list (slice_get xs n) ≡ take (n + 1) xs
take_next zero [] = refl
take_next zero (x ∷ xs) = refl
take_next (suc n) [] = let next : suc (n + 1) ≡ suc n + 1 = omega arith in ap (λ k. take k []) next
take_next (suc n) (x ∷ xs) =
    let next : suc (n + 1) ≡ suc n + 1 = omega arith in
    ap (λ ys. x ∷ ys) (take_next n xs) ∙ ap (λ k. take k (x ∷ xs)) next

-- a group has no more parts than the table is wide
pub chunk_long : {A : Type 0} (w n k : ℕ) (xs : List A) → length (slice_index_or (first_chunks w n xs) k []) ≤ w
chunk_long w zero k xs = omega arith
chunk_long w (suc n) zero xs = omega (arith, length-take w xs)
chunk_long w (suc n) (suc k) xs = chunk_long w n k (drop w xs)

-- behind the last group is nothing
pub chunk_none : {A : Type 0} (w n k : ℕ) (xs : List A) (d : List A) → n ≤ k
    → slice_index_or (first_chunks w n xs) k d ≡ d
chunk_none w zero k xs d l = refl
chunk_none w (suc n) zero xs d l = absurd (omega (arith, l))
chunk_none w (suc n) (suc k) xs d l = chunk_none w n k (drop w xs) d (omega (arith, l))

-- the first group stands in front of the others
first_chunk : {A : Type 0} (w n : ℕ) (xs ys : List A) → length xs ≡ w
    → first_chunks w (suc n) (xs ++ ys) ≡ xs ∷ first_chunks w n ys
first_chunk w n xs ys e = λ i. front i ∷ first_chunks w n (rest i)
  where
    front : take w (xs ++ ys) ≡ xs
    front = ap (λ k. take k (xs ++ ys)) (sym e) ∙ take-append_seam xs ys

    rest : drop w (xs ++ ys) ≡ ys
    rest = ap (λ k. drop k (xs ++ ys)) (sym e) ∙ drop-append_seam xs ys

-- a group more at the end
chunk_more : {A : Type 0} (w n : ℕ) (xs ys : List A) → length xs ≡ n * w → length ys ≡ w
    → first_chunks w (suc n) (xs ++ ys) ≡ first_chunks w n xs ++ ys ∷ []
chunk_more w zero [] ys e l = ap (λ k. take k ys ∷ []) (sym l) ∙ ap (λ zs. zs ∷ []) (take-length ys)
chunk_more w zero (x ∷ xs) ys e l = absurd (omega (arith, e))
chunk_more w (suc n) xs ys e l =
    ap (λ zs. first_chunks w (suc (suc n)) (zs ++ ys)) (sym (take-append-drop w xs))
    ∙ ap (first_chunks w (suc (suc n))) (append_assoc (take w xs) (drop w xs) ys)
    ∙ first_chunk w (suc n) (take w xs) (drop w xs ++ ys) (length-take-le w xs (omega (arith, e)))
    ∙ ap (λ zs. take w xs ∷ zs) (chunk_more w n (drop w xs) ys (omega (arith, e, length-drop w xs)) l)

-- the first group says how many parts there are of each
pub chunks-push : {A : Type 0} (v w n : ℕ) (xs ys : List A) → length xs ≡ n * v → length ys ≡ w → (0 < n → v ≡ w)
    → first_chunks w (n + 1) (xs ++ ys) ≡ first_chunks v n xs ++ ys ∷ []
chunks-push v w zero xs ys e wide same = chunk_more w zero xs ys (omega (arith, e)) wide
chunks-push v w (suc n) xs ys e wide same =
    let is = same (omega arith) in
    let more : suc n + 1 ≡ suc (suc n) = omega arith in
    ap (λ k. first_chunks w k (xs ++ ys)) more
    ∙ chunk_more w (suc n) xs ys (e ∙ ap (λ k. suc n * k) is) wide
    ∙ ap (λ k. first_chunks k (suc n) xs ++ ys ∷ []) (sym is)

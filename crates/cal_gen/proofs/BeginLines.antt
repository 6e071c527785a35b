-- The lines that open values, one by one.
use Rattle.std.proofs.Common.{◌≡◌, ℕ, zero, suc, ◌<◌, List, [], ◌∷◌, ◌++◌, map, length, ap, ◌∙◌, refl, arith}
use Rattle.std.specs.Prelude.{codes, decimal, slice_index_or}
use Rattle.std.specs.Fmt.{digits}

abbrev pub begin_line_of : List ℕ → List ℕ
begin_line_of number = (codes "begin function f" ++ number) ++ 10 ∷ []

abbrev pub numbers : List (List ℕ)
numbers = (48 ∷ []) ∷ (49 ∷ []) ∷ (50 ∷ []) ∷ (51 ∷ []) ∷ (52 ∷ []) ∷ (53 ∷ []) ∷ (54 ∷ []) ∷ (55 ∷ []) ∷ (56 ∷ []) ∷ (57 ∷ []) ∷ (49 ∷ 48 ∷ []) ∷ (49 ∷ 49 ∷ []) ∷ (49 ∷ 50 ∷ []) ∷ (49 ∷ 51 ∷ []) ∷ (49 ∷ 52 ∷ []) ∷ (49 ∷ 53 ∷ []) ∷ []

number_at : (n : ℕ) → n < 16 → slice_index_or numbers n [] ≡ decimal n
unfolding digits
number_at zero h = refl
number_at (suc zero) h = refl
number_at (suc (suc zero)) h = refl
number_at (suc (suc (suc zero))) h = refl
number_at (suc (suc (suc (suc zero)))) h = refl
number_at (suc (suc (suc (suc (suc zero))))) h = refl
number_at (suc (suc (suc (suc (suc (suc zero)))))) h = refl
number_at (suc (suc (suc (suc (suc (suc (suc zero))))))) h = refl
number_at (suc (suc (suc (suc (suc (suc (suc (suc zero)))))))) h = refl
number_at (suc (suc (suc (suc (suc (suc (suc (suc (suc zero))))))))) h = refl
number_at (suc (suc (suc (suc (suc (suc (suc (suc (suc (suc zero)))))))))) h = refl
number_at (suc (suc (suc (suc (suc (suc (suc (suc (suc (suc (suc zero))))))))))) h = refl
number_at (suc (suc (suc (suc (suc (suc (suc (suc (suc (suc (suc (suc zero)))))))))))) h = refl
number_at (suc (suc (suc (suc (suc (suc (suc (suc (suc (suc (suc (suc (suc zero))))))))))))) h = refl
number_at (suc (suc (suc (suc (suc (suc (suc (suc (suc (suc (suc (suc (suc (suc zero)))))))))))))) h = refl
number_at (suc (suc (suc (suc (suc (suc (suc (suc (suc (suc (suc (suc (suc (suc (suc zero))))))))))))))) h = refl
number_at (suc (suc (suc (suc (suc (suc (suc (suc (suc (suc (suc (suc (suc (suc (suc (suc n)))))))))))))))) h = absurd (omega arith)

lines_at : (ns : List (List ℕ)) (n : ℕ) → n < length ns → slice_index_or (map begin_line_of ns) n [] ≡ begin_line_of (slice_index_or ns n [])
lines_at [] n h = absurd (omega arith)
lines_at (x ∷ xs) zero h = refl
lines_at (x ∷ xs) (suc n) h = lines_at xs n (omega arith)

-- the line of a number stands at its place
pub begin_line_at : (n : ℕ) → n < 16 → slice_index_or (map begin_line_of numbers) n [] ≡ begin_line_of (decimal n)
begin_line_at n few = lines_at numbers n few ∙ ap begin_line_of (number_at n few)

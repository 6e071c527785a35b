-- Parts that are merged where they are.
use Rattle.std.proofs.Common.{◌≡◌, ℕ, zero, suc, ◌+◌, ◌<◌, ◌≤◌, List, [], ◌∷◌, ◌++◌, drop, get_or, length, take, slice_get}
use Rattle.std.proofs.Common.{refl, sym, ap, ◌∙◌, arith, append-nil, append_assoc}
use Rattle.std.specs.Prelude.{slice_set}
use Rattle.std.proofs.Math.ListN.{drop_of_length-le}
use Rattle.std.proofs.Math.Seq.{set-append_seam, take-length}
use Rattle.std.proofs.lemmas.List.{length-append, length-drop, length-take-le, take_more}
use Rattle.std.proofs.lemmas.Option.{slice_get-get_or, slice_get_past}
use Rattle.cal_parts.specs.Parts.{Gathered, behind, merged_part, merged_parts}
use Rattle.cal_parts.proofs.Drops.{rest_at}

drop_get : (ones : List Gathered) (n : ℕ) → slice_get (drop 1 ones) n ≡ slice_get ones (suc n)
drop_get [] n = refl
drop_get (o ∷ os) n = refl

merged_length : (ones others : List Gathered) → length (merged_parts ones others) ≡ length others
merged_length ones [] = refl
merged_length ones (x ∷ xs) = ap suc (merged_length (drop 1 ones) xs)

-- one place more
merged_push : (ones xs : List Gathered) (y : Gathered)
    → merged_parts ones (xs ++ y ∷ []) ≡ merged_parts ones xs ++ behind (slice_get ones (length xs)) y ∷ []
merged_push ones [] y = refl
merged_push ones (x ∷ xs) y =
    ap (λ ps. behind (slice_get ones 0) x ∷ ps)
    (merged_push (drop 1 ones) xs y
    ∙ ap (λ o. merged_parts (drop 1 ones) xs ++ behind o y ∷ []) (drop_get ones (length xs)))

-- places beyond the others don't count
pub merged_truncated : (ones others : List Gathered) → merged_parts (take (length others) ones) others ≡ merged_parts ones others
merged_truncated ones [] = refl
merged_truncated [] (x ∷ xs) = refl
merged_truncated (o ∷ os) (x ∷ xs) = ap (λ ps. merged_part o x ∷ ps) (merged_truncated os xs)

module _ (old fresh now : List Gathered) (n : ℕ) (part : Gathered) (within : n < length fresh) (read : part ≡ get_or fresh n part)
    (is : now ≡ merged_parts old (take n fresh) ++ drop n old) where
  long : length (take n fresh) ≡ n
  long = length-take-le n fresh (omega (arith, within))

  front : length (merged_parts old (take n fresh)) ≡ n
  front = merged_length old (take n fresh) ∙ long

  next : merged_parts old (take (n + 1) fresh) ≡ merged_parts old (take n fresh) ++ behind (slice_get old n) part ∷ []
  next =
      ap (merged_parts old) (take_more fresh n part within ∙ ap (λ x. take n fresh ++ x ∷ []) (sym read))
      ∙ merged_push old (take n fresh) part
      ∙ ap (λ i. merged_parts old (take n fresh) ++ behind (slice_get old i) part ∷ []) long

  counted : length now ≡ n + length (drop n old)
  counted =
      ap length is ∙ length-append (merged_parts old (take n fresh)) (drop n old)
      ∙ ap (λ i. i + length (drop n old)) front

  -- a place that is there gets the part behind
  pub merged_there : (own merged : Gathered) → n < length now → own ≡ get_or now n own → merged ≡ merged_part own part
      → slice_set now n merged ≡ merged_parts old (take (n + 1) fresh) ++ drop (n + 1) old
  merged_there own merged short at merged_is =
      ap (λ xs. slice_set xs n merged) split
      ∙ ap (λ i. slice_set (merged_parts old (take n fresh) ++ x ∷ drop (n + 1) old) i merged) (sym front)
      ∙ set-append_seam (merged_parts old (take n fresh)) x (drop (n + 1) old) merged
      ∙ ap (λ m. merged_parts old (take n fresh) ++ m ∷ drop (n + 1) old) same
      ∙ sym (append_assoc (merged_parts old (take n fresh)) (behind (slice_get old n) part ∷ []) (drop (n + 1) old))
      ∙ ap (λ xs. xs ++ drop (n + 1) old) (sym next)
    where
      inside : n < length old
      inside = omega (arith, short, counted, length-drop n old)

      x : Gathered
      x = get_or old n own

      split : now ≡ merged_parts old (take n fresh) ++ get_or old n own ∷ drop (n + 1) old
      split = is ∙ ap (λ xs. merged_parts old (take n fresh) ++ xs) (rest_at old n (get_or old n own) inside (read_twice old n own inside))
        where
          read_twice : (xs : List Gathered) (i : ℕ) (d : Gathered) → i < length xs → get_or xs i d ≡ get_or xs i (get_or xs i d)
          read_twice [] i d l = absurd (omega (arith, l))
          read_twice (y ∷ ys) zero d l = refl
          read_twice (y ∷ ys) (suc i) d l = read_twice ys i d (omega (arith, l))

      own_is : own ≡ get_or old n own
      own_is =
          at ∙ ap (λ xs. get_or xs n own) split
          ∙ ap (λ i. get_or (merged_parts old (take n fresh) ++ get_or old n own ∷ drop (n + 1) old) i own) (sym front)
          ∙ seam (merged_parts old (take n fresh)) (get_or old n own) (drop (n + 1) old)
        where
          seam : (xs : List Gathered) (y : Gathered) (ys : List Gathered) → get_or (xs ++ y ∷ ys) (length xs) own ≡ y
          seam [] y ys = refl
          seam (z ∷ zs) y ys = seam zs y ys

      same : merged ≡ behind (slice_get old n) part
      same =
          merged_is ∙ ap (λ o. merged_part o part) own_is
          ∙ ap (λ o. behind o part) (sym (slice_get-get_or old n own inside))

  -- and one that isn't gets the part alone
  pub merged_beyond : length now ≤ n → now ++ part ∷ [] ≡ merged_parts old (take (n + 1) fresh) ++ drop (n + 1) old
  merged_beyond beyond =
      ap (λ xs. xs ++ part ∷ []) (is ∙ ap (λ xs. merged_parts old (take n fresh) ++ xs) (drop_of_length-le old outside) ∙ append-nil _)
      ∙ ap (λ o. merged_parts old (take n fresh) ++ behind o part ∷ []) (sym (slice_get_past old n outside))
      ∙ sym next
      ∙ sym (append-nil _)
      ∙ ap (λ xs. merged_parts old (take (n + 1) fresh) ++ xs) (sym (drop_of_length-le old further))
    where
      outside : length old ≤ n
      outside = omega (arith, beyond, counted, length-drop n old)

      further : length old ≤ n + 1
      further = omega (arith, outside)

-- all places are merged
pub merged_whole : (old fresh now : List Gathered) (n : ℕ) → n ≡ length fresh → length old ≤ length fresh
    → now ≡ merged_parts old (take n fresh) ++ drop n old → now ≡ merged_parts old fresh
merged_whole old fresh now n e within is =
    is ∙ (λ i. merged_parts old (take (e i) fresh) ++ drop (e i) old)
    ∙ (λ i. merged_parts old (take-length fresh i) ++ drop_of_length-le old within i)
    ∙ append-nil (merged_parts old fresh)

-- with no place beyond
pub merged_cut : (old cut fresh now : List Gathered) → cut ≡ take (length fresh) old → now ≡ merged_parts cut fresh → now ≡ merged_parts old fresh
merged_cut old cut fresh now e is = is ∙ ap (λ xs. merged_parts xs fresh) e ∙ merged_truncated old fresh

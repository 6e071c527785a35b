-- The greatest number of a list, and the sizes of a run's tables.
use Rattle.std.proofs.Common.{◌≡◌, ℕ, zero, suc, ◌+◌, ◌*◌, ◌<◌, ◌≤◌, List, [], ◌∷◌, length, get_or, take, arith}
use Rattle.std.specs.Prelude.{fold, max, sum_by}
use Rattle.std.proofs.Math.Nat.{le-mul_of_pos_right, mul-le-mul, mul_comm}
use Rattle.std.proofs.lemmas.List.Sums.{fold_more, get_or-le-sum_by, sum_by-cons}
use Rattle.cal_words.specs.Shapes.{IsShape, word_count}
use Rattle.cal_script.specs.Shapes.{greatest, history_layout, own_words, process_lines, shared_words, tree_arena, tree_layout}
use Rattle.cal_script.specs.Valid.{IsRunnable}
use Rattle.cal_script.specs.declared.script.Line.{Line}
use Rattle.cal_script.specs.declared.script.Script.{Script}

module _ {X : Type 0} (f : X → ℕ) where
  -- no number before is greater
  start-fold_max : (start : ℕ) (xs : List X) → start ≤ fold (λ most x. max most (f x)) start xs
  start-fold_max start [] = omega arith
  start-fold_max start (x ∷ xs) = omega (arith, start-fold_max (max start (f x)) xs)

  item-fold_max : (start : ℕ) (xs : List X) (i : ℕ) (d : X) → i < length xs
      → f (get_or xs i d) ≤ fold (λ most x. max most (f x)) start xs
  item-fold_max start [] i d l = absurd (omega (arith, l))
  item-fold_max start (x ∷ xs) zero d l = omega (arith, start-fold_max (max start (f x)) xs)
  item-fold_max start (x ∷ xs) (suc i) d l = item-fold_max (max start (f x)) xs i d (omega (arith, l))

  -- nor is an item's
  pub item-greatest : (xs : List X) (i : ℕ) (d : X) → i < length xs
      → f (get_or xs i d) ≤ greatest f xs
  item-greatest xs i d l = item-fold_max 0 xs i d l

  fold_max-sum_by : (start : ℕ) (xs : List X)
      → fold (λ most x. max most (f x)) start xs ≤ start + sum_by f xs
  fold_max-sum_by start [] = omega arith
  fold_max-sum_by start (x ∷ xs) =
      omega (arith, fold_max-sum_by (max start (f x)) xs, sum_by-cons f x xs)

  -- the greatest number is at most their sum
  pub greatest-sum_by : (xs : List X) → greatest f xs ≤ sum_by f xs
  greatest-sum_by xs = omega (arith, fold_max-sum_by 0 xs)

  -- one item more
  pub greatest_more : (xs : List X) (i : ℕ) (d : X) → i < length xs
      → greatest f (take (i + 1) xs) ≡ max (greatest f (take i xs)) (f (get_or xs i d))
  greatest_more xs i d l = fold_more (λ most x. max most (f x)) 0 xs i d l

-- so many slots are few
pub slots-small : (threads most : ℕ) → threads ≤ 64 → most ≤ 65536 → (threads + 1) * most ≤ 4259840
slots-small threads most few small =
    let few_more : threads + 1 ≤ 65 = omega (arith, few) in
    let bound : (threads + 1) * most ≤ 65 * 65536 = mul-le-mul few_more small in bound

pub history_is_shape : (threads most : ℕ) → threads ≤ 64 → most ≤ 65536
    → IsShape (history_layout threads most)
history_is_shape threads most few small =
    let bound = slots-small threads most few small in
    let few_more : threads + 1 ≤ 65 = omega (arith, few) in
    let arena : 7 * most ≤ 7 * 65536 = omega (arith, small) in
    let arenas : (threads + 1) * (7 * most) ≤ 65 * (7 * 65536) = mul-le-mul few_more arena in
    record {
      some_home = omega arith;
      enough_slots = omega arith;
      some_arena = omega arith;
      small = omega (arith, bound, arenas);
    }

pub tree_is_shape : (threads arena : ℕ) → word_count (tree_layout threads arena) ≤ 134217728
    → IsShape (tree_layout threads arena)
tree_is_shape threads arena room = record {
  some_home = omega arith;
  enough_slots = omega arith;
  some_arena = omega arith;
  small = omega (arith, room);
}

module _ (script : Script) (can : IsRunnable script) where
  pub arena-small : tree_arena script ≤ 134217728
  arena-small =
      let some : 0 < length script.threads + 1 = omega arith in
      let whole : tree_arena script ≤ tree_arena script * (length script.threads + 1) =
      le-mul_of_pos_right (tree_arena script) some in
      let turned : tree_arena script * (length script.threads + 1)
      ≡ (length script.threads + 1) * tree_arena script = mul_comm (tree_arena script) (length script.threads + 1) in
      omega (arith, can.room, whole, turned)

  -- the words of one thread are within the arena
  pub shared-small : (i : ℕ) (d : List Line) → i < length script.threads
      → sum_by (shared_words script) (get_or script.threads i d) ≤ 134217728
  shared-small i d l =
      omega (arith, arena-small, get_or-le-sum_by (sum_by (shared_words script)) script.threads i d l)

  pub own-small : (i : ℕ) (d : List Line) → i < length script.threads
      → sum_by (own_words script) (get_or script.threads i d) ≤ 134217728
  own-small i d l =
      omega (arith, arena-small, item-greatest (sum_by (own_words script)) script.threads i d l)

  pub most-small : greatest (process_lines script) script.threads ≤ 65536
  most-small =
      omega (arith, can.few_process_lines, greatest-sum_by (process_lines script) script.threads)

-- Regions of words, and the arenas in which they lie.
use Rattle.std.proofs.Common.{◌≡◌, ◌⊎◌, ℕ, suc, ◌+◌, ◌*◌, ◌^◌, ◌<◌, ◌≤◌, List, length, get_or, take, drop, sym, ap, ◌∙◌, inl, inr, ⊎_elim, arith, length-take, length-drop, get_or-take, get_or-drop, mod-lt}
use Rattle.std.proofs.lemmas.Bool.{cases_lt}
use Rattle.std.proofs.lemmas.List.{ext_get_or}
use Rattle.std.proofs.Math.Nat.{mul-le-mul_right, suc-mul}
use Rattle.cal_words.specs.declared.shape.Shape.{Shape}
use Rattle.cal_once.specs.Layout.{IsWithin, word_count, arena_start, size_in, start_in, slot_for, probe}

pub length-part : (words : List ℕ) (n at : ℕ) → at + n ≤ length words → length (take n (drop at words)) ≡ n
length-part words n at inside = omega (arith, length-take n (drop at words), length-drop at words)

pub get_or-part : (words : List ℕ) (n at j : ℕ) → j < n → get_or (take n (drop at words)) j 0 ≡ get_or words (at + j) 0
get_or-part words n at j h = get_or-take n (drop at words) j 0 h ∙ get_or-drop at words j 0

-- a part of a list, word by word
pub part_is : (words : List ℕ) (at : ℕ) (rec : List ℕ) → at + length rec ≤ length words → ((j : ℕ) → j < length rec → get_or words (at + j) 0 ≡ get_or rec j 0) → take (length rec) (drop at words) ≡ rec
part_is words at rec inside each =
    let long = length-part words (length rec) at inside in
    ext_get_or 0 (take (length rec) (drop at words)) rec long (λ j h. get_or-part words (length rec) at j (omega arith) ∙ each j (omega arith))

-- two parts with equal words
pub same_part : (xs ys : List ℕ) (n at : ℕ) → length xs ≡ length ys → ((j : ℕ) → at ≤ j → j < at + n → get_or xs j 0 ≡ get_or ys j 0) → at + n ≤ length xs → take n (drop at xs) ≡ take n (drop at ys)
same_part xs ys n at long each inside =
    let a = length-part xs n at inside in
    let b = length-part ys n at (omega arith) in
    ext_get_or 0 (take n (drop at xs)) (take n (drop at ys)) (a ∙ sym b) (λ j h. get_or-part xs n at j (omega arith) ∙ each (at + j) (omega arith) (omega arith) ∙ sym (get_or-part ys n at j (omega arith)))

-- x rows of n, and one row more
further : (x y n : ℕ) → x < y → x * n + n ≤ y * n
further x y n h = let a : suc x * n ≤ y * n = mul-le-mul_right n h in omega (arith, suc-mul x n)

-- arenas end before the words do
pub arena_inside : (shape : Shape) (n used : ℕ) → n < shape.arenas → used ≤ shape.arena → arena_start shape n + used ≤ word_count shape
arena_inside shape n used is_arena room = let f = further n shape.arenas shape.arena is_arena in omega arith

-- an arena ends where the next one starts
pub arena_before : (shape : Shape) (m n : ℕ) → m < n → arena_start shape m + shape.arena ≤ arena_start shape n
arena_before shape m n h = let f = further m n shape.arena h in omega arith

-- a word lies in one arena alone
pub one_arena : (shape : Shape) (m n i : ℕ) → arena_start shape m ≤ i → i < arena_start shape m + shape.arena → arena_start shape n ≤ i → i < arena_start shape n + shape.arena → m ≡ n
one_arena shape m n i a b c d = ⊎_elim
    (λ (h : m < n). let f = arena_before shape m n h in absurd (omega arith))
    (λ (h : n ≤ m). ⊎_elim (λ (g : n < m). let f = arena_before shape n m g in absurd (omega arith)) (λ (g : m ≤ n). omega arith) (cases_lt n m))
    (cases_lt m n)

-- a region lies in one arena alone
pub one_region : (shape : Shape) (m n a b w : ℕ) → a ≤ shape.arena → b ≤ shape.arena → IsWithin shape m a w → IsWithin shape n b w → m ≡ n
one_region shape m n a b w ha hb x y = let x1 = x.two_words in let x2 = x.from in let x3 = x.to in let y2 = y.from in let y3 = y.to in
    one_arena shape m n (start_in w) (omega arith) (omega arith) (omega arith) (omega arith)

-- words of an arena behind its used part lie apart from a region in some arena's used part
pub beside : (shape : Shape) (used : ℕ → ℕ) (m n w low high : ℕ) → IsWithin shape m (used m) w → used m ≤ shape.arena → arena_start shape n + used n ≤ low → high ≤ arena_start shape n + shape.arena → (high ≤ start_in w) ⊎ (start_in w + size_in w ≤ low)
beside shape used m n w low high x room a b = let from = x.from in let to = x.to in ⊎_elim
    (λ (less : m < n). let c = arena_before shape m n less in inr (omega arith))
    (λ (more : n ≤ m). ⊎_elim (λ (greater : n < m). let c = arena_before shape n m greater in inl (omega arith))
    (λ (least : m ≤ n). let same : m ≡ n = omega arith in let u = ap used same in let s = ap (arena_start shape) same in inr (omega arith)) (cases_lt n m))
    (cases_lt m n)

-- the words of a slot that names a record
pub size-slot_for : (size start : ℕ) → start < 2 ^ 32 → size_in (slot_for size start) ≡ size
size-slot_for size start h = omega arith

pub start-slot_for : (size start : ℕ) → start < 2 ^ 32 → start_in (slot_for size start) ≡ start
start-slot_for size start h = omega arith

pub probe_below : (shape : Shape) (home distance : ℕ) → 0 < shape.slots → probe shape home distance < shape.slots
probe_below shape home distance h = mod-lt (home + distance) h

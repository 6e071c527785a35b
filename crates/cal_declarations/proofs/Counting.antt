-- What is counted of the declarations so far.
use Rattle.std.proofs.Common.{◌≡◌, ℕ, ◌+◌, ◌≤◌, Bool, true, false, List, [], ◌∷◌, ◌++◌, length, refl, sym, ap, ◌∙◌, subst, arith}
use Rattle.std.specs.Prelude.{All, IsTrue, max, nat_le, ◌&&◌, option_to_list}
use Rattle.std.specs.List.{list_all}
use Rattle.std.proofs.lemmas.Bool.{and_parts, leb-true}
use Rattle.std.proofs.lemmas.List.{append-nil, length-append}
use Rattle.std.proofs.lemmas.List.Elements.{All-nil, All-push}
use Rattle.std.proofs.lemmas.List.Sums.{fold-append, sum_by_push}
use Rattle.std.proofs.lemmas.Nat.{mul-le}
use Rattle.cal_value.specs.declared.attribute.Attribute.{Attribute}
use Rattle.cal_script.proofs.FirstWords.{named_more}
use Rattle.cal_script.specs.Names.{is_name, is_name_byte}
use Rattle.cal_script.specs.Reader.{AreNamed}
use Rattle.cal_script.specs.Shapes.{greatest}
use Rattle.cal_words.proofs.Bytes.{length-text_words}
use Rattle.cal_words.specs.Shapes.{IsShape, word_count}
use Rattle.cal_declarations.specs.Counts.{IsFew, arena, counted, next_thread}
use Rattle.cal_declarations.specs.Layout.{fits, line_count, names_layout, names_shape, record_words, thread_words}
use Rattle.cal_declarations.specs.Reader.{IsReading, IsSmall, ended, last_thread, state_of}
use Rattle.cal_declarations.specs.Reading.{threads_of}
use Rattle.cal_declarations.specs.declared.reader.Reader.{Reader}

-- the greatest number of a list with one item more
pub greatest_push : {X : Type 0} (f : X → ℕ) (xs : List X) (x : X) → greatest f (xs ++ x ∷ []) ≡ max (greatest f xs) (f x)
greatest_push f xs x = fold-append (λ most y. max most (f y)) 0 xs (x ∷ [])

-- one declaration more in the last thread
pub one_line_more : (earlier : List (List Attribute)) (lines : List Attribute) (d : Attribute) → line_count (earlier ++ (lines ++ d ∷ []) ∷ []) ≡ line_count (earlier ++ lines ∷ []) + 1
one_line_more earlier lines d =
    let f : List Attribute → ℕ = λ ls. length ls in
    omega (arith, sum_by_push f earlier (lines ++ d ∷ []), sum_by_push f earlier lines, length-append lines (d ∷ []))

-- a thread without a declaration
pub no_line_more : (threads : List (List Attribute)) → line_count (threads ++ [] ∷ []) ≡ line_count threads
no_line_more threads = let f : List Attribute → ℕ = λ ls. length ls in omega (arith, sum_by_push f threads [])

-- a table's arena is smaller than the table
pub arena_small : (threads room most : ℕ) → word_count (names_layout threads room) ≤ most → room ≤ most
arena_small threads room most small = let part = mul-le 1 room (threads + 1) room (omega arith) (omega arith) in omega arith

-- the arena of the threads so far, by what is counted
arena_by : (in_thread : Bool) (earlier : List (List Attribute)) (lines : List Attribute) (own most : ℕ) → own ≡ thread_words lines → most ≡ greatest thread_words earlier → (in_thread ≡ false → (earlier ≡ []) × (lines ≡ []))
    → greatest thread_words (earlier ++ option_to_list (last_thread in_thread lines)) ≡ max most own
arena_by true earlier lines own most own_is most_is before = greatest_push thread_words earlier lines ∙ (λ i. max (sym most_is i) (sym own_is i))
arena_by false earlier lines own most own_is most_is before =
    let none = before refl in
    let first : greatest thread_words (earlier ++ []) ≡ 0 = ap (λ (ts : List (List Attribute)). greatest thread_words (ts ++ [])) none.0 in
    let most_none : most ≡ 0 = most_is ∙ ap (greatest thread_words) none.0 in
    let own_none : own ≡ 0 = own_is ∙ ap thread_words none.1 in
    first ∙ omega arith

pub arena_of : (reader : Reader) → IsReading reader → greatest thread_words (threads_of (state_of reader)) ≡ arena reader.counts
arena_of reader kept = arena_by reader.in_thread reader.earlier reader.lines reader.counts.own reader.counts.most kept.own kept.most kept.before

-- what doesn't pass the limits is small
pub record AreFew (all : List (List Attribute)) : Type 0 where
  pub threads : length all ≤ 64
  pub lines : line_count all ≤ 1048576
  pub words : word_count (names_shape all) ≤ 134217728
  pub arena : greatest thread_words all ≤ 134217728

pub are_few : (threads : List (List Attribute)) → fits threads ≡ true → AreFew threads
are_few threads fine =
    let first = and_parts (nat_le (length threads) 64) (nat_le (line_count threads) 1048576 && nat_le (word_count (names_shape threads)) 134217728) fine in
    let second = and_parts (nat_le (line_count threads) 1048576) (nat_le (word_count (names_shape threads)) 134217728) first.1 in
    let words = leb-true (word_count (names_shape threads)) 134217728 second.1 in
    record {
      threads = leb-true (length threads) 64 first.0;
      lines = leb-true (line_count threads) 1048576 second.0;
      words = words;
      arena = arena_small (length threads) (greatest thread_words threads) 134217728 words;
    }

-- whether no limit is passed, by what is counted
pub fits_of : (reader : Reader) → IsReading reader → fits (threads_of (state_of reader)) ≡ (nat_le (length (threads_of (state_of reader))) 64
    && (nat_le reader.counts.lines 1048576 && nat_le (word_count (names_layout (length (threads_of (state_of reader))) (arena reader.counts))) 134217728))
fits_of reader kept =
    let n : ℕ = length (threads_of (state_of reader)) in
    λ i. nat_le n 64 && (nat_le (sym kept.lines i) 1048576 && nat_le (word_count (names_layout n (arena_of reader kept i))) 134217728)

pub shape_of : (reader : Reader) → IsReading reader → names_shape (threads_of (state_of reader)) ≡ names_layout (length (threads_of (state_of reader))) (arena reader.counts)
shape_of reader kept = ap (names_layout (length (threads_of (state_of reader)))) (arena_of reader kept)

-- what doesn't pass the limits can be counted on
pub few_of : (reader : Reader) → IsReading reader → AreFew (threads_of (state_of reader)) → IsFew reader.counts
few_of reader kept few =
    let lines = kept.lines in
    let room = arena_of reader kept in
    let lines_few = few.lines in
    let arena_few = few.arena in
    record { lines = omega arith; own = omega arith; most = omega arith }

-- the threads and their names, where the last may not have begun
all_named : (in_thread : Bool) (earlier : List (List Attribute)) (lines : List Attribute) → All AreNamed earlier → AreNamed lines → All AreNamed (earlier ++ option_to_list (last_thread in_thread lines))
all_named true earlier lines first last = All-push AreNamed earlier lines first last
all_named false earlier lines first last = subst (All AreNamed) (sym (append-nil earlier)) first

pub named_of : (reader : Reader) → IsReading reader → All AreNamed (threads_of (state_of reader))
named_of reader kept = all_named reader.in_thread reader.earlier reader.lines kept.earlier_named kept.named

-- a thread begins
pub thread_kept : (old : Reader) → IsReading old → IsReading (record (ended old) { in_thread = true; counts = next_thread old.counts })
thread_kept old kept = record {
  lines = kept.lines ∙ sym (no_line_more (threads_of (state_of old)));
  own = refl;
  most = sym (arena_of old kept);
  before = λ no. absurd (let impossible : true ≡ false = no in cc);
  earlier_named = named_of old kept;
  named = All-nil (λ (a : Attribute). IsTrue (is_name a.name));
}

pub thread_small : (old : Reader) → IsReading old → AreFew (threads_of (state_of old)) → IsSmall (record (ended old) { in_thread = true; counts = next_thread old.counts })
thread_small old kept few =
    let threads = few.threads in
    let lines = kept.lines in
    let lines_few = few.lines in
    let room = arena_of old kept in
    let arena_few = few.arena in
    record { threads = omega arith; few = record { lines = omega arith; own = omega arith; most = omega arith } }

-- a declaration is added
pub line_kept : (old : Reader) (d : Attribute) → IsReading old → old.in_thread ≡ true → IsTrue (is_name d.name) → IsReading (record old { lines = old.lines ++ d ∷ []; counts = counted (record_words d) old.counts })
line_kept old d kept inside named = record {
  lines = ap (λ (n : ℕ). n + 1) kept.lines ∙ counted_more;
  own = ap (λ (n : ℕ). n + record_words d) kept.own ∙ sym (sum_by_push record_words old.lines d);
  most = kept.most;
  before = λ no. absurd (let impossible : true ≡ false = sym inside ∙ no in cc);
  earlier_named = kept.earlier_named;
  named = named_more old.lines d kept.named named;
}
  where
    counted_more : line_count (threads_of (state_of old)) + 1 ≡ line_count (old.earlier ++ option_to_list (last_thread old.in_thread (old.lines ++ d ∷ [])))
    counted_more =
        ap (λ (b : Bool). line_count (old.earlier ++ option_to_list (last_thread b old.lines)) + 1) inside
        ∙ sym (one_line_more old.earlier old.lines d)
        ∙ ap (λ (b : Bool). line_count (old.earlier ++ option_to_list (last_thread b (old.lines ++ d ∷ [])))) (sym inside)

pub line_small : (old : Reader) (d : Attribute) → IsReading old → old.in_thread ≡ true → AreFew (threads_of (state_of old)) → record_words d ≤ 29 → IsSmall (record old { lines = old.lines ++ d ∷ []; counts = counted (record_words d) old.counts })
line_small old d kept inside few short =
    let many : length (threads_of (state_of old)) ≡ length old.earlier + 1 = ap (λ (b : Bool). length (old.earlier ++ option_to_list (last_thread b old.lines))) inside ∙ length-append old.earlier (old.lines ∷ []) in
    let threads = few.threads in
    let lines = kept.lines in
    let lines_few = few.lines in
    let room = arena_of old kept in
    let arena_few = few.arena in
    record { threads = omega arith; few = record { lines = omega arith; own = omega arith; most = omega arith } }

-- a name has few words
pub words_of_name : (d : Attribute) → IsTrue (is_name d.name) → record_words d ≤ 29
words_of_name d named =
    let parts = and_parts (nat_le 1 (length d.name) && nat_le (length d.name) 200) (list_all is_name_byte d.name) named in
    let both = and_parts (nat_le 1 (length d.name)) (nat_le (length d.name) 200) parts.0 in
    let short = leb-true (length d.name) 200 both.1 in
    omega (arith, length-text_words d.name)

-- a table of the layout is one
pub is_shape : (threads : List (List Attribute)) → AreFew threads → IsShape (names_shape threads)
is_shape threads few = let words = few.words in record { some_home = omega arith; enough_slots = omega arith; some_arena = omega arith; small = omega arith }

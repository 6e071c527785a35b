-- What is counted only grows from line to line, so that what fits at the end fits before.
use Rattle.std.proofs.Common.{◌≡◌, ℕ, ◌+◌, ◌*◌, ◌/◌, ◌≤◌, Bool, true, false, ◌&&◌, leb, length}
use Rattle.std.proofs.Common.{refl, arith}
use Rattle.std.proofs.Math.Nat.{mul-le-mul}
use Rattle.std.proofs.lemmas.Bool.{le-leb, leb-true}
use Rattle.cal_script.specs.Limits.{arena, fits, thread_count, tree_words}
use Rattle.cal_script.specs.State.{State, counted, next_thread}
use Rattle.cal_script.specs.declared.tally.Tally.{Tally}

-- what the limits count has not become less
pub record Grows (old new : State) : Type 0 where
  pub attributes : length old.attributes ≤ length new.attributes
  pub channels : length old.channels ≤ length new.channels
  pub threads : thread_count old ≤ thread_count new
  pub lines : old.tally.lines ≤ new.tally.lines
  pub process_lines : old.tally.process_lines ≤ new.tally.process_lines
  pub arena : arena old.tally ≤ arena new.tally

pub grows_on : (one two three : State) → Grows one two → Grows two three → Grows one three
grows_on one two three first second = record {
  attributes = omega (arith, first.attributes, second.attributes);
  channels = omega (arith, first.channels, second.channels);
  threads = omega (arith, first.threads, second.threads);
  lines = omega (arith, first.lines, second.lines);
  process_lines = omega (arith, first.process_lines, second.process_lines);
  arena = omega (arith, first.arena, second.arena);
}

pub grows_same : (state : State) → Grows state state
grows_same state = record {
  attributes = omega arith;
  channels = omega arith;
  threads = omega arith;
  lines = omega arith;
  process_lines = omega arith;
  arena = omega arith;
}

tree_grows : (t u a b : ℕ) → t ≤ u → a ≤ b → tree_words t a ≤ tree_words u b
tree_grows t u a b threads arenas =
    let quarter : (t + 1) * (a / 4) ≤ (u + 1) * (b / 4) = mul-le-mul (omega arith) (omega arith) in
    let whole : (t + 1) * a ≤ (u + 1) * b = mul-le-mul (omega arith) arenas in
    omega (arith, quarter, whole)

pub six_true : (a b c d e f : Bool) → a ≡ true → b ≡ true → c ≡ true → d ≡ true → e ≡ true → f
    ≡ true → (a && b && c && d && e && f) ≡ true
six_true a b c d e f p q r s t u = λ i. p i && q i && r i && s i && t i && u i

all_six : (a b c d e f : Bool) → (a && b && c && d && e && f) ≡ true
    → (a ≡ true) × (b ≡ true) × (c ≡ true) × (d ≡ true) × (e ≡ true) × (f ≡ true)
all_six false b c d e f is = absurd cc
all_six true false c d e f is = absurd cc
all_six true true false d e f is = absurd cc
all_six true true true false e f is = absurd cc
all_six true true true true false f is = absurd cc
all_six true true true true true f is = (refl, refl, refl, refl, refl, is)

smaller : (a b most : ℕ) → a ≤ b → leb b most ≡ true → leb a most ≡ true
smaller a b most less is = le-leb a most (omega (arith, less, leb-true b most is))

pub fits_before : (old new : State) → Grows old new → fits new ≡ true → fits old ≡ true
fits_before old new grows fine =
    let room : ℕ = tree_words (thread_count new) (arena new.tally) in
    let passed = all_six (leb (length new.attributes) 1024) (leb (length new.channels) 16)
    (leb (thread_count new) 64) (leb new.tally.lines 1048576)
    (leb new.tally.process_lines 65536) (leb room 134217728) fine in
    six_true (leb (length old.attributes) 1024) (leb (length old.channels) 16)
    (leb (thread_count old) 64) (leb old.tally.lines 1048576)
    (leb old.tally.process_lines 65536) (leb (tree_words (thread_count old) (arena old.tally))
    134217728)
    (smaller (length old.attributes) (length new.attributes) 1024 grows.attributes passed.0)
    (smaller (length old.channels) (length new.channels) 16 grows.channels passed.1)
    (smaller (thread_count old) (thread_count new) 64 grows.threads passed.2)
    (smaller old.tally.lines new.tally.lines 1048576 grows.lines passed.3)
    (smaller old.tally.process_lines new.tally.process_lines 65536 grows.process_lines passed.4)
    (smaller (tree_words (thread_count old) (arena old.tally)) room 134217728
    (tree_grows (thread_count old) (thread_count new) (arena old.tally) (arena new.tally)
    grows.threads grows.arena) passed.5)

-- ---- a line of a thread, and a thread

pub counted_lines : (process : Bool) (words : ℕ) (tally : Tally) → tally.process_lines
    ≤ (counted process words tally).process_lines
counted_lines true words tally = omega arith
counted_lines false words tally = omega arith

pub counted_arena : (process : Bool) (words : ℕ) (tally : Tally) → arena tally
    ≤ arena (counted process words tally)
counted_arena true words tally = omega arith
counted_arena false words tally = omega arith

pub next_arena : (tally : Tally) → arena tally ≤ arena (next_thread tally)
next_arena tally = omega arith

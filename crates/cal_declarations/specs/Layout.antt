-- How large the declarations of threads are, and how the table of their names is laid out.
-- (Giltmoth's rule.)
use Rattle.std.specs.Prelude.{ℕ, ◌+◌, ◌*◌, ◌/◌, Bool, List, length, nat_le, ◌&&◌, sum_by}
use Rattle.cal_value.specs.declared.attribute.Attribute.{Attribute}
use Rattle.cal_script.specs.Shapes.{greatest}
use Rattle.cal_words.specs.Shapes.{word_count}
use Rattle.cal_words.specs.Words.{text_words}
use Rattle.cal_words.specs.declared.shape.Shape.{Shape}

-- the words of a declaration's record: four, and those of its name
abbrev pub record_words : Attribute → ℕ
record_words declared = 4 + length (text_words declared.name)

-- those of the declarations of a thread
abbrev pub thread_words : List Attribute → ℕ
thread_words lines = sum_by record_words lines

-- The table of so many threads, each with an arena of so many words; one more arena is the first
-- seat's, which no thread has. A record has five words at least, so there is a slot for each that
-- fits into the arenas, and one more.
abbrev pub names_layout : (threads arena : ℕ) → Shape
names_layout threads arena = record {
  slots = (threads + 1) * (arena / 5) + 1;
  homes = (threads + 1) * (arena / 5) + 1;
  arena = arena;
  arenas = threads + 1;
}

-- each arena has room for all declarations of a thread
abbrev pub names_shape : List (List Attribute) → Shape
names_shape threads = names_layout (length threads) (greatest thread_words threads)

-- how many declarations there are
abbrev pub line_count : List (List Attribute) → ℕ
line_count threads = sum_by (λ (lines : List Attribute). length lines) threads

-- so many threads and declarations, and a table of so many words, pass no limit
abbrev pub fits : List (List Attribute) → Bool
fits threads = nat_le (length threads) 64 && (nat_le (line_count threads) 1048576
    && nat_le (word_count (names_shape threads)) 134217728)

-- How the tables are laid out that the threads of a run share: their context tree, and their history
-- of process lines. (Giltmoth's rule.)
use Rattle.std.specs.Prelude.{ℕ, ◌+◌, ◌*◌, ◌/◌, List, length, sum_by, count_by, fold, max}
use Rattle.std.specs.Prelude.{if◌then◌else◌}
use Rattle.cal_words.specs.declared.shape.Shape.{Shape}
use Rattle.cal_script.specs.Counts.{is_process_line, line_words}
use Rattle.cal_script.specs.declared.script.Line.{Line}
use Rattle.cal_script.specs.declared.script.Script.{Script}

-- The tree of so many threads, each with an arena of so many words; one more arena is the first
-- seat's, which no thread has. A node has four words at least, so there is a slot for each that fits
-- into the arenas, and one more.
abbrev pub tree_layout : (threads arena : ℕ) → Shape
tree_layout threads arena = record {
  slots = (threads + 1) * (arena / 4) + 1;
  homes = (threads + 1) * (arena / 4) + 1;
  arena = arena;
  arenas = threads + 1;
}

-- The history of so many threads, each with at most so many process lines. An operation has seven
-- words, and all searches begin at the first slot.
abbrev pub history_layout : (threads most : ℕ) → Shape
history_layout threads most = record {
  slots = (threads + 1) * most + 1;
  homes = 1;
  arena = 7 * most;
  arenas = threads + 1;
}

-- the greatest number of a list's items, and 0 where there is none
abbrev pub greatest : {X : Type 0} → (X → ℕ) → List X → ℕ
greatest f xs = fold (λ most x. max most (f x)) 0 xs

module _ (script : Script) where
  -- The words of the node that a line may make: one of a process line may be any thread's, one of
  -- another line is its thread's own.
  abbrev pub shared_words : Line → ℕ
  shared_words l = if is_process_line script.attributes script.values l
      then line_words script.attributes script.values l else 0

  abbrev pub own_words : Line → ℕ
  own_words l = if is_process_line script.attributes script.values l
      then 0 else line_words script.attributes script.values l

  -- the arena of a thread has room for the nodes of its own lines, and of all process lines
  abbrev pub tree_arena : ℕ
  tree_arena = sum_by (sum_by shared_words) script.threads
      + greatest (sum_by own_words) script.threads

  abbrev pub tree_shape : Shape
  tree_shape = tree_layout (length script.threads) tree_arena

  -- how many process lines a thread has
  abbrev pub process_lines : List Line → ℕ
  process_lines lines = count_by (is_process_line script.attributes script.values) lines

  abbrev pub history_shape : Shape
  history_shape = history_layout (length script.threads) (greatest process_lines script.threads)

-- How tables of records are laid out. (Giltmoth's rule.)
use Rattle.std.specs.Prelude.{ℕ, ◌+◌, ◌*◌, ◌≤◌}
use Rattle.cal_words.specs.declared.shape.Shape.{Shape}

-- a table has word 0, a word for each slot, and its arenas
abbrev pub word_count : Shape → ℕ
word_count shape = 1 + shape.slots + shape.arenas * shape.arena

-- a shape that a table may have
pub record IsShape (shape : Shape) : Type 0 where
  pub some_home : 1 ≤ shape.homes
  pub enough_slots : shape.homes ≤ shape.slots
  pub some_arena : 1 ≤ shape.arenas
  pub small : word_count shape ≤ 268435456

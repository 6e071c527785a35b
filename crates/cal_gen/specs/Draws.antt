-- The draws of the generator (Giltmoth's rule).
use Rattle.std.specs.Prelude.{ℕ, ◌+◌, ◌*◌, ◌/◌, ◌%◌}

-- A draw makes the next number of the last one. The first one is the seed.
unfoldable pub next : ℕ → ℕ
next x = (1103515245 * x + 12345) % 2147483648

-- what a draw from so many gives, by the number that it made
unfoldable pub drawn : ℕ → ℕ → ℕ
drawn count x = x / 65536 % count

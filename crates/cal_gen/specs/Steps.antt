-- The next lines of a thread, behind the values that lines have opened (private).
use Rattle.std.specs.Prelude.{ℕ, List, length}
use Rattle.cal_value.specs.declared.variant.Variant.{Variant}
use Rattle.cal_gen.specs.Generated as gen
use Rattle.cal_gen.specs.GeneratedScript.{Lines, Step, Threads, lines_from, step_from, threads_from}

-- where a thread stands: the last draw, and how many values are open
abbrev pub at : ℕ → ℕ → gen.State
at x depth = record { x = x; depth = depth }

abbrev pub next_step : List Variant → ℕ → ℕ → Step
next_step opened x depth = step_from (length opened) (at x depth)

abbrev pub next_lines : ℕ → List Variant → ℕ → ℕ → Lines
next_lines count opened x depth = lines_from count (length opened) (at x depth)

abbrev pub next_threads : ℕ → ℕ → List Variant → ℕ → Threads
next_threads count lines opened x = threads_from count lines (length opened) x

-- the last draw behind so many lines
abbrev pub last_draw : ℕ → ℕ → ℕ → ℕ
last_draw count x depth = (gen.lines_from count (at x depth)).x

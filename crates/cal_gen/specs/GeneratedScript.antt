-- The script that the text of a seed and two sizes means, by the draws that make the text.
use Rattle.std.specs.Prelude.{ℕ, zero, suc, pos, ◌+◌, List, [], ◌∷◌, ◌++◌, length, true, false}
use Rattle.std.specs.Prelude.{codes, decimal, ◌==◌, if◌then◌else◌}
use Rattle.cal_value.specs.declared.attribute.Attribute.{Attribute}
use Rattle.cal_value.specs.declared.kind.Kind.TheVariants as kind
use Rattle.cal_value.specs.declared.variant.Variant.{Variant}
use Rattle.cal_value.specs.declared.variant.Variant.TheVariants as variant
use Rattle.cal_gen.specs.Draws.{drawn, next}
use Rattle.cal_gen.specs.Generated as gen
use Rattle.cal_gen.specs.declared.moves.Move as moves
use Rattle.cal_gen.specs.declared.moves.Move.TheVariants as move
use Rattle.cal_script.specs.Ticks.{ticks_of}
use Rattle.cal_script.specs.declared.script.Channel.{Channel}
use Rattle.cal_script.specs.declared.script.Line.{Line}
use Rattle.cal_script.specs.declared.script.Line.TheVariants as line
use Rattle.cal_script.specs.declared.script.Script.{Script}

-- ---- what the header declares

abbrev pub function : Attribute
function = record { name = codes "function"; kind = kind.Str; props = record { 0 = 276 } }

abbrev pub iteration : Attribute
iteration = record { name = codes "iteration"; kind = kind.Int; props = record { 0 = 21 } }

abbrev pub profile : Channel
profile = record {
  name = codes "profile";
  event = true;
  timer = true;
  trace = false;
  aggregate = true;
  probes = [];
  query = record { by_default = true; keys = []; values = codes "time.duration.ns" ∷ [] };
}

-- ---- lines

-- one of sixteen texts, and a number
abbrev pub name_value : ℕ → Variant
name_value n = variant.Text (codes "f" ++ decimal n)

abbrev pub number_value : ℕ → Variant
number_value n = variant.Int (pos n)

-- the values that the line of a move opens
abbrev pub opened : moves.Move → gen.State → List Variant
opened move.Begin s = name_value (drawn 16 (next s.x)) ∷ []
opened move.Iterate s = number_value (drawn 1000 (next s.x)) ∷ []
opened _ s = []

-- a flush for a draw of 0
abbrev pub look_line : ℕ → Line
look_line choice = if choice == 0 then line.Flush 0 else line.Snapshot

-- the line of a move, before which lines opened so many values
abbrev pub line_of : moves.Move → ℕ → gen.State → Line
line_of move.Begin count s = line.Begin 0 count
line_of move.End count s = line.End 0
line_of move.Iterate count s = line.Set 1 count
line_of move.Tick count s = line.Tick (ticks_of (drawn 10000 (next s.x)))
line_of move.Look count s = look_line (drawn 16 (next s.x))

-- a line with the values that it opens, and where the thread stands behind it
pub record Step : Type 0 where
  pub line : Line
  pub values : List Variant
  pub after : gen.State

-- the next line of a thread
abbrev pub step_from : ℕ → gen.State → Step
step_from count s =
    let x = next s.x in
    let m = gen.move_of (drawn 8 x) s.depth in
    let drew : gen.State = record s { x = x } in
    record { line = line_of m count drew; values = opened m drew; after = (gen.moved m drew).after }

-- lines of a thread with the values that they open
pub record Lines : Type 0 where
  pub lines : List Line
  pub values : List Variant

-- a line, and those behind it
abbrev pub lines_behind : Step → Lines → Lines
lines_behind step rest =
    record { lines = step.line ∷ rest.lines; values = step.values ++ rest.values }

-- so many lines of a thread, before which lines opened so many values
abbrev pub lines_from : ℕ → ℕ → gen.State → Lines
lines_from zero count s = record { lines = []; values = [] }
lines_from (suc left) count s =
    let step = step_from count s in
    lines_behind step (lines_from left (count + length step.values) step.after)

-- ---- threads

-- the lines of threads with the values that they open
pub record Threads : Type 0 where
  pub threads : List (List Line)
  pub values : List Variant

-- a thread, and those behind it
abbrev pub threads_behind : Lines → Threads → Threads
threads_behind thread rest = record {
  threads = thread.lines ∷ rest.threads;
  values = thread.values ++ rest.values;
}

-- so many threads; the draws go on from thread to thread
abbrev pub threads_from : ℕ → ℕ → ℕ → ℕ → Threads
threads_from zero lines count x = record { threads = []; values = [] }
threads_from (suc threads) lines count x =
    let s : gen.State = record { x = x; depth = 0 } in
    let thread = lines_from lines count s in
    let x_after = (gen.lines_from lines s).x in
    threads_behind thread (threads_from threads lines (count + length thread.values) x_after)

-- the script of a seed, a number of threads, and a number of lines for each
abbrev pub generated_script : ℕ → ℕ → ℕ → Script
generated_script seed threads lines = let made = threads_from threads lines 0 seed in record {
  attributes = function ∷ iteration ∷ [];
  channels = profile ∷ [];
  values = made.values;
  threads = made.threads;
  globals = [];
}

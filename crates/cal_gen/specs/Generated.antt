-- The script that is made of three numbers (Giltmoth's rule).
use Rattle.std.specs.Prelude.{ℕ, zero, suc, ◌-◌, List, [], ◌∷◌, ◌++◌, codes, decimal, nat_lt}
use Rattle.std.specs.Prelude.{◌==◌, if◌then◌else◌}
use Rattle.cal_gen.specs.Draws.{next, drawn}
use Rattle.cal_gen.specs.declared.moves.Move as moves
use Rattle.cal_gen.specs.declared.moves.Move.TheVariants.{Begin, End, Iterate, Tick, Look}

-- where a thread stands: the last draw, and how many values are open
pub record State : Type 0 where
  pub x : ℕ
  pub depth : ℕ

-- a line, and where the thread stands behind it
pub record Step : Type 0 where
  pub line : List ℕ
  pub after : State

-- opens one of sixteen values
abbrev pub begin : State → Step
begin s = let x = next s.x in record {
  line = codes "begin function f" ++ decimal (drawn 16 x);
  after = record { x = x; depth = suc s.depth };
}

-- closes the innermost value
abbrev pub end : State → Step
end s = record { line = codes "end function"; after = record s { depth = s.depth - 1 } }

-- a line with a number drawn from so many
abbrev pub numbered : List ℕ → ℕ → State → Step
numbered front count s = let x = next s.x in record {
  line = front ++ decimal (drawn count x);
  after = record s { x = x };
}

-- one flush for fifteen snapshots, by a draw from sixteen
abbrev pub look_line : ℕ → List ℕ
look_line choice = if choice == 0 then codes "flush profile" else codes "snapshot"

abbrev pub look : State → Step
look s = let x = next s.x in record { line = look_line (drawn 16 x); after = record s { x = x } }

-- What a choice from eight is. At most 32 values are open.
abbrev pub move_of : ℕ → ℕ → moves.Move
move_of choice depth =
    if nat_lt choice 3 then (if nat_lt depth 32 then Begin else End)
    else (if nat_lt choice 5 then (if nat_lt 0 depth then End else Begin)
    else (if choice == 5 then Iterate else (if choice == 6 then Tick else Look)))

-- the line of a move
abbrev pub moved : moves.Move → State → Step
moved Begin s = begin s
moved End s = end s
moved Iterate s = numbered (codes "set iteration ") 1000 s
moved Tick s = numbered (codes "tick ") 10000 s
moved Look s = look s

-- the next line of a thread, by a draw from eight
abbrev pub line_from : State → Step
line_from s = let x = next s.x in moved (move_of (drawn 8 x) s.depth) (record s { x = x })

-- so many lines of a thread, each with its newline, and the last draw
pub record Lines : Type 0 where
  pub text : List ℕ
  pub x : ℕ

abbrev pub lines_from : ℕ → State → Lines
lines_from zero s = record { text = []; x = s.x }
lines_from (suc count) s =
    let step = line_from s in
    let rest = lines_from count step.after in
    record { text = step.line ++ (10 ∷ rest.text); x = rest.x }

-- so many threads of so many lines; the draws go on from thread to thread
abbrev pub threads_from : ℕ → ℕ → ℕ → List ℕ
threads_from zero lines x = []
threads_from (suc threads) lines x =
    let thread = lines_from lines (record { x = x; depth = 0 }) in
    codes "thread\n" ++ (thread.text ++ threads_from threads lines thread.x)

-- a nested attribute, an as-value one, and a channel that measures and sums
abbrev pub header : List ℕ
header = codes "attribute function string 276\n" ++ (codes "attribute iteration int 21\n"
    ++ codes "channel profile event,timer,aggregate\n")

-- the script of a seed, a number of threads, and a number of lines for each
abbrev pub generated : ℕ → ℕ → ℕ → List ℕ
generated seed threads lines = header ++ threads_from threads lines seed

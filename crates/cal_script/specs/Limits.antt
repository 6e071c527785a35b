-- The limits of a script. (Giltmoth's rule.)
use Rattle.std.specs.Prelude.{ℕ, ◌+◌, Bool, length, max, nat_le, ◌&&◌}
use Rattle.std.specs.Option.{option_to_list}
use Rattle.cal_words.specs.Shapes.{word_count}
use Rattle.cal_script.specs.Shapes.{tree_layout}
use Rattle.cal_script.specs.declared.tally.Tally.{Tally}
use Rattle.cal_script.specs.State.{State}

-- how many threads have begun
abbrev pub thread_count : State → ℕ
thread_count state = length state.earlier + length (option_to_list state.thread)

-- the arena of a thread in the context tree, as far as the lines go
abbrev pub arena : Tally → ℕ
arena tally = tally.shared + max tally.most tally.own

-- the words of the context tree of so many threads, each with such an arena
abbrev pub tree_words : ℕ → ℕ → ℕ
tree_words threads arena = word_count (tree_layout threads arena)

-- what stands so far passes no limit
abbrev pub fits : State → Bool
fits state =
    nat_le (length state.attributes) 1024 && nat_le (length state.channels) 16
    && nat_le (thread_count state) 64 && nat_le state.tally.lines 1048576
    && nat_le state.tally.process_lines 65536
    && nat_le (tree_words (thread_count state) (arena state.tally)) 134217728

use Rattle.std.proofs.Common.{◌≡◌, ℕ, List, ◌++◌, length}
use Rattle.cal_context.specs.Tree.{Grows}
use Rattle.cal_read.specs.Lines.{bytes_in}
use Rattle.cal_read.specs.Reading.{HasRead, TakesBytes}
use Rattle.cal_read.proofs.stream_reader.StreamReader.feed_lines.Given as goal

abbrev pub invariant-loop-line : goal.invariant-loop-line
invariant-loop-line g l =
    Grows l.fn.context l.context
    × ((consumed : List ℕ)
    × (l.piece ≡ consumed ++ bytes_in l.rest)
    × ((bytes : List ℕ) → HasRead l.fn.self l.fn.context bytes → HasRead l.self l.context (bytes ++ consumed))
    × ((bytes : List ℕ) → HasRead l.fn.self l.fn.context bytes
    → TakesBytes (g.T.Taker.has_taken l.fn.taker l.fn.context) (g.T.Taker.has_taken l.taker l.context) bytes (bytes ++ consumed))
    × (g.T.Taker.about l.taker ≡ g.T.Taker.about l.fn.taker))

abbrev pub decreases-loop-line : goal.decreases-loop-line
decreases-loop-line g l = length (bytes_in l.rest)

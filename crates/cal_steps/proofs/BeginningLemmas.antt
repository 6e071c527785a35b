-- Before the first event no line is done.
use Rattle.std.proofs.Common.{◌≡◌, ℕ, ◌+◌, List, [], ◌∷◌, length, map, ap, refl, arith}
use Rattle.std.specs.Prelude.{zip}
use Rattle.std.specs.List.{enumerate_from}
use Rattle.cal_script.specs.declared.journal.ThreadNote.{ThreadNote}
use Rattle.cal_script.specs.declared.script.Line.{Line}
use Rattle.cal_world.specs.Progress.{Reached, behind}
use Rattle.cal_world.specs.Turns.{turns_of}
use Rattle.cal_world.specs.declared.turn.Turn.{Turn}

pub none-reached : (k : ℕ) (ls : List (List Line)) (ns : List ThreadNote) → length ns ≡ length ls
    → map (λ (n : ThreadNote). behind 0) ns
    ≡ map (λ (ts : List Turn). behind 0) (map turns_of (enumerate_from k (zip ls ns)))
none-reached k [] [] long = refl
none-reached k [] (n ∷ ns) long = absurd (omega (arith, long))
none-reached k (l ∷ ls) [] long = absurd (omega (arith, long))
none-reached k (l ∷ ls) (n ∷ ns) long =
    ap (λ (rs : List Reached). behind 0 ∷ rs) (none-reached (k + 1) ls ns (omega (arith, long)))

-- What the line before another one had seen (private).
use Rattle.std.specs.Prelude.{ℕ, zero, suc, List, [], ◌∷◌}
use Rattle.cal_script.specs.declared.journal.LineNote.{LineNote}

-- how many operations the line before a place had seen, where those before the first had seen so
-- many
abbrev pub seen_at : (before : ℕ) → List LineNote → (place : ℕ) → ℕ
seen_at before ns zero = before
seen_at before [] (suc place) = before
seen_at before (n ∷ ns) (suc place) = seen_at n.seen ns place

use Rattle.std.proofs.Common.{◌≡◌, ℕ, ◌+◌, ◌<◌, get_or}
use Rattle.cal_words.specs.Words.{text_words}
use Rattle.cal_names.proofs.read.read_content.Given as goal

-- the name's words so far are those of the declaration
abbrev pub invariant-loop-i : goal.invariant-loop-i
invariant-loop-i l = (k : ℕ) → k < l.i → get_or l.words (4 + k) 0 ≡ get_or (text_words l.rec.name.now) k 0

use Rattle.std.proofs.Common.{◌≡◌, take}
use Rattle.std.specs.List.{fold}
use Rattle.cal_words.specs.Homes.{mixed}
use Rattle.cal_words.specs.Words.{text_words}
use Rattle.cal_names.proofs.record.hash.Given as goal

-- the length and the words so far are in the hash
abbrev pub invariant-loop-i : goal.invariant-loop-i
invariant-loop-i l = l.hash ≡ fold mixed l.initial.hash (take l.i (text_words l.rec.name.now))

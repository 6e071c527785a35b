use Rattle.std.proofs.Common.{◌≡◌, take}
use Rattle.cal_call_files.specs.Words.{names_of}
use Rattle.cal_call_files.proofs.names.names_of.Given as goal

-- the names so far are those in the words so far
abbrev pub invariant-loop-word : goal.invariant-loop-word
invariant-loop-word l = l.names.items ≡ names_of (take l.word-index l.words)

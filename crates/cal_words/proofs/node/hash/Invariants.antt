use Rattle.std.proofs.Common.{◌≡◌, take}
use Rattle.cal_words.specs.Nodes.{words_of}
use Rattle.cal_words.specs.Homes.{words_hash}
use Rattle.cal_words.proofs.node.hash.Given as goal

-- the words so far are in the hash
abbrev pub invariant-loop-i : goal.invariant-loop-i
invariant-loop-i l = l.hash ≡ words_hash (take l.i (words_of l.node))

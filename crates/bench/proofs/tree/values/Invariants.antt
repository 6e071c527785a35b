use Rattle.std.proofs.Common.{◌<◌, ◌^◌, All}
use Rattle.cal_words.specs.Words.{text_length}
use Rattle.bench.proofs.tree.values.Given as goal

abbrev pub invariant-loop-number : goal.invariant-loop-number
invariant-loop-number l = All (λ v. text_length v < 2 ^ 32) l.all.items

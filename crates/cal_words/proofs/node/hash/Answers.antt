use Rattle.std.proofs.Common.{arith}
use Rattle.std.proofs.lemmas.List.Sums.{fold_more}
use Rattle.cal_words.specs.Homes.{mixed}
use Rattle.cal_words.specs.Nodes.{words_of}
use Rattle.cal_words.proofs.node.hash.Goals as goal

pub loop-i-preserved : goal.loop-i-preserved
loop-i-preserved c =
    grind (arith, fold_more mixed 14695981039346656037 (words_of c.args.node.now) c.loop-i.i 0)

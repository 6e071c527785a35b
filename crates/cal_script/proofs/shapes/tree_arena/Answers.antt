use Rattle.std.proofs.Common.{arith}
use Rattle.cal_script.proofs.ShapeLemmas.{arena-small}
use Rattle.cal_script.proofs.shapes.tree_arena.Goals as goal

pub overflow_add-result : goal.overflow_add-result
overflow_add-result c =
    omega (
      arith,
      c.shared_words_of_all.ensures,
      c.most_own_words.ensures,
      arena-small c.args.script.now c.requires,
    )

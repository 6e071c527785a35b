use Rattle.std.specs.Prelude.{◌^◌, ◌<◌, All}
use Rattle.cal_words.specs.Words.{text_length}
use Rattle.cal_tree.specs.declared.tree.Tree.{Tree}
use Rattle.cal_tree.specs.Seats.{IsTreeSeat}
use Rattle.bench.specs.declared.tree.Worker.{Worker}

-- the worker has a seat of the tree, and values that its nodes may have
pub record IsWorker (tree : Tree) (worker : Worker) : Type 0 where
  pub seat : IsTreeSeat tree worker.seat
  pub short : All (λ v. text_length v < 2 ^ 32) worker.values.items

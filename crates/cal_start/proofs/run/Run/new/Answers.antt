use Rattle.std.proofs.Common.{ℕ, List, subst}
use Rattle.cal_start.proofs.StartedRuns.{run-of}
use Rattle.cal_start.specs.Runs.{AreBooks}
use Rattle.cal_table.specs.declared.shape.TableShape.{TableShape}
use Rattle.cal_start.proofs.run.Run.new.Goals as goal

pub returns-clause-run : goal.returns-clause-run
returns-clause-run c =
    let common = c.in_ok-common.ensures in
    let shared = c.new-shared.ensures in
    let books = c.in_ok-books.books.items in
    run-of c.args.script.now _ c.in_ok-common.common shared.common common.script c.args.real
    c.args.hashers shared.shared shared.real common.tree.0 common.log.0
    c.in_ok-numbers.ensures.numbered c.in_ok-numbers.ensures.only c.in_ok-shapes.ensures
    (subst (λ (n : ℕ). AreBooks n c.in_ok-shapes.shapes.items books) c.len-threads.ensures
    (subst (λ (xs : List TableShape). AreBooks c.len-threads.result xs books)
    c.as_slice.ensures.value c.in_ok-books.ensures.books))

use Rattle.std.proofs.Common.{List, length, ◌*◌, sym, ap, subst, ◌∙◌}
use Rattle.std.specs.List.{All}
use Rattle.cal_once.specs.declared.view.View.{View}
use Rattle.cal_process.specs.Operations.{HasAll, IsOpOf}
use Rattle.cal_words.specs.declared.op.OpRec.{OpRec}
use Rattle.cal_words.specs.declared.sort.OpSort.{OpSort}
use Rattle.cal_process.proofs.common.Common.new.Goals as goal

pub returns-clause-common : goal.returns-clause-common
returns-clause-common c =
    let script = c.args.script.now in
    let same = sym c.in_ok-log.ensures.ops in
    record {
      runnable = c.requires;
      ops = subst (λ (ops : List OpRec). All (IsOpOf script) ops) same c.in_ok-ops.ensures.ops;
      shape_of_log = c.in_ok-log.ensures.shape ∙ c.history_shape.ensures.shape;
      shape_of_tree = c.in_ok-tree.ensures.shape ∙ c.tree_shape.ensures.shape;
      all = subst (λ (ops : List OpRec). HasAll script ops) same c.in_ok-ops.ensures.all;
    }

pub returns-clause-unused : goal.returns-clause-unused
returns-clause-unused c =
    let is = c.in_ok-log.ensures.seat.1 in
    ap (λ (v : View OpSort). v.used) is
    ∙ ap (λ (v : View OpSort). 7 * length v.published) (sym is)

use Rattle.std.proofs.lemmas.Result.{on_ok_weaker}
use Rattle.cal_treefmt.proofs.Lining.{label-written}
use Rattle.cal_treefmt.proofs.label.write_label.Goals as goal

pub returns : goal.returns
returns c = on_ok_weaker c.print_value.result (λ written.
    label-written c.truncate.new.self c.indent.new.label c.print_value.new.out _ _ _ c.value_at.result.now c.in-Some.ensures.linked.child.path
    c.truncate.ensures c.in_ok-indent.ensures c.value_at.ensures written) c.print_value.ensures.ok

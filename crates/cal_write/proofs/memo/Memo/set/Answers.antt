use Rattle.std.proofs.Common.{nat_eq, ap, ◌∙◌, if◌then◌else◌}
use Rattle.std.specs.Prelude.{Some}
use Rattle.cal_write.specs.Memo.{memo_at}
use Rattle.cal_write.proofs.MemoLemmas.{memo-set}
use Rattle.cal_write.proofs.memo.Memo.set.Goals as goal

pub returns : goal.returns
returns c = λ k.
    memo-set c.self.inside.successors.items c.put_at.new.list.items c.args.number
    c.in-Some.successor c.args.id c.in-Some.ensures.1 c.in_ok-put_at.ensures k
    ∙ ap (λ m. if nat_eq c.args.number k then Some c.args.id else memo_at m k) c.self.view_is

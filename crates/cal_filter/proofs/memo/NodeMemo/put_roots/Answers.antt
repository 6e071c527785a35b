use Rattle.std.proofs.Common.{◌≤◌, sym, ap, ◌∙◌, arith}
use Rattle.cal_filter.specs.Memo.{with_roots}
use Rattle.cal_filter.proofs.MemoLemmas.{with_roots-less, with_roots-more}
use Rattle.cal_filter.proofs.memo.NodeMemo.put_roots.Goals as goal

pub returns-then-count-self : goal.returns-then-count-self
returns-then-count-self c =
    let s = c.self.inside in
    let less : c.args.count ≤ s.count = omega arith in
    sym c.self.view_is ∙ sym (with_roots-less s.nodes.items s.count c.args.count c.self.invariant less)
    ∙ ap (λ ns. with_roots ns c.args.count) c.self.view_is

pub returns : goal.returns
returns c =
    let s = c.self.inside in
    let more : s.count ≤ c.args.count = omega arith in
    sym (with_roots-more s.nodes.items s.count c.args.count c.self.invariant more)
    ∙ ap (λ ns. with_roots ns c.args.count) c.self.view_is

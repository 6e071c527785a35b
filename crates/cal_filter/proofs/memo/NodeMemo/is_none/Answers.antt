use Rattle.std.proofs.Common.{◌≡◌, [], get_or, sym, ap, ◌∙◌, arith}
use Rattle.std.proofs.lemmas.Grind.{common_steps}
use Rattle.cal_filter.proofs.MemoLemmas.{read-with_roots, root}
use Rattle.cal_filter.proofs.memo.NodeMemo.is_none.Goals as goal

pub returns : goal.returns
returns c = λ is n.
    let none : c.self.inside.nodes.items ≡ [] = grind (arith, common_steps, is) in
    ap (λ xs. get_or xs n root) (sym c.self.view_is)
    ∙ read-with_roots c.self.inside.nodes.items c.self.inside.count n
    ∙ ap (λ xs. get_or xs n root) none

use Rattle.std.proofs.Common.{◌≡◌, ◌+◌, [], ◌∷◌, ◌++◌, ap, ◌∙◌, arith}
use Rattle.cal_filter.specs.Memo.{with_roots}
use Rattle.cal_filter.proofs.memo.NodeMemo.push.Goals as goal

pub returns : goal.returns
returns c =
    let e : c.in-Some.count ≡ c.self.inside.count + 1 = omega arith in
    ap (λ n. with_roots c.add_behind_roots.new.nodes.items n) e
    ∙ c.in_ok-add_behind_roots.ensures.added
    ∙ ap (λ xs. xs ++ c.args.node ∷ []) c.self.view_is

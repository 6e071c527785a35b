use Rattle.std.proofs.Common.{◌≡◌, ◌+◌, [], ◌∷◌, ◌++◌, length, sym, ap, ◌∙◌, arith}
use Rattle.std.proofs.lemmas.Bool.Decides.{nat_tests}
use Rattle.std.proofs.lemmas.List.{length-append}
use Rattle.cal_filter.specs.Memo.{with_roots}
use Rattle.cal_filter.proofs.MemoLemmas.{length-with_roots, with_roots-all, with_roots-root}
use Rattle.cal_filter.proofs.memo.add_behind_roots.Goals as goal

pub returns-then-eq-clause-added : goal.returns-then-eq-clause-added
returns-then-eq-clause-added c =
    let e : c.args.node.0 ≡ 0 = grind (arith, nat_tests) in
    with_roots-root c.args.nodes.now.items c.args.count c.requires
    ∙ ap (λ n. with_roots c.args.nodes.now.items c.args.count ++ n ∷ []) (λ i. record { 0 = sym e i })

pub returns-clause-added : goal.returns-clause-added
returns-clause-added c =
    let old = c.args.nodes.now.items in
    let padded = c.in_ok-pad.ensures.ok in
    let is = c.in_ok-push.ensures.items ∙ ap (λ xs. xs ++ c.args.node ∷ []) padded in
    let whole = length-append (with_roots old c.args.count) (c.args.node ∷ []) in
    let long = length-with_roots old c.args.count c.requires in
    let counted : length c.push.new.self.items ≡ c.args.count + 1 = ap length is ∙ omega (arith, whole, long) in
    with_roots-all c.push.new.self.items (c.args.count + 1) counted ∙ is

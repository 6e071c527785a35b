use Rattle.std.proofs.Common.{◌≡◌, ◌+◌, ◌<◌, List, [], ◌∷◌, ◌++◌, length, get_or, take, Some, sym}
use Rattle.std.proofs.Common.{subst, arith}
use Rattle.std.proofs.lemmas.List.{take_more}
use Rattle.std.proofs.lemmas.Slice.Zip.{all_zipped_more}
use Rattle.cal_context.specs.declared.numbers.NodeNumber.{NodeNumber}
use Rattle.cal_nodes.specs.Numbers.{number_in}
use Rattle.cal_results.specs.Tracing.{AreNumbersOf}
use Rattle.cal_words.specs.declared.node.NodeId.{NodeId}
use Rattle.cal_results.proofs.placing.add_numbers.Goals as goal

pub loop-node-preserved : goal.loop-node-preserved
loop-node-preserved c =
    let nodes = c.args.nodes.now in
    let refs = c.args.refs.now in
    let old = c.loop-node.numbers.items in
    let i = c.loop-node.node-index in
    let none : NodeId = record { 0 = 0 } in
    let n = c.numbered.result in
    let test = c.loop-node-test.true in
    let less : i < length refs = omega arith in
    let more = all_zipped_more (λ (n : NodeNumber) (node : NodeId). number_in nodes node ≡ Some n)
    old (take i refs) n (get_or refs i none) c.loop-node.invariant c.numbered.ensures in
    let both = subst (λ (rs : List NodeId). AreNumbersOf nodes (old ++ n ∷ []) rs)
    (sym (take_more refs i none less)) more in
    subst (λ (ns : List NodeNumber). AreNumbersOf nodes ns (take (i + 1) refs))
    (sym c.in_ok-push.ensures.items) both

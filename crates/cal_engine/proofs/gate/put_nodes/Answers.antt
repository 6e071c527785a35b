use Rattle.std.proofs.Common.{◌<◌, ◌∷◌, [], ◌++◌, length, get_or, sym, ◌∙◌, arith}
use Rattle.std.proofs.lemmas.List.{take_all, take_more}
use Rattle.cal_context.specs.declared.numbers.NodeNumber.{NodeNumber}
use Rattle.cal_engine.proofs.gate.put_nodes.Goals as goal

pub loop-place-preserved : goal.loop-place-preserved
loop-place-preserved c =
    let others = c.args.others.now in
    let root : NodeNumber = record { 0 = 0 } in
    let within : c.loop-place.place < length others = omega arith in
    let now = c.in_ok-put_node.ensures in
    record {
      front = now.front
          ∙ (λ j. c.loop-place.invariant.front j ++ get_or others c.loop-place.place root ∷ [])
          ∙ sym (take_more others c.loop-place.place root within);
      low = omega (arith, now.long);
      high = omega (arith, now.long);
    }

pub returns : goal.returns
returns c =
    let others = c.args.others.now in
    let items = c.loop-place.nodes.items in
    sym (take_all c.loop-place.place items (omega arith)) ∙ c.loop-place.invariant.front ∙ take_all c.loop-place.place others (omega arith)

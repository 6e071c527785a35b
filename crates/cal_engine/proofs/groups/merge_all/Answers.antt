use Rattle.std.proofs.Common.{◌++◌, [], ◌∷◌, ap, ◌∙◌, arith}
use Rattle.cal_engine.proofs.InPlace.{merged_beyond, merged_there, merged_whole}
use Rattle.cal_engine.proofs.groups.merge_all.Goals as goal
use Rattle.cal_engine.proofs.groups.merge_all.Goals.{then-place-len+in_ok-merge, else-place-len+in_ok-push}

pub loop-place-preserved : goal.loop-place-preserved
loop-place-preserved c =
    let old = c.args.parts.now.items in
    let fresh = c.args.fresh.now in
    let now = c.loop-place.parts.items in
    let n = c.loop-place.place in
    let part = c.index-fresh-place.result in
    elim c.if-place-len.branch [
      | then-place-len+in_ok-merge w ↦
          ap (λ v. v.items) w.parts-is
          ∙ merged_there old fresh now n part (omega arith) c.index-fresh-place.is c.loop-place.invariant
          w.index_mut.result.now w.merge.new.self (omega (arith, c.len.ensures, w.if-place-len.true)) w.index_mut.ensures.value w.in_ok-merge.ensures.ok
      | else-place-len+in_ok-push w ↦
          ap (λ v. v.items) w.parts-is
          ∙ w.in_ok-push.ensures.items
          ∙ ap (λ x. now ++ x ∷ []) w.twin.ensures
          ∙ merged_beyond old fresh now n part (omega arith) c.index-fresh-place.is c.loop-place.invariant
          (omega (arith, c.len.ensures, w.if-place-len.false))
    ]

pub returns : goal.returns
returns c =
    merged_whole c.args.parts.now.items c.args.fresh.now c.loop-place.parts.items c.loop-place.place (omega arith) c.requires c.loop-place.invariant

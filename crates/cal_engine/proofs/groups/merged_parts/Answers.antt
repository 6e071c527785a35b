use Rattle.std.proofs.Common.{◌≡◌, ◌++◌, [], ◌∷◌, drop, get_or, length, sym, ap, ◌∙◌, arith, append_assoc, ◌+◌}
use Rattle.cal_parts.specs.Parts.{behind, merged_parts}
use Rattle.cal_parts.proofs.Drops.{merged_next}
use Rattle.cal_engine.proofs.groups.merged_parts.Goals as goal

pub loop-place-preserved : goal.loop-place-preserved
loop-place-preserved c =
    let parts = c.args.parts.now in
    let fresh = c.args.fresh.now in
    let n = c.loop-place.place in
    let same = c.as_slice-part-items.ensures in
    let long : length c.as_slice-part-items.result.now ≡ length fresh = ap length same in
    let rest = merged_parts (drop (n + 1) parts) (drop (n + 1) fresh) in
    let is = c.in_ok-merged_part.ensures ∙ ap (λ o. behind o c.part-item.result) c.get.ensures in
    ap (λ xs. xs ++ rest) (c.in_ok-push.ensures.items ∙ ap (λ x. c.loop-place.merged.items ++ x ∷ []) is)
    ∙ append_assoc c.loop-place.merged.items _ rest
    ∙ ap (λ xs. c.loop-place.merged.items ++ xs)
    (sym (merged_next parts fresh n c.part-item.result (omega arith) (c.part-item.is ∙ ap (λ xs. get_or xs n c.part-item.result) same)))
    ∙ c.loop-place.invariant

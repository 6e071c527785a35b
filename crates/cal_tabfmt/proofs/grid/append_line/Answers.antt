use Rattle.std.proofs.Common.{ℕ, List, [], ◌∷◌, ◌++◌, ap, ◌∙◌, append_assoc}
use Rattle.std.proofs.lemmas.List.{take_all}
use Rattle.std.proofs.lemmas.Result.{on_ok_weaker}
use Rattle.cal_tabfmt.proofs.EndLemmas.{HasLine-start}
use Rattle.cal_tabfmt.proofs.grid.append_line.Goals as goal

pub loop-place-init : goal.loop-place-init
loop-place-init c = HasLine-start c.args.out.now

pub loop-place-preserved : goal.loop-place-preserved
loop-place-preserved c = c.in_ok-pending.ensures c.args.out.now c.args.texts.now c.loop-place-test.true (rw c.as_str.ensures c.index-texts-place.is) c.loop-place.invariant

pub returns : goal.returns
returns c =
    let shapes = c.args.shapes.now in
    let texts = c.args.texts.now in
    let has = rw (take_all c.loop-place.place texts c.loop-place-test.false) at c.loop-place.invariant in
    on_ok_weaker c.push_str.result
    (λ pushed. pushed ∙ ap (λ (t : List ℕ). t ++ 10 ∷ []) has.kept ∙ append_assoc c.args.out.now _ (10 ∷ []))
    c.push_str.ensures.ok

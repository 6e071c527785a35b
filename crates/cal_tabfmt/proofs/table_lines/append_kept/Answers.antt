use Rattle.std.proofs.Common.{◌<◌, ◌≤◌, ◌+◌, ℕ, List, [], ◌∷◌, ◌++◌, ap, subst, ◌∙◌, append_assoc, drop, get_or, length, drop_of_length-le, arith}
use Rattle.std.proofs.lemmas.List.{drop_more, get_or_default, take_all}
use Rattle.cal_tabfmt.specs.Kept.{AreLeft}
use Rattle.cal_tabfmt.proofs.EndLemmas.{HasLine-start}
use Rattle.cal_tabfmt.proofs.table_lines.append_kept.Goals as goal

pub loop-place-init : goal.loop-place-init
loop-place-init c = λ line more counted left. (HasLine-start c.args.out.now, left)

pub loop-place-preserved : goal.loop-place-preserved
loop-place-preserved c =
    λ line more counted left.
    let place = c.loop-place.place in
    let within : place < length line = omega (arith, counted, c.loop-place-test.true) in
    let so_far = c.loop-place.invariant line more counted left in
    let next = subst (λ (rest : List (List ℕ)). AreLeft c.args.texts.now c.loop-place.mark (rest ++ more)) (drop_more line place [] within) so_far.1 in
    let is = c.text.ensures (get_or line place []) (drop (place + 1) line ++ more) next in (
      c.in_ok-pending.ensures c.args.out.now line within (is ∙ get_or_default line place _ _ within) so_far.0,
      c.behind-mark.ensures (get_or line place []) (drop (place + 1) line ++ more) next,
    )

pub returns : goal.returns
returns c =
    λ line more counted left.
    let place = c.loop-place.place in
    let so_far = c.loop-place.invariant line more counted left in
    let past : length line ≤ place = omega (arith, counted, c.loop-place-test.false) in
    let has = rw (take_all place line past) at so_far.0 in (
      c.in_ok-push_str.ensures.ok ∙ ap (λ (t : List ℕ). t ++ 10 ∷ []) has.kept ∙ append_assoc c.args.out.now _ (10 ∷ []),
      subst (λ (rest : List (List ℕ)). AreLeft c.args.texts.now c.loop-place.mark (rest ++ more)) (drop_of_length-le line past) so_far.1,
    )

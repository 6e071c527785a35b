use Rattle.std.proofs.Common.{ℕ, ◌<◌, ◌≤◌, List, [], ◌∷◌, ◌++◌, length, ap, ◌∙◌, append_assoc, arith}
use Rattle.std.proofs.lemmas.List.{get_or_default, take_all}
use Rattle.std.proofs.lemmas.Result.{on_ok_weaker}
use Rattle.cal_tabfmt.specs.Grid.{on_line}
use Rattle.cal_tabfmt.proofs.EndLemmas.{HasLine-start}
use Rattle.cal_treefmt.specs.Tree.{line_texts}
use Rattle.cal_treefmt.proofs.Writing.{length-texts_beside}
use Rattle.cal_treefmt.proofs.tree.write_line.Goals as goal

pub loop-place-init : goal.loop-place-init
loop-place-init c = λ columns line shows counted. HasLine-start c.args.out.now

pub loop-place-preserved : goal.loop-place-preserved
loop-place-preserved c = λ columns line shows counted.
    let texts = line_texts columns line in
    let place = c.loop-place.place in
    let within : place < length texts = omega (arith, c.loop-place-test.true, counted, length-texts_beside columns line.row) in
    let up_to : place ≤ length columns = omega (arith, c.loop-place-test.true, counted) in
    let is = c.text.ensures columns line shows up_to in
    c.in_ok-pending.ensures c.args.out.now texts within (is ∙ get_or_default texts place [] (on_line c.text.result.now) within) (c.loop-place.invariant columns line shows counted)

pub returns : goal.returns
returns c =
    on_ok_weaker c.push_str.result
    (λ pushed columns line shows counted.
    let texts = line_texts columns line in
    let all : length texts ≤ c.loop-place.place = omega (arith, c.loop-place-test.false, counted, length-texts_beside columns line.row) in
    let has = rw (take_all c.loop-place.place texts all) at (c.loop-place.invariant columns line shows counted) in
    pushed ∙ ap (λ (t : List ℕ). t ++ 10 ∷ []) has.kept ∙ append_assoc c.args.out.now _ (10 ∷ []))
    c.push_str.ensures.ok

use Rattle.std.proofs.Common.{◌≡◌, ◌<◌, ◌≤◌, List, get_or, length, set, ap, ◌∙◌, arith}
use Rattle.std.proofs.lemmas.List.{length-set}
use Rattle.cal_tabfmt.specs.Grid.{width}
use Rattle.cal_tabfmt.specs.declared.shape.Shape.{Shape}
use Rattle.cal_treefmt.specs.Tree.{line_texts, rights}
use Rattle.cal_treefmt.proofs.Writing.{length-rights, length-shapes, widened-all, widened-more}
use Rattle.cal_treefmt.proofs.measured.widen.Goals as goal

pub loop-place-preserved : goal.loop-place-preserved
loop-place-preserved c =
    let kept = c.loop-place.invariant in
    let place = c.loop-place.place in
    record {
      counted = length-set c.loop-place.all.items place c.wider.result ∙ kept.counted;
      wide = λ columns line before shows is.
          let so_far = kept.wide columns line before shows is in
          let count : length c.args.all.now.items ≡ length (rights columns) = ap length is ∙ length-shapes before 0 (rights columns) in
          let within : place < length (rights columns) = omega (arith, c.loop-place-test.true, kept.counted, count) in
          let up_to : place ≤ length columns = omega (arith, within, length-rights columns) in
          (λ j. set (so_far j) place (c.wider.ensures j))
          ∙ widened-more before (line_texts columns line) (rights columns) place c.in_ok-width.width c.index.result.now c.index.result.now within
          (c.index.ensures ∙ ap (λ (shapes : List Shape). get_or shapes place c.index.result.now) so_far)
          (c.in_ok-width.ensures ∙ ap width (c.text.ensures columns line shows up_to));
    }

pub returns : goal.returns
returns c = λ columns line before shows is.
    let kept = c.loop-place.invariant in
    let count : length c.args.all.now.items ≡ length (rights columns) = ap length is ∙ length-shapes before 0 (rights columns) in
    kept.wide columns line before shows is
    ∙ widened-all before (line_texts columns line) (rights columns) c.loop-place.place (omega (arith, c.loop-place-test.false, kept.counted, count))

use Rattle.std.proofs.Common.{◌≡◌, ◌<◌, List, length, get_or, ap, ◌∙◌, arith}
use Rattle.std.specs.Prelude.{sum_by}
use Rattle.cal_script.proofs.ShapeLemmas.{greatest_more, own-small}
use Rattle.cal_script.specs.Shapes.{own_words}
use Rattle.cal_script.specs.declared.script.Line.{Line}
use Rattle.cal_script.proofs.shapes.most_own_words.Goals as goal

pub all_own_words-requires : goal.all_own_words-requires
all_own_words-requires c =
    let script = c.args.script.now in
    let i = c.loop-lines.lines-index in
    let item : List Line = c.lines-item.result in
    let at : c.as_slice.result.now ≡ get_or script.threads i item =
    c.as_slice.ensures ∙ c.lines-item.is
    ∙ ap (λ (xs : List (List Line)). get_or xs i item) c.as_slice-lines-items.ensures in
    let within : i < length script.threads =
    omega (arith, c.loop-lines-test.true, ap (λ (xs : List (List Line)). length xs) c.as_slice-lines-items.ensures) in
    omega (arith, ap (sum_by (own_words script)) at, own-small script c.requires i item within)

pub loop-lines-preserved : goal.loop-lines-preserved
loop-lines-preserved c =
    let script = c.args.script.now in
    let i = c.loop-lines.lines-index in
    let item : List Line = c.lines-item.result in
    let own : c.as_slice.result.now ≡ get_or script.threads i item =
    c.as_slice.ensures ∙ c.lines-item.is
    ∙ ap (λ (xs : List (List Line)). get_or xs i item) c.as_slice-lines-items.ensures in
    let within : i < length script.threads =
    omega (arith, c.loop-lines-test.true, ap (λ (xs : List (List Line)). length xs) c.as_slice-lines-items.ensures) in
    let others = c.all_own_words.ensures ∙ ap (sum_by (own_words script)) own in
    omega (
      arith,
      others,
      c.loop-lines.invariant,
      c.max-most.ensures,
      greatest_more (sum_by (own_words script)) script.threads i item within,
    )

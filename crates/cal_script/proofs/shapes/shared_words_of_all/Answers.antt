use Rattle.std.proofs.Common.{◌≡◌, ◌<◌, List, length, get_or, ap, sym, ◌∙◌, arith}
use Rattle.std.specs.Prelude.{sum_by}
use Rattle.std.proofs.lemmas.List.Sums.{sum_by_more, sum_by_more_le}
use Rattle.cal_script.proofs.ScopeLemmas.{no_shared_words}
use Rattle.cal_script.proofs.ShapeLemmas.{arena-small}
use Rattle.cal_script.specs.Shapes.{shared_words}
use Rattle.cal_script.specs.declared.script.Line.{Line}
use Rattle.cal_script.proofs.shapes.shared_words_of_all.Goals as goal

pub returns-then-not-has_process_attribute : goal.returns-then-not-has_process_attribute
returns-then-not-has_process_attribute c =
    sym (no_shared_words c.args.script.now (sym c.has_process_attribute.ensures ∙ c.if-not-has_process_attribute.true))

pub overflow_add-shared : goal.overflow_add-shared
overflow_add-shared c =
    let script = c.args.script.now in
    let i = c.loop-lines.lines-index in
    let item : List Line = c.lines-item.result in
    let at : c.as_slice.result.now ≡ get_or script.threads i item = c.as_slice.ensures ∙ c.lines-item.is
    ∙ ap (λ (xs : List (List Line)). get_or xs i item) c.as_slice-lines-items.ensures in
    let within : i < length script.threads =
    omega (arith, c.loop-lines-test.true, ap (λ (xs : List (List Line)). length xs) c.as_slice-lines-items.ensures) in
    let words = c.all_shared_words-shared.ensures ∙ ap (sum_by (shared_words script)) at in
    let more = sum_by_more_le (sum_by (shared_words script)) script.threads i item within in
    omega (arith, words, more, c.loop-lines.invariant, arena-small script c.requires)

pub loop-lines-preserved : goal.loop-lines-preserved
loop-lines-preserved c =
    let script = c.args.script.now in
    let i = c.loop-lines.lines-index in
    let item : List Line = c.lines-item.result in
    let at : c.as_slice.result.now ≡ get_or script.threads i item = c.as_slice.ensures ∙ c.lines-item.is
    ∙ ap (λ (xs : List (List Line)). get_or xs i item) c.as_slice-lines-items.ensures in
    let within : i < length script.threads =
    omega (arith, c.loop-lines-test.true, ap (λ (xs : List (List Line)). length xs) c.as_slice-lines-items.ensures) in
    let words = c.all_shared_words-shared.ensures ∙ ap (sum_by (shared_words script)) at in
    omega (
      arith,
      words,
      c.loop-lines.invariant,
      sum_by_more (sum_by (shared_words script)) script.threads i item within,
    )

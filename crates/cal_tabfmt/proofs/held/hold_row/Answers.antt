use Rattle.std.proofs.Common.{ℕ, ◌<◌, ◌≤◌, refl, List, ◌++◌, ◌∙◌, ap, sym, subst, length, take, append-nil, append_assoc, arith}
use Rattle.std.proofs.lemmas.List.{length-map, take_all}
use Rattle.cal_tabfmt.specs.Kept.{Keeps}
use Rattle.cal_tabfmt.specs.Table.{cell_text, row_line}
use Rattle.cal_tabfmt.proofs.KeptLemmas.{row_line-more}
use Rattle.cal_tabfmt.proofs.TableLemmas.{held_before-all}
use Rattle.cal_tabfmt.proofs.held.hold_row.Goals as goal

pub loop-place-init : goal.loop-place-init
loop-place-init c = record {
  counted = refl;
  known = λ columns row rows shows is. is;
  texts = λ columns row before shows counted kept. subst (Keeps c.args.texts.now) (sym (append-nil before)) kept;
}

pub loop-place-preserved : goal.loop-place-preserved
loop-place-preserved c =
    let kept = c.loop-place.invariant in
    let place = c.loop-place.place in
    record {
      counted = c.in_ok-hold_cell.ensures.counted ∙ kept.counted;
      known = λ columns row rows shows is.
          let many = ap length is ∙ length-map columns _ in
          c.in_ok-hold_cell.ensures.held columns row rows shows (omega (arith, many, kept.counted, c.loop-place-test.true)) (kept.known columns row rows shows is);
      texts = λ columns row before shows counted keeps.
          let within : place < length columns = omega (arith, counted, kept.counted, c.loop-place-test.true) in
          subst (Keeps c.hold_cell.new.texts)
          (append_assoc before (take place (row_line columns row)) _ ∙ ap (λ (line : List (List ℕ)). before ++ line) (sym (row_line-more row columns place within)))
          (c.in_ok-hold_cell.ensures.texts columns row (before ++ take place (row_line columns row)) shows within (kept.texts columns row before shows counted keeps));
    }

pub returns : goal.returns
returns c =
    let kept = c.loop-place.invariant in
    let place = c.loop-place.place in
    record {
      counted = kept.counted;
      held = λ columns row rows shows is.
          let many = ap length is ∙ length-map columns _ in
          kept.known columns row rows shows is ∙ held_before-all rows row columns place (omega (arith, many, kept.counted, c.loop-place-test.false));
      texts = λ columns row before shows counted keeps.
          let past : length (row_line columns row) ≤ place = omega (arith, counted, kept.counted, c.loop-place-test.false, length-map columns (cell_text row)) in
          subst (Keeps c.loop-place.texts) (ap (λ (line : List (List ℕ)). before ++ line) (take_all place (row_line columns row) past))
          (kept.texts columns row before shows counted keeps);
    }

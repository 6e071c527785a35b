use Rattle.std.proofs.Common.{ℕ, List, ◌++◌, ◌<◌, ◌≡◌, length, ap, ap₂, sym, ◌∙◌, arith}
use Rattle.std.proofs.lemmas.Bool.{eqb-false, eqb-true}
use Rattle.std.proofs.lemmas.Grind.{common_steps}
use Rattle.std.proofs.lemmas.Result.{IfOk-weaker}
use Rattle.cal_tabfmt.specs.Grid.{without_end}
use Rattle.cal_tabfmt.proofs.EndLemmas.{HasLine-blank, HasLine-text, without_end-le}
use Rattle.cal_tabfmt.proofs.ends.append_text.Goals as goal

pub returns-then-is_empty : goal.returns-then-is_empty
returns-then-is_empty c =
    let text = c.args.text.now in
    let kept = c.without_end-kept.ensures in
    let none : length (without_end text) ≡ 0 = ap length (sym kept) ∙ eqb-true _ 0 (sym c.is_empty.ensures ∙ c.if-is_empty.true) in
    IfOk-weaker c.added.result _ _
    (λ sum is before line has.
    HasLine-blank before c.args.out.now line c.args.pending has text sum none is)
    c.added.ensures

pub returns : goal.returns
returns c =
    let text = c.args.text.now in
    let kept = c.without_end-kept.ensures in
    let many : 0 < length (without_end text) = omega (arith, ap length kept, eqb-false _ 0 (sym c.is_empty.ensures ∙ c.if-is_empty.false)) in
    let new = c.in_ok-push_str.ensures.ok ∙ ap₂ (λ (front last : List ℕ). front ++ last) c.in_ok-append_spaces.ensures kept in
    λ before line has.
    HasLine-text before c.args.out.now line c.args.pending has text _ _ many new
    (grind (arith, common_steps, ap length kept))

pub overflow_sub-result : goal.overflow_sub-result
overflow_sub-result c =
    let kept = c.without_end-kept.ensures in
    omega (arith, ap length kept, without_end-le c.args.text.now)

use Rattle.std.proofs.Common.{sym, ap, ◌∙◌}
use Rattle.std.proofs.lemmas.Result.{IfOk-weaker}
use Rattle.std.specs.List.{filter_map}
use Rattle.cal_filter.specs.Kept.{kept}
use Rattle.cal_engine.specs.Answers.{answer_with}
use Rattle.cal_engine.specs.Folding.{folded}
use Rattle.cal_engine.specs.Rows.{rows_of}
use Rattle.cal_engine.proofs.fold.Fold.finish.Goals as goal

pub returns : goal.returns
returns c = IfOk-weaker c.answer_over.result _ _
    (λ answer over. λ q rs stands.
    let rs_kept = filter_map (kept q) rs in
    let whole = c.self.view_is ∙ stands in
    let query_is = ap (λ f. f.query) whole in
    over rs_kept (whole ∙ ap (λ p. folded p rs_kept) (sym query_is))
    ∙ ap (λ p. answer_with p (rows_of p rs_kept)) query_is)
    c.answer_over.ensures

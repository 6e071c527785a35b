use Rattle.std.proofs.Common.{sym, ap, ◌∙◌}
use Rattle.std.specs.List.{filter_map}
use Rattle.cal_filter.specs.Kept.{kept}
use Rattle.cal_engine.proofs.Folds.{stands_with}
use Rattle.cal_engine.proofs.fold.Fold.add.Goals as goal

pub returns-in_ok-add_kept-clause-ok : goal.returns-in_ok-add_kept-clause-ok
returns-in_ok-add_kept-clause-ok c = λ q rs stands.
    stands_with q rs c.args.rec c.in-Some.kept c.add_kept.new.self
    (sym c.in-Some.is ∙ c.in_ok-kept.ensures ∙ ap (λ p. kept p c.args.rec) (ap (λ f. f.query) (c.self.view_is ∙ stands)))
    (c.in_ok-add_kept.ensures.ok q (filter_map (kept q) rs) stands)

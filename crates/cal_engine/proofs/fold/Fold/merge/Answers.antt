use Rattle.std.proofs.Common.{◌∙◌}
use Rattle.std.proofs.lemmas.Result.{on_ok_weaker}
use Rattle.std.specs.List.{filter_map}
use Rattle.cal_filter.specs.Kept.{kept}
use Rattle.cal_engine.proofs.Folds.{folded_merged, stands_merged}
use Rattle.cal_engine.proofs.fold.Fold.merge.Goals as goal

pub returns-clause-ok : goal.returns-clause-ok
returns-clause-ok c = on_ok_weaker c.merge_held.result
    (λ held. λ q rs ss stands also.
    stands_merged q rs ss _
    (folded_merged q (filter_map (kept q) rs) (filter_map (kept q) ss) _ _ c.merge_held.new.groups c.merge_held.new.rows
    (c.self.view_is ∙ stands) (c.other.view_is ∙ also) held.0 held.1))
    c.merge_held.ensures.ok

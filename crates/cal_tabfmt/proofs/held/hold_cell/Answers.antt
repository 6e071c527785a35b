use Rattle.std.proofs.Common.{List, ℕ, ◌∷◌, [], ◌++◌, max, ap, subst, ◌∙◌}
use Rattle.cal_tabfmt.specs.Grid.{on_line}
use Rattle.cal_tabfmt.specs.Kept.{Keeps}
use Rattle.cal_tabfmt.proofs.TableLemmas.{hold_more}
use Rattle.cal_tabfmt.proofs.held.hold_cell.Goals as goal

pub returns-in_ok-width-in-Some-clause-held : goal.returns-in_ok-width-in-Some-clause-held
returns-in_ok-width-in-Some-clause-held c =
    λ columns row rows shows within is.
    hold_more rows row columns c.args.place c.args.all.now.items _ c.with.result c.in-Some.cell.now within is c.index.ensures (c.in-Some.ensures columns row shows within)
    (c.with.ensures.width ∙ ap (max c.index.result.now.width) c.in_ok-width-in-Some.ensures.width) c.with.ensures.some c.with.ensures.words

pub returns-in_ok-width-in-Some-clause-texts : goal.returns-in_ok-width-in-Some-clause-texts
returns-in_ok-width-in-Some-clause-texts c =
    λ columns row before shows within kept.
    subst (λ (text : List ℕ). Keeps c.keep_shown.new.texts (before ++ text ∷ []))
    (ap on_line (c.in-Some.ensures columns row shows within).text)
    (c.in_ok-width-in-Some.ensures.texts before kept)

pub returns-in-None-clause-held : goal.returns-in-None-clause-held
returns-in-None-clause-held c = λ columns row rows shows within is. absurd (c.in-None.ensures columns row shows within)

pub returns-in-None-clause-texts : goal.returns-in-None-clause-texts
returns-in-None-clause-texts c = λ columns row before shows within kept. absurd (c.in-None.ensures columns row shows within)

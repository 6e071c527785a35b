use Rattle.std.proofs.Common.{[], ◌∷◌, ap, ◌∙◌}
use Rattle.cal_filter.specs.Conditions.{where_holds}
use Rattle.cal_watch.proofs.Entries.{asked_alone}
use Rattle.cal_watch.proofs.asker.Asker.ask.Goals as goal

pub returns : goal.returns
returns g c =
    let condition = g.D.Decider.condition in
    c.holds.ensures ∙ ap (where_holds (condition ∷ [])) c.in_ok-write.ensures
    ∙ asked_alone condition g.met.D.Decider.plain
    (record { attr = c.args.attribute.now; value = c.args.value.now })

use Rattle.std.proofs.Common.{◌∙◌}
use Rattle.cal_filter.proofs.latest.Latest.begin.Goals as goal

pub returns-clause-latest : goal.returns-clause-latest
returns-clause-latest c = λ knows.
    let t = c.args.context.now in
    c.note_all.ensures.follows t c.requires
    (c.in_ok-forget.ensures.forgets t (c.in_ok-know_attributes.ensures.knows knows))

pub returns-clause-names : goal.returns-clause-names
returns-clause-names c =
    c.note_all.ensures.names ∙ c.in_ok-forget.ensures.names
    ∙ c.in_ok-know_attributes.ensures.names

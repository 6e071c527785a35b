use Rattle.std.proofs.Common.{◌∙◌}
use Rattle.cal_gen.proofs.Kept.{same_values}
use Rattle.cal_gen.proofs.opened.Opened.into_values.Goals as goal

pub returns : goal.returns
returns c =
    c.from_parts.ensures
    ∙ same_values 1016 c.in_ok-kept.kept c.self.inside.places c.in_ok-kept.ensures c.self.invariant
    ∙ c.self.view_is

use Rattle.std.proofs.Common.{◌∙◌}
use Rattle.cal_gen.proofs.Read.{made_means}
use Rattle.cal_gen.proofs.making.generate_script.Goals as goal

pub returns : goal.returns
returns c =
    made_means c.args.seed c.args.threads c.args.lines _ _ _ _ c.requires.threads c.requires.lines c.in_ok-declared.ensures
    c.new-opened.ensures (c.in_ok-values.ensures ∙ c.in_ok-all.ensures.values) c.in_ok-all.ensures.threads

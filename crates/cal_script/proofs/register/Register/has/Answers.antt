use Rattle.std.proofs.Common.{◌∙◌}
use Rattle.cal_script.proofs.Registers.{registered_has}
use Rattle.cal_script.proofs.register.Register.has.Goals as goal

pub returns : goal.returns
returns g c = c.contains.ensures ∙ registered_has g.T.Named.name_of c.args.self.now c.args.name.now c.requires

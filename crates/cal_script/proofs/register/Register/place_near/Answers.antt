use Rattle.std.proofs.Common.{Some, sym}
use Rattle.cal_script.proofs.Registers.{registered_found}
use Rattle.cal_script.proofs.register.Register.place_near.Goals as goal

pub returns-then-is_at-clause-named : goal.returns-then-is_at-clause-named
returns-then-is_at-clause-named g c =
    registered_found g.T.Named.name_of c.args.self.now.items c.args.name.now (Some c.args.likely) (sym (c.is_at.ensures c.if-is_at.true))

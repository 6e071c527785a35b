use Rattle.std.proofs.Common.{◌∙◌}
use Rattle.cal_treefmt.proofs.Naming.{known_by}
use Rattle.cal_treefmt.proofs.columns.is_known.Goals as goal

pub returns : goal.returns
returns c = c.is_some.ensures ∙ known_by c.args.names.now c.args.name.now _ c.place.ensures.found c.place.ensures.unknown

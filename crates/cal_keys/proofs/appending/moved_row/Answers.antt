use Rattle.std.proofs.Common.{map, subst, ap, ◌∙◌}
use Rattle.cal_context.specs.Tree.{path_at}
use Rattle.cal_keys.specs.Moves.{AreMovedImms}
use Rattle.cal_keys.proofs.appending.moved_row.Goals as goal

pub returns : goal.returns
returns c = λ t u attributes nodes. record {
  nodes = c.in_ok-own.ensures t u nodes ∙ ap (map (path_at t)) c.nodes.ensures;
  imms = subst (λ old. AreMovedImms t u old c.in_ok-imms.imms.items) c.imms.ensures (c.in_ok-imms.ensures t u attributes);
}

use Rattle.std.proofs.Common.{map, sym, ap, subst, ◌∙◌}
use Rattle.cal_context.specs.Tree.{path_at}
use Rattle.cal_keys.specs.Moves.{AreMovedAttributes, AreMovedNodes}
use Rattle.cal_keys.proofs.moving.Moved.fill.Goals as goal

pub returns : goal.returns
returns c = λ t moved.
    let from = c.args.self.now.from in
    λ i. record {
      paths = (c.in_ok-nodes.ensures from t
          (subst (AreMovedNodes from t) (sym c.deref.ensures.value) moved.nodes)
          ∙ ap (map (path_at from)) c.paths.ensures) i;
      imms = (c.in_ok-imms.ensures from t
          (subst (AreMovedAttributes from t) (sym c.deref-2.ensures.value) moved.attributes)
          ∙ c.in_ok-fill_immediates.ensures ∙ ap (path_at from) c.imms.ensures) i;
    }

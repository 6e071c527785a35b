use Rattle.std.proofs.Common.{sym, ◌∙◌, ap, subst, [], None}
use Rattle.cal_read.specs.Fields.{if_there}
use Rattle.cal_read.specs.Held.{IsAt}
use Rattle.cal_read.specs.NodeLines.{known, steps_down}
use Rattle.cal_read.proofs.SiteLemmas.{site_found, parent_some}
use Rattle.cal_read.proofs.node_line.site_of.Goals as goal
use Rattle.cal_read.proofs.node_line.site_of.Goals.{in-Some-parent+in-Some-get, in-None}

pub returns : goal.returns
returns c = λ named are.
    elim c.match-ids.branch [
      | in-Some-parent+in-Some-get w ↦
          let it = parent_some c.args.context.now c.args.nodes.now named are _ _ w.in-Some-get.ensures in
          site_found c.args.context.now c.args.nodes.now named are c.args.ids.now c.in-Some.attribute c.in-Some.ensures c.in-Some-number.number c.match-ids.above it.0 c.in-Some-number.is
          (ap (if_there (known named)) w.in-Some-parent.is ∙ it.1) (subst (λ p. IsAt c.args.context.now p (steps_down it.0)) (sym w.above-is) it.2)
      | in-None w ↦
          site_found c.args.context.now c.args.nodes.now named are c.args.ids.now c.in-Some.attribute c.in-Some.ensures c.in-Some-number.number c.match-ids.above None c.in-Some-number.is
          (ap (if_there (known named)) w.in-None.is) (subst (λ p. IsAt c.args.context.now p []) (sym w.above-is) w.root-above.ensures)
    ]

use Rattle.std.proofs.Common.{sym, ◌∙◌, subst}
use Rattle.cal_filter.specs.Known.{sought}
use Rattle.cal_filter.specs.Latest.{IsLast}
use Rattle.cal_filter.proofs.Finding.{found_node}
use Rattle.cal_filter.proofs.NamedLemmas.{found_at}
use Rattle.cal_filter.proofs.seeker.Seeker.find_at.Goals as goal

pub returns-in-Some : goal.returns-in-Some
returns-in-Some c = λ k h.
    let t = c.args.context.now in
    let s = sought c.args.self.now in
    let imms = c.args.imms.now in
    c.value_at.ensures
    ∙ found_at t s c.args.nodes.now imms c.in-Some.place (subst (IsLast t s imms) c.in-Some.is h)

pub returns-in-None : goal.returns-in-None
returns-in-None c = λ k h.
    let t = c.args.context.now in
    let s = sought c.args.self.now in
    let imms = c.args.imms.now in
    c.own_value.ensures (c.last_node.ensures.within k)
    ∙ sym (found_node t s c.args.nodes.now imms c.last_node.result
    (subst (IsLast t s imms) c.in-None.is h).last (c.last_node.ensures.last k))

use Rattle.std.proofs.Common.{ap, sym, ◌∙◌, Some, option_map}
use Rattle.std.proofs.lemmas.Option.{slice_get-get_or}
use Rattle.cal_context.specs.Snapshots.{entry_of}
use Rattle.cal_context.specs.declared.snapshot.Immediate.{Immediate}
use Rattle.cal_filter.specs.Known.{sought}
use Rattle.cal_filter.proofs.Finding.{found_immediate, found_node}
use Rattle.cal_filter.proofs.seeker.Seeker.find_known.Goals as goal

pub returns-in-Some : goal.returns-in-Some
returns-in-Some c = λ k.
    let t = c.args.context.now in
    let s = sought c.args.self.now in
    let imms = c.args.imms.now in
    let at = slice_get-get_or imms c.in-Some.place c.index-imms-place.result c.in-Some.ensures.within
    ∙ ap Some (sym c.index-imms-place.is) in
    ap (λ (i : Immediate). Some i.value) (sym c.index-imms-place.is)
    ∙ sym (found_immediate t s c.args.nodes.now imms c.index-imms-place.result
    (c.in-Some.ensures.last k ∙ ap (option_map (entry_of t)) at))

pub returns-in-None : goal.returns-in-None
returns-in-None c = λ k.
    let t = c.args.context.now in
    let s = sought c.args.self.now in
    c.own_value.ensures (c.last_node.ensures.within k)
    ∙ sym (found_node t s c.args.nodes.now c.args.imms.now c.last_node.result
    (c.in-None.ensures.last k) (c.last_node.ensures.last k))

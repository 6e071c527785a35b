use Rattle.std.proofs.Common.{ap, sym, ◌∙◌, is_some, map}
use Rattle.cal_context.specs.Snapshots.{entry_of}
use Rattle.cal_context.specs.Tree.{path_at}
use Rattle.cal_value.specs.Flat.{joined}
use Rattle.cal_filter.specs.Known.{sought}
use Rattle.cal_filter.specs.Sought.{last_sought}
use Rattle.cal_filter.proofs.Finding.{finds_immediate, finds_node, is_root, isnt_root}
use Rattle.cal_filter.proofs.Finding.{place_is_some}
use Rattle.cal_filter.proofs.seeker.Seeker.finds.Goals as goal

pub returns-then-ne : goal.returns-then-ne
returns-then-ne c = λ k.
    let t = c.args.context.now in
    let s = sought c.args.self.now in
    sym (finds_node t s c.args.snapshot.now.nodes.items c.args.snapshot.now.imms.items
    c.has_each_once.ensures c.last_node.result (c.last_node.ensures.within k)
    (isnt_root c.last_node.result c.ne.result c.ne.ensures c.if-ne.true)
    (sym (ap (λ ns. last_sought s (joined (map (path_at t) ns))) c.deref.ensures.value)
    ∙ c.last_node.ensures.last k))

pub returns : goal.returns
returns c = λ k.
    let t = c.args.context.now in
    let s = sought c.args.self.now in
    c.is_some.ensures
    ∙ sym (finds_immediate t s c.args.snapshot.now.nodes.items c.args.snapshot.now.imms.items
    c.has_each_once.ensures c.last_node.result
    (is_root c.last_node.result c.ne.result c.ne.ensures c.if-ne.false)
    (sym (ap (λ ns. last_sought s (joined (map (path_at t) ns))) c.deref.ensures.value)
    ∙ c.last_node.ensures.last k)
    ∙ ap is_some (sym (ap (λ is. last_sought s (map (entry_of t) is)) c.deref-2.ensures.value)
    ∙ c.last_immediate.ensures.last k)
    ∙ place_is_some c.deref-2.result.now c.last_immediate.result
    c.last_immediate.ensures.within (entry_of t))

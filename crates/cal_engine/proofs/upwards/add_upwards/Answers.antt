use Rattle.std.proofs.Common.{List, sym, ap, subst, ◌∙◌, arith}
use Rattle.std.proofs.lemmas.List.{length-set}
use Rattle.std.specs.Prelude.{slice_set}
use Rattle.cal_context.specs.Tree.{path_at}
use Rattle.cal_parts.specs.Parts.{Gathered, merged_parts}
use Rattle.cal_engine.specs.Totals.{IsAddedAbove, IsAddedFrom}
use Rattle.cal_engine.proofs.Ascents.{added_last, added_more, added_none, begins_itself, parent_begins}
use Rattle.cal_engine.proofs.upwards.add_upwards.Goals as goal

pub loop-link-init : goal.loop-link-init
loop-link-init c = record {
  within = c.requires.node;
  long = c.requires.long;
  above = begins_itself (path_at c.args.context.now c.args.node);
  added = added_none c.args.context.now c.args.node c.args.parts.now c.args.totals.now.items;
}

pub loop-link-preserved : goal.loop-link-preserved
loop-link-preserved c =
    let t = c.args.context.now in
    let inv = c.loop-link.invariant in
    let node = c.loop-link.at in
    let now = c.loop-link.totals.items in
    let linked = c.in-Some.ensures.linked in
    let total = c.in_ok-merge_into.ensures ∙ ap (λ ps. merged_parts ps c.args.parts.now) c.index_mut.ensures.value in
    record {
      within = omega (arith, linked.child.later, inv.within);
      long = simp length-set inv.long;
      above = parent_begins c.has_each_once.ensures c.in-Some.link node c.args.node linked inv.above;
      added = subst (λ (x : List Gathered). IsAddedFrom t c.args.node c.in-Some.link.parent c.args.parts.now c.args.totals.now.items (slice_set now node.0 x)) (sym total)
          (added_more c.has_each_once.ensures c.args.node node c.args.parts.now c.args.totals.now.items now c.index_mut.result.now
          inv.added inv.within c.requires.long inv.long inv.above c.in-Some.link linked);
    }

pub returns-in-None-clause-added : goal.returns-in-None-clause-added
returns-in-None-clause-added c =
    let t = c.args.context.now in
    let inv = c.loop-link.invariant in
    let node = c.loop-link.at in
    let now = c.loop-link.totals.items in
    let total = c.in_ok-merge_into.ensures ∙ ap (λ ps. merged_parts ps c.args.parts.now) c.index_mut.ensures.value in
    subst (λ (x : List Gathered). IsAddedAbove t c.args.node c.args.parts.now c.args.totals.now.items (slice_set now node.0 x)) (sym total)
    (added_last c.has_each_once.ensures c.args.node node c.args.parts.now c.args.totals.now.items now c.index_mut.result.now
    inv.added inv.within c.requires.long inv.long inv.above c.in-None.ensures.root.1)

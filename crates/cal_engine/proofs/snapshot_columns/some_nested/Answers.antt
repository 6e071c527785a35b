use Rattle.std.proofs.Common.{get_or, map, sym, ap, ◌∙◌, arith}
use Rattle.std.specs.List.{list_any}
use Rattle.std.proofs.lemmas.List.{get_or_default}
use Rattle.cal_context.specs.Tree.{attribute_at, path_at}
use Rattle.cal_rowset.specs.Hierarchy.{is_of_hierarchy}
use Rattle.cal_engine.specs.Visiting.{IsPlain}
use Rattle.cal_engine.proofs.Learned.{any_at, none_more}
use Rattle.cal_engine.proofs.Visiting.{met_now, nested_trail, plain_none}
use Rattle.cal_engine.proofs.snapshot_columns.some_nested.Goals as goal

pub returns-then-has_nested-clause-some : goal.returns-then-has_nested-clause-some
returns-then-has_nested-clause-some c =
    let t = c.args.context.now in
    let nodes = c.args.nodes.now in
    let n = c.loop-node.node-index in
    let node = get_or nodes n (record { 0 = 0 }) in
    sym (any_at (λ path. list_any (λ e. is_of_hierarchy e.attr) path) (path_at t) nodes n node (omega arith)
    (get_or_default nodes n (record { 0 = 0 }) node (omega arith))
    (nested_trail t c.loop-node.visits c.visit.new.self node c.in_ok-visit.field-0 c.in_ok-visit.ensures c.loop-node.invariant.met
    ∙ ap (λ trail. list_any is_of_hierarchy (map (attribute_at t) trail)) (sym c.deref.ensures.value) ∙ sym c.has_nested.ensures ∙ c.if-has_nested.true))

pub loop-node-preserved : goal.loop-node-preserved
loop-node-preserved c =
    let t = c.args.context.now in
    let inv = c.loop-node.invariant in
    let old = c.loop-node.visits in
    let new = c.visit.new.self in
    let nodes = c.args.nodes.now in
    let n = c.loop-node.node-index in
    let node = get_or nodes n (record { 0 = 0 }) in
    let none = ap (λ trail. list_any is_of_hierarchy (map (attribute_at t) trail)) (sym c.deref.ensures.value) ∙ sym c.has_nested.ensures ∙ c.if-has_nested.false in
    record {
      met = met_now IsPlain t old new node c.in_ok-visit.field-0 c.in_ok-visit.ensures inv.met (plain_none (map (attribute_at t) new.trail.items) none);
      none = none_more (λ path. list_any (λ e. is_of_hierarchy e.attr) path) (path_at t) nodes n (record { 0 = 0 }) (omega arith) inv.none
          (nested_trail t old new node c.in_ok-visit.field-0 c.in_ok-visit.ensures inv.met ∙ none);
    }
